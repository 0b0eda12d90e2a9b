use Rattle.std.proofs.Common.{◌∙◌, arith, refl, sym, ap}
use Rattle.snap_write.specs.Outputs.{names_of}
use Rattle.snap_write.proofs.Causes.{if_err, unwritten_at}
use Rattle.snap_write.proofs.Written.{begun_here, names-at, names-length, nothing_written, on_err, one_more}
use Rattle.snap_write.proofs.writing.write_all.Goals as goal

pub loop-output-init : goal.loop-output-init
loop-output-init g c = record { written = nothing_written (g.S.Shelf.files c.args.shelf.now); later = omega arith; reads = refl }

pub returns-in_err-write_output-clause-begun : goal.returns-in_err-write_output-clause-begun
returns-in_err-write_output-clause-begun g c =
    on_err _ _ (begun_here c.args.outputs.now c.loop-output.output-index c.output-item.result _ _ _ c.requires c.loop-output-test.true c.output-item.is c.loop-output.invariant.written c.in_err-write_output.ensures.begun)

pub returns-in_err-write_output-clause-stops : goal.returns-in_err-write_output-clause-stops
returns-in_err-write_output-clause-stops g c = if_err _ _ c.in_err-write_output.field-0.0 c.from_residual.ensures.1
    (unwritten_at (names_of c.args.outputs.now) c.loop-output.output-index c.output-item.result.0 c.output-item.result.0 _ _ _ c.in_err-write_output.field-0.0 (omega (arith, c.loop-output-test.true, names-length c.args.outputs.now))
    (ap (λ y. y.0) c.output-item.is ∙ sym (names-at c.args.outputs.now c.loop-output.output-index c.output-item.result)) c.loop-output.invariant.later c.in_err-write_output.ensures.stops)

pub loop-output-preserved : goal.loop-output-preserved
loop-output-preserved g c = record {
  written = one_more c.args.outputs.now c.loop-output.output-index c.output-item.result _ _ _ c.requires c.loop-output-test.true c.output-item.is c.loop-output.invariant.written c.in_ok-write_output.ensures.written;
  later = omega (arith, c.loop-output.invariant.later, c.in_ok-write_output.ensures.later);
  reads = c.in_ok-write_output.ensures.reads ∙ c.loop-output.invariant.reads;
}
