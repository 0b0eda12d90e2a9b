use Rattle.std.proofs.Common.{◌∙◌, [], arith, refl}
use Rattle.snap_write.specs.Outputs.{blank}
use Rattle.snap_write.proofs.Causes.{if_err, unwritten_at}
use Rattle.snap_write.proofs.Written.{begun_here, blank_apart, blank_at, blank_within, nothing_written, on_err, one_more}
use Rattle.snap_write.proofs.writing.create_all.Goals as goal

pub loop-file-init : goal.loop-file-init
loop-file-init g c = record { written = nothing_written (g.S.Shelf.files c.args.shelf.now); later = omega arith; reads = refl }

pub returns-in_err-create-clause-begun : goal.returns-in_err-create-clause-begun
returns-in_err-create-clause-begun g c = let names = c.args.files.now in let i = c.loop-file.file-index in let name = c.file-item.result in
    on_err _ _ (begun_here (blank names) i (name, []) _ _ _ (blank_apart names c.requires) (blank_within names i c.loop-file-test.true) (blank_at names i name c.loop-file-test.true c.file-item.is) c.loop-file.invariant.written c.in_err-create.ensures.begun)

pub returns-in_err-create-clause-stops : goal.returns-in_err-create-clause-stops
returns-in_err-create-clause-stops g c = if_err _ _ c.in_err-create.field-0.0 c.from_residual.ensures.1
    (unwritten_at c.args.files.now c.loop-file.file-index c.file-item.result c.file-item.result _ _ _ c.in_err-create.field-0.0 c.loop-file-test.true c.file-item.is c.loop-file.invariant.later c.in_err-create.ensures.stops)

pub loop-file-preserved : goal.loop-file-preserved
loop-file-preserved g c = let names = c.args.files.now in let i = c.loop-file.file-index in let name = c.file-item.result in record {
  written = one_more (blank names) i (name, []) _ _ _ (blank_apart names c.requires) (blank_within names i c.loop-file-test.true) (blank_at names i name c.loop-file-test.true c.file-item.is) c.loop-file.invariant.written c.in_ok-create.ensures.written;
  later = omega (arith, c.loop-file.invariant.later, c.in_ok-create.ensures.later);
  reads = c.in_ok-create.ensures.reads ∙ c.loop-file.invariant.reads;
}
