use Rattle.std.proofs.Common.{List, ℕ, ◌∙◌, subst}
use Rattle.snap_io.specs.Prelude.{Rose}
use Rattle.snap_run.specs.Worlds.{Tells}
use Rattle.snap_run.proofs.Results.{told_by}
use Rattle.snap_run.proofs.reporting.tell_fault.Goals as goal

pub returns-clause-told : goal.returns-clause-told
returns-clause-told g c =
    let before = g.K.Sink.written c.args.sink.now in let now = g.K.Sink.written c.put.new.self in let rose = Rose (g.K.Sink.faults c.args.sink.now) (g.K.Sink.faults c.put.new.self) in
    subst (λ (t : List ℕ). Tells before now rose t) (c.as_bytes.ensures.value ∙ c.in_ok-text.ensures) (told_by before now c.as_bytes.result.now c.put.result rose c.put.ensures.bytes c.put.ensures.cause.failed)
