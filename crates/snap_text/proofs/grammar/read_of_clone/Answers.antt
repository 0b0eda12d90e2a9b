use Rattle.std.proofs.lemmas.Result.{err_from_is_err_and}
use Rattle.snap_model.specs.declared.command.Command.TheVariants as command
use Rattle.snap_text.proofs.Asking.{refused_of_clone}
use Rattle.snap_text.proofs.grammar.read_of_clone.Goals as goal

pub returns-in_err-slot : goal.returns-in_err-slot
returns-in_err-slot c =
    let p = err_from_is_err_and c.from_residual.result c.from_residual.ensures.1 in
    rw (p.1, p.2) (refused_of_clone c.args.verb c.requires c.args.words c.args.clones.now c.in_err-slot.field-0.0 c.in_err-slot.ensures)

pub returns-in-First : goal.returns-in-First
returns-in-First c = rw c.in-First.is (c.in_ok-slot.ensures (λ slot. command.First slot))

pub returns-in-Last : goal.returns-in-Last
returns-in-Last c = rw c.in-Last.is (c.in_ok-slot.ensures (λ slot. command.Last slot))

pub returns-in-Depth : goal.returns-in-Depth
returns-in-Depth c = rw c.in-Depth.is (c.in_ok-slot.ensures (λ slot. command.Depth slot))
