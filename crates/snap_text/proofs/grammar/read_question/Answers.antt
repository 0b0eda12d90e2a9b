use Rattle.std.proofs.lemmas.Result.{err_from_is_err_and}
use Rattle.snap_model.specs.declared.command.Command.TheVariants as command
use Rattle.snap_text.proofs.Asking.{refused}
use Rattle.snap_text.proofs.grammar.read_question.Goals as goal

pub returns-in_err-slot : goal.returns-in_err-slot
returns-in_err-slot c =
    let p = err_from_is_err_and c.from_residual.result c.from_residual.ensures.1 in
    rw (p.1, p.2) (refused c.args.verb c.requires c.args.words c.args.clones.now c.in_err-slot.field-0.0 c.in_err-slot.ensures)

pub returns-in-See : goal.returns-in-See
returns-in-See c = rw c.in-See.is (c.in_ok-slot.ensures (λ slot key. command.See slot key))

pub returns-in-Floor : goal.returns-in-Floor
returns-in-Floor c = rw c.in-Floor.is (c.in_ok-slot.ensures (λ slot key. command.Floor slot key))

pub returns-in-Lower : goal.returns-in-Lower
returns-in-Lower c = rw c.in-Lower.is (c.in_ok-slot.ensures (λ slot key. command.Lower slot key))

pub returns-in-Ceiling : goal.returns-in-Ceiling
returns-in-Ceiling c = rw c.in-Ceiling.is (c.in_ok-slot.ensures (λ slot key. command.Ceiling slot key))

pub returns-in-Higher : goal.returns-in-Higher
returns-in-Higher c = rw c.in-Higher.is (c.in_ok-slot.ensures (λ slot key. command.Higher slot key))
