use Rattle.std.proofs.Common.{[], ◌∙◌, refl}
use Rattle.std.proofs.lemmas.Result.{err_from_is_err_and}
use Rattle.snap_model.specs.declared.command.Command.TheVariants as command
use Rattle.snap_text.specs.Grammar.{form_of}
use Rattle.snap_text.specs.declared.verb.Verb.TheVariants as verb
use Rattle.snap_text.proofs.Asking.{on_clone_is}
use Rattle.snap_text.proofs.grammar.read_count.Goals as goal

pub returns-in_err-name-2 : goal.returns-in_err-name-2
returns-in_err-name-2 c =
    let three = c.in_ok-name.ensures in
    let bounds = c.in_err-name-2.ensures [] (form_of verb.Count).make [] in
    let p = err_from_is_err_and c.from_residual-in_err-name-2.result c.from_residual-in_err-name-2.ensures.1 in
    rw (p.1, p.2, three, bounds) refl

pub returns-in_err-slot_of : goal.returns-in_err-slot_of
returns-in_err-slot_of c =
    let three = c.in_ok-name.ensures in
    let bounds = c.in_ok-name-2.ensures [] (form_of verb.Count).make [] in
    let slot = c.in_err-slot_of.ensures in
    let p = err_from_is_err_and c.from_residual-in_err-slot_of.result c.from_residual-in_err-slot_of.ensures.1 in
    rw (p.1, p.2, three, bounds)
    (on_clone_is c.in_ok-name-2.name.now (λ slot. command.Count slot c.in_ok-name-2.lo c.in_ok-name-2.hi) c.args.clones.now ∙ rw (← slot) refl)

pub returns : goal.returns
returns c =
    let three = c.in_ok-name.ensures in
    let bounds = c.in_ok-name-2.ensures [] (form_of verb.Count).make [] in
    let slot = c.in_ok-slot_of.ensures in
    rw (three, bounds)
    (on_clone_is c.in_ok-name-2.name.now (λ slot. command.Count slot c.in_ok-name-2.lo c.in_ok-name-2.hi) c.args.clones.now ∙ rw (← slot) refl)
