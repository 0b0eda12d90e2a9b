use Rattle.std.proofs.Common.{[], ◌∷◌, ◌∙◌, refl}
use Rattle.std.proofs.lemmas.Result.{err_from_is_err_and}
use Rattle.snap_model.specs.declared.command.Command.TheVariants as command
use Rattle.snap_text.specs.Grammar.{File, form_of}
use Rattle.snap_text.specs.declared.verb.Verb.TheVariants as verb
use Rattle.snap_text.proofs.Asking.{on_clone_is}
use Rattle.snap_text.proofs.grammar.read_export.Goals as goal

pub returns-in_err-name-2 : goal.returns-in_err-name-2
returns-in_err-name-2 c =
    let four = c.in_ok-name.ensures in
    let bounds = c.in_err-name-2.ensures (File ∷ []) (form_of verb.Export).make (c.in_ok-name.file.now ∷ []) in
    let p = err_from_is_err_and c.from_residual-in_err-name-2.result c.from_residual-in_err-name-2.ensures.1 in
    rw (p.1, p.2, four, bounds) refl

pub returns-in_err-file : goal.returns-in_err-file
returns-in_err-file c =
    let four = c.in_ok-name.ensures in
    let bounds = c.in_ok-name-2.ensures (File ∷ []) (form_of verb.Export).make (c.in_ok-name.file.now ∷ []) in
    let file = c.in_err-file.ensures in
    let p = err_from_is_err_and c.from_residual-in_err-file.result c.from_residual-in_err-file.ensures.1 in
    rw (p.1, p.2, four, bounds, file) refl

pub returns-in_err-slot_of : goal.returns-in_err-slot_of
returns-in_err-slot_of c =
    let four = c.in_ok-name.ensures in
    let bounds = c.in_ok-name-2.ensures (File ∷ []) (form_of verb.Export).make (c.in_ok-name.file.now ∷ []) in
    let file = c.in_ok-file.ensures in
    let slot = c.in_err-slot_of.ensures in
    let p = err_from_is_err_and c.from_residual-in_err-slot_of.result c.from_residual-in_err-slot_of.ensures.1 in
    rw (p.1, p.2, four, bounds, file)
    (on_clone_is c.in_ok-name-2.name.now (λ slot. command.Export slot c.in_ok-name-2.lo c.in_ok-name-2.hi c.in_ok-file.file.now) c.args.clones.now ∙ rw (← slot) refl)

pub returns : goal.returns
returns c =
    let four = c.in_ok-name.ensures in
    let bounds = c.in_ok-name-2.ensures (File ∷ []) (form_of verb.Export).make (c.in_ok-name.file.now ∷ []) in
    let file = c.in_ok-file.ensures in
    let slot = c.in_ok-slot_of.ensures in
    let made = c.in_ok-new.ensures in
    rw (four, bounds, file, made)
    (on_clone_is c.in_ok-name-2.name.now (λ slot. command.Export slot c.in_ok-name-2.lo c.in_ok-name-2.hi c.in_ok-file.file.now) c.args.clones.now ∙ rw (← slot) refl)
