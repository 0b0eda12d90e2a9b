use Rattle.std.proofs.Common.{refl, sym, subst, ap, ◌∙◌, ℕ}
use Rattle.snap_steps.specs.Asking.{about_of}
use Rattle.snap_steps.specs.Clones.{Cloned, image, TellsWord}
use Rattle.snap_steps.specs.Roles.{is_live}
use Rattle.snap_steps.specs.Steps.Clones.{IsSeatOfClone}
use Rattle.snap_steps.specs.Steps.Told.{Sat}
use Rattle.snap_steps.specs.declared.view.View.{View}
use Rattle.snap_steps.proofs.Copying.{seen_as}
use Rattle.snap_steps.proofs.Keeps.Clones.{copies}
use Rattle.snap_steps.proofs.clones.copy_word.Goals as goal

pub load-requires-clause-step : goal.load-requires-clause-step
load-requires-clause-step c =
    copies (about_of c.args.rows.now) c.args.rows.now.table.slots c.seat.inside.seat.id c.seat.inside.seat.me c.args.row c.args.field c.requires.row (ap (λ (x : View). is_live x.role) c.seat.invariant.viewing)

pub invariant_of-seat : goal.invariant_of-seat
invariant_of-seat c = let t = c.load.ensures.step c.args.row c.args.field refl in subst (λ (m : Sat). IsSeatOfClone m c.seat.inside.top) (sym t.0) c.seat.invariant

pub returns-clause-word : goal.returns-clause-word
returns-clause-word c =
    let t = c.load.ensures.step c.args.row c.args.field refl in
    let told = subst (λ (k : Cloned). TellsWord k.rows (image k) c.args.row c.args.field c.load.result) c.seat.view_is t.1 in
    subst (λ (n : ℕ). TellsWord n (image c.args.seat.now) c.args.row c.args.field c.load.result) c.requires.table.1 told

pub returns-clause-seat : goal.returns-clause-seat
returns-clause-seat c =
    let t = c.load.ensures.step c.args.row c.args.field refl in
    (λ i. seen_as (c.load.ensures.table i) (t.0 i) c.seat.inside.next) ∙ c.seat.view_is
