use Rattle.std.specs.Prelude.{All, IfNone}
use Rattle.std.proofs.Common.{◌≡◌, ◌∙◌, List, Option, None, Some, ap, refl, subst, sym}
use Rattle.snap_outlet.specs.declared.view.Sent.{Sent}
use Rattle.snap_outlet.specs.declared.view.View.{View}
use Rattle.snap_outlet.specs.Outlets.{IsAll, TakerAt}
use Rattle.snap_outlet.specs.Rule.{tally_in}
use Rattle.snap_outlet.proofs.Posts.{all_put}
use Rattle.snap_outlet.proofs.Rule.{fetches, finds}
use Rattle.snap_outlet.proofs.outlet.Outlet.take.Goals as goal

pub pop_as-requires-clause-rule : goal.pop_as-requires-clause-rule
pop_as-requires-clause-rule g c = (fetches _ _ c.taker.invariant.2, finds _ _ c.taker.invariant.2)

if_none : {X : Type 0} (o : Option X) (P : Type 0) → P → IfNone o P
if_none None P p = p
if_none (Some x) P p = tt

pub returns-in_err-parcel-clause-all_put : goal.returns-in_err-parcel-clause-all_put
returns-in_err-parcel-clause-all_put g c = if_none c.from_residual.result _ (λ posts is numbered.
    let old : View = c.taker.inside.pass.me.view.client in
    let new : View = c.pop_as.new.pass.me.view.client in
    let same : new ≡ old = c.in_err-parcel.ensures.rule.0 in
    let found = c.in_err-parcel.ensures.rule.1 refl in
    let taken = (let t = tally_in new in t.taken) in
    let finished : (let t = tally_in old in t.finished) ≡ _ = ap (λ (t : TakerAt). let u = t.tally in u.finished) c.taker.view_is ∙ is in
    let all : All (IsAll taken) (let t = tally_in old in t.finished) = subst (λ (v : View). let t = tally_in v in All (IsAll t.taken) (let u = tally_in old in u.finished)) (sym same) found.all in
    all_put taken posts (subst (λ (l : List Sent). All (IsAll taken) l) finished all) numbered)
