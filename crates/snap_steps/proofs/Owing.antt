-- What a view tells of its pass's debt, under the rule.
use Rattle.std.proofs.Common.{◌≡◌, ◌<◌, ◌∙◌, inl, inr, ℕ, zero, suc, List, refl, ap, subst, arith}
use lib.ListN.{get_elem?}
use mathlib.Core.Option.{some}
use Rattle.snap_rule.proofs.Debts.Turning.{turned_row}
use Rattle.snap_rule.specs.Debt.{DebtOk, OwesNone, no_debt}
use Rattle.snap_rule.specs.Debt.Lists.{noted, aimed}
use Rattle.snap_rule.specs.Debt.Step.{IsFree}
use Rattle.snap_rule.specs.Doing.{Concerns}
use Rattle.snap_rule.specs.Room.{HasRoom}
use Rattle.snap_rule.specs.State.{State as Table}
use Rattle.snap_rule.specs.Updates as updates
use Rattle.snap_rule.specs.declared.change.Doing.{Doing}
use Rattle.snap_rule.specs.declared.change.Doing.TheVariants.{Nothing, Unlinked, Shrunk, Lowered, Lifted, Turned}
use Rattle.snap_rule.specs.declared.debt.Debt.{Debt}
use Rattle.snap_rule.specs.declared.debt.Mark.{Mark}
use Rattle.snap_steps.specs.Counting.{times}
use Rattle.snap_steps.specs.Roles.{is_live}
use Rattle.snap_steps.specs.Rule.{Kept}
use Rattle.snap_steps.specs.Rule.Debts.{debts_of}
use Rattle.snap_steps.specs.States.{state_of}
use Rattle.snap_steps.specs.Steps.Debts.{listing, aimed_at, KnowsReason, OwesNothing}
use Rattle.snap_steps.specs.declared.rule.About.{About}
use Rattle.snap_steps.specs.declared.view.View.{View}
use Rattle.snap_steps.proofs.Parts.Debts.{debts_at, debts_turning, owed_itself}
use Rattle.snap_steps.proofs.Parts.Locks.{others_apart}
use Rattle.snap_steps.proofs.Tables.{times_in}

-- the lists by known words are those by the table's
pub listing_is : (s : Table) (n x : ℕ) (l : List Mark) → s.stamp n ≡ x → noted s n l ≡ listing n x l
listing_is s zero x l e = refl
listing_is s (suc n) x l e = ap (λ y. listing (suc n) y l) e

pub aimed_is : (s : Table) (n key : ℕ) (l : List Mark) → s.key n ≡ key → aimed s n l ≡ aimed_at n key l
aimed_is s zero key l e = refl
aimed_is s (suc n) key l e = ap (λ y. aimed_at (suc n) y l) e

-- who holds no row is in no change
pub doing_free : (g : Doing) (holds : List ℕ) → ((n : ℕ) → Concerns g n → 0 < times n holds) → ((n : ℕ) → times n holds ≡ 0) → g ≡ Nothing
doing_free Nothing holds h free = refl
doing_free (Unlinked p e row only) holds h free = absurd (omega (arith, h p refl, free p))
doing_free (Shrunk p q row e raised) holds h free = absurd (omega (arith, h row (inr (inl refl)), free row))
doing_free (Lowered p q row e raised) holds h free = absurd (omega (arith, h row (inr (inl refl)), free row))
doing_free (Lifted p q row e raised) holds h free = absurd (omega (arith, h row (inr (inl refl)), free row))
doing_free (Turned row) holds h free = absurd (omega (arith, h row refl, free row))

module _ {about : About} {words : List ℕ} {views : List View} (k : Kept about words views) (id : ℕ) (v : View) (at : get_elem? views id ≡ some v) where
  -- a reason leaves no room
  pub no_room : is_live v.role ≡ 1 → KnowsReason v → ¬ HasRoom (state_of k.m k.g) k.m.next about.rows
  no_room live (inl full) room = let h = (k.notes id v at).handed_is in let e = (k.about_known id v at live).0 in omega (arith, room.rows_left)
  no_room live (inr worn) room = let h = k.worn id v at worn in omega (arith, h.last, room.stamps h.row (inr (times_in h.row k.g.linked h.linked)))

  -- under room a pass without a debt owes nothing
  pub owes_none : is_live v.role ≡ 1 → OwesNothing v → HasRoom (state_of k.m k.g) k.m.next about.rows → OwesNone (state_of k.m k.g) (debts_of views id)
  owes_none live (inl none) room n owes = absurd (subst (λ (u : Debt). Rattle.snap_rule.specs.Debt.Owes (state_of k.m k.g) u n) (debts_at views id v at ∙ none) owes)
  owes_none live (inr why) room n owes = absurd (no_room live why room)

  -- no other pass is lowering a row that this one holds
  pub held_free : (n : ℕ) → 0 < times n v.holds → IsFree (debts_of views) id n
  held_free n held j ne turning = let t = debts_turning views j n turning in
      let concerned = turned_row (state_of k.m k.g) t.0.doing t.0.debt n (k.debts j t.0 t.1).0 t.2 in
      omega (arith, k.held j t.0 t.1 n concerned, others_apart views id v at k.m.rows n k.locked held j t.0 ne t.1)

  -- a debt that is none already
  pub owed_none : v.debt ≡ no_debt → DebtOk (state_of k.m k.g) (debts_of views) → DebtOk (state_of k.m k.g) (updates.changed (debts_of views) id no_debt)
  owed_none none ok = subst (λ (d : Debt). DebtOk (state_of k.m k.g) (updates.changed (debts_of views) id d)) none (owed_itself views id v at (state_of k.m k.g) ok)
