-- The gate, once a view has changed.
use Rattle.std.proofs.Common.{◌≡◌, ℕ, List, set, ap, subst, sym, arith, ◌+◌, ◌<◌, ◌≤◌, ◌*◌, true, false, [], ◌∷◌, refl, ◌⊎◌, inl, inr, eqb, eqb-true, Bool, ◌∙◌, ◌/◌, cond}
use lib.ListN.{get_elem?}
use mathlib.Core.Option.{some}
use Rattle.snap_steps.specs.Rule.Gate.{IsGated, KnowsGate}
use Rattle.snap_steps.specs.Stages.{in_write, is_closing, is_quiet, after_left, may_cut, owes_count, has_counted}
use Rattle.snap_steps.specs.declared.view.View.{View}
use Rattle.snap_steps.proofs.Totals.{total-set, term_le}
use Rattle.snap_steps.proofs.EachView.{each_stays}
use Rattle.snap_steps.specs.Counting.{total}
use Rattle.snap_steps.specs.Each.{Each}
use Rattle.snap_steps.specs.declared.view.Stage.{Stage}
use Rattle.snap_steps.specs.declared.view.Stage.TheVariants.{Idle, Writing, Closing}

module _ (views : List View) (id : ℕ) (v w : View) (at : get_elem? views id ≡ some v) where
  pub gated_stays : (gate left : ℕ) → IsGated gate left views → w.stage ≡ v.stage → IsGated gate left (set views id w)
  gated_stays gate left h same =
      let writing = total-set (λ u. in_write u.stage) views id v w at in let closing = total-set (λ u. is_closing u.stage) views id v w at in let quiet = total-set (λ u. is_quiet u.stage) views id v w at in
      let a = ap in_write same in let b = ap is_closing same in let c = ap is_quiet same in
      record {
        half = omega (arith, h.half);
        one = omega (arith, h.one);
        at = each_stays views id v w at (λ u. KnowsGate gate u.stage) h.at (λ p. subst (KnowsGate gate) (sym same) p);
        quiet = λ some. omega (arith, h.quiet (omega arith));
      }

  -- a step on the gate or on what counts the writes ended
  pub gated_moves : (gate left gate' left' : ℕ) → IsGated gate left views
      → gate' + 2 * (left + in_write v.stage) + is_closing v.stage ≡ gate + 2 * (left' + in_write w.stage) + is_closing w.stage
      → total (λ u. is_closing u.stage) views + is_closing w.stage ≤ 1 + is_closing v.stage
      → (0 < total (λ u. is_quiet u.stage) (set views id w) → total (λ u. in_write u.stage) (set views id w) ≡ 0)
      → Each (λ u. KnowsGate gate' u.stage) (set views id w) → IsGated gate' left' (set views id w)
  gated_moves gate left gate' left' h sums one quiet at' =
      let writing = total-set (λ u. in_write u.stage) views id v w at in let closing = total-set (λ u. is_closing u.stage) views id v w at in
      record { half = omega (arith, h.half); one = omega arith; at = at'; quiet = quiet }

not_at : (gate : ℕ) (st : Stage) → is_closing st ≡ 0 → KnowsGate gate st
not_at gate Idle e = tt
not_at gate (Writing made counted) e = tt
not_at gate (Closing g quiet cut) e = absurd (omega arith)

quiet_le : (st : Stage) → is_quiet st ≤ is_closing st
quiet_le Idle = omega arith
quiet_le (Writing made counted) = omega arith
quiet_le (Closing g true cut) = omega arith
quiet_le (Closing g false cut) = omega arith

-- where no pass is closing, no one knows another gate and no one is quiet
pub nobody_closes : (gate : ℕ) (views : List View) → total (λ u. is_closing u.stage) views ≡ 0 → Each (λ u. KnowsGate gate u.stage) views
nobody_closes gate views none j u at = not_at gate u.stage (omega (arith, none, term_le (λ u. is_closing u.stage) views j u at))

pub quiets_le : (views : List View) → total (λ u. is_quiet u.stage) views ≤ total (λ u. is_closing u.stage) views
quiets_le [] = omega arith
quiets_le (x ∷ xs) = omega (arith, quiet_le x.stage, quiets_le xs)

-- a load of `left` changes no count
pub after_left_counts : (st : Stage) (r : ℕ) → (in_write (after_left st r) ≡ in_write st) × (is_closing (after_left st r) ≡ is_closing st) × (may_cut (after_left st r) ≡ may_cut st) × (owes_count (after_left st r) ≡ owes_count st) × (has_counted (after_left st r) ≡ has_counted st)
after_left_counts Idle r = (refl, refl, refl, refl, refl)
after_left_counts (Writing made counted) r = (refl, refl, refl, refl, refl)
after_left_counts (Closing g quiet cut) r = (refl, refl, refl, refl, refl)

pub after_left_at : (gate : ℕ) (st : Stage) (r : ℕ) → KnowsGate gate st → KnowsGate gate (after_left st r)
after_left_at gate Idle r h = tt
after_left_at gate (Writing made counted) r h = tt
after_left_at gate (Closing g quiet cut) r h = h

-- who is quiet after a load of `left` was so before, or is closing and found it equal to half of the gate
pub after_left_quiet : (gate : ℕ) (st : Stage) (r : ℕ) → KnowsGate gate st → 0 < is_quiet (after_left st r) → (0 < is_quiet st) ⊎ ((is_closing st ≡ 1) × (r ≡ gate / 2))
after_left_quiet gate Idle r at h = absurd (omega arith)
after_left_quiet gate (Writing made counted) r at h = absurd (omega arith)
after_left_quiet gate (Closing g true cut) r at h = inl (omega arith)
after_left_quiet gate (Closing g false cut) r at h = go (eqb r (g / 2)) refl h
  where
    go : (b : Bool) → eqb r (g / 2) ≡ b → 0 < cond b 1 0 → (0 < is_quiet (Closing g false cut)) ⊎ ((is_closing (Closing g false cut) ≡ 1) × (r ≡ gate / 2))
    go true e h' = inr (refl, eqb-true r (g / 2) e ∙ ap (λ (x : ℕ). x / 2) at)
    go false e h' = absurd (omega arith)
