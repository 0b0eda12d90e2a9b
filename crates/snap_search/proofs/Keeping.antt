-- The rows that a way keeps are rows of the table to which the pass came.
use Rattle.std.proofs.Common.{◌≡◌, ◌∷◌, ◌++◌, [], ℕ, List, Bool, true, false, cond, eqb, inr, length, refl, sym, subst}
use Rattle.snap_prelude.proofs.Common.{All, All-cons, All-nil}
use Rattle.std.proofs.lemmas.List.Elements.{All-push, All-weaker}
use Rattle.snap_search.specs.Prelude.{EndsAt, Here, IsStep, IsWay, Place, Spot}
use Rattle.snap_search.specs.Prelude.{Step, step_at, Way, with_above, with_row, with_step}
use Rattle.snap_prelude.specs.{KeepsReached, Right, View}
use Rattle.snap_search.proofs.Working.{stays_reached}

pub way_none : (rows : ℕ) (v : View) (way : Way) → way.steps.items ≡ [] → IsWay rows v way
way_none rows v way none = subst (All (IsStep rows v)) (sym none) (All-nil (IsStep rows v))

-- as long as what was reached still is
pub step_stays : (rows : ℕ) (v w : View) (s : Step) → KeepsReached v w → IsStep rows v s → IsStep rows w s
step_stays rows v w s kept is = record { low = is.low; reached = stays_reached v w s.row kept is.reached; on_right = is.on_right }

pub way_stays : (rows : ℕ) (v w : View) (way : Way) → KeepsReached v w → IsWay rows v way → IsWay rows w way
way_stays rows v w way kept are = All-weaker (IsStep rows v) (IsStep rows w) (λ s is. step_stays rows v w s kept is) way.steps.items are

met : (rows : ℕ) (v : View) (steps : List Step) (s : Step) → IsStep rows v s → All (IsStep rows v) steps → All (IsStep rows v) (with_step steps s)
met rows v steps s is are = go (eqb (length steps) 32)
  where
    go : (full : Bool) → All (IsStep rows v) (cond full (s ∷ []) (steps ++ s ∷ []))
    go true = All-cons (IsStep rows v) s [] is (All-nil (IsStep rows v))
    go false = All-push (IsStep rows v) steps s are is

pub way_kept : (rows : ℕ) (v : View) (old new : Way) (s : Step) → IsStep rows v s → new.steps.items ≡ with_step old.steps.items s → IsWay rows v old → IsWay rows v new
way_kept rows v old new s step is are = subst (All (IsStep rows v)) (sym is) (met rows v old.steps.items s step are)

-- above the place of a repair
pub way_above : (rows : ℕ) (v : View) (old new : Way) (p : Place) (s : Spot) → IsStep rows v (step_at s) → new.steps.items ≡ with_above p old.steps.items s → IsWay rows v old → IsWay rows v new
way_above rows v old new (Here row) s step is are = way_kept rows v old new (step_at s) step is are
way_above rows v old new elsewhere s step is are = subst (All (IsStep rows v)) (sym is) are

-- at the place of a write
pub way_placed : (rows : ℕ) (v : View) (key epoch : ℕ) (old new : Way) (p : Place) → EndsAt rows v key epoch p → new.steps.items ≡ with_row p old.steps.items → IsWay rows v old → IsWay rows v new
way_placed rows v key epoch old new (Here row) at is are = subst (All (IsStep rows v)) (sym is) (met rows v old.steps.items (record { row = row; side = Right }) (record { low = at.low; reached = inr at.reached; on_right = λ z. refl }) are)
way_placed rows v key epoch old new elsewhere at is are = subst (All (IsStep rows v)) (sym is) are
