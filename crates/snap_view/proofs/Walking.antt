-- The steps of a walk through the pairs of a clone.
use Rattle.std.proofs.Common.{◌≡◌, ℕ, ◌+◌, ◌^◌, arith, true, false, [], ◌∷◌, Option, Some, None, sym, ap, ◌∙◌, reverse}
use Rattle.std.proofs.lemmas.Bool.{leb-true, leb-false}
use Rattle.snap_prelude.specs.{after, at, Cloned, image, IsCloneOf, Left, other, Pairs, range, Right, Side}
use Rattle.snap_view.specs.{Nearest.IsBehind, Nearest.IsNearestPair, Nearest.reaches, Walks.toward}
use Rattle.snap_view.proofs.Neighbours.{before_range, below_is, clone_rises, empty_above, empty_below, none_falling, none_rising, past_range, range_falls, range_rises}
use Rattle.snap_view.proofs.Ranges.{Rise}

module _ (m : Pairs) (rise : Rise 0 (2 ^ 64) m) where
  -- what the nearest pair leaves
  gives : (side : Side) (from bound : ℕ) (p : ℕ × ℕ) (next : Option ℕ) → IsNearestPair (at m) side from (Some p) → reaches (other side) bound p.0 ≡ true → IsBehind side p.0 next → toward side m (Some from) bound ≡ p ∷ toward side m next bound
  gives Left from bound p None near l b = range_falls m rise bound from p near (leb-true bound p.0 l) ∙ ap (λ (x : Pairs). p ∷ reverse x) (empty_below m bound p.0 (omega (arith, b)))
  gives Left from bound p (Some k) near l b = range_falls m rise bound from p near (leb-true bound p.0 l) ∙ ap (λ (x : Pairs). p ∷ reverse x) (sym (below_is m bound k p.0 b))
  gives Right from bound p None near l b = range_rises m rise from bound p near (leb-true p.0 bound l) ∙ ap (λ (x : Pairs). p ∷ x) (empty_above m rise (p.0 + 1) bound b)
  gives Right from bound p (Some k) near l b = range_rises m rise from bound p near (leb-true p.0 bound l) ∙ ap (λ (k' : ℕ). p ∷ range m k' bound) (sym b.0)

  ends : (side : Side) (from bound : ℕ) → IsNearestPair (at m) side from None → toward side m (Some from) bound ≡ []
  ends Left from bound near = ap reverse (none_falling m rise bound from near)
  ends Right from bound near = none_rising m rise from bound near

  passes : (side : Side) (from bound : ℕ) (p : ℕ × ℕ) → IsNearestPair (at m) side from (Some p) → reaches (other side) bound p.0 ≡ false → toward side m (Some from) bound ≡ []
  passes Left from bound p near l = ap reverse (before_range m rise bound from p near (leb-false bound p.0 l))
  passes Right from bound p near l = past_range m rise from bound p near (leb-false p.0 bound l)

-- of a walk through this clone, which has gone on to this seat
module _ (seat now : Cloned) (clone : IsCloneOf seat.base (image seat)) (same : now ≡ seat) (side : Side) (next : Option ℕ) (from bound : ℕ) (is : next ≡ Some from) where
  opened : toward side (after seat.base) next bound ≡ toward side (after seat.base) (Some from) bound
  opened = ap (λ (o : Option ℕ). toward side (after seat.base) o bound) is

  pub walk_gives : (p : ℕ × ℕ) (then : Option ℕ) → IsNearestPair (at (after seat.base)) side from (Some p) → reaches (other side) bound p.0 ≡ true → IsBehind side p.0 then → toward side (after seat.base) next bound ≡ p ∷ toward side (after now.base) then bound
  walk_gives p then near l b = opened ∙ gives (after seat.base) (clone_rises seat clone) side from bound p then near l b ∙ ap (λ (c : Cloned). p ∷ toward side (after c.base) then bound) (sym same)

  pub walk_ends : IsNearestPair (at (after seat.base)) side from None → toward side (after seat.base) next bound ≡ []
  walk_ends near = opened ∙ ends (after seat.base) (clone_rises seat clone) side from bound near

  pub walk_passes : (p : ℕ × ℕ) → IsNearestPair (at (after seat.base)) side from (Some p) → reaches (other side) bound p.0 ≡ false → toward side (after seat.base) next bound ≡ []
  walk_passes p near l = opened ∙ passes (after seat.base) (clone_rises seat clone) side from bound p near l
