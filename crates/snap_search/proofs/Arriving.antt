-- The end of a way, for a repair.
use Rattle.std.proofs.Common.{◌≡◌, inr, ℕ, ◌≤◌, Bool, [], ◌∷◌, refl, sym, ap, ◌∙◌, subst}
use Rattle.snap_prelude.specs.{Becomes, begun_again, Epoch, epoch_noted, Known, Writing}
use Rattle.snap_search.specs.Prelude.{Below, births_of, Comes, end_at, end_below, Ending, EndsAt, EndsFrom, EndsOn}
use Rattle.snap_search.specs.Prelude.{FindsEnd, Here, IsAt, IsReached, IsStep, Place, Shared, Spot, step_at, WentFrom}
use Rattle.snap_search.proofs.Working.{works_on, epoch_works, again_works, still_now}

is_at : (p : Place) (up spot : Spot) → IsAt p (end_at p up spot)
is_at (Here row) up spot = (refl, refl, refl)
is_at (Below at) up spot = (refl, refl, refl, refl)
is_at (Shared at) up spot = (refl, refl, refl, refl)

module _ (rows : ℕ) (new : Known) (key : ℕ) (up spot : Spot) (upper : IsStep rows new.view (step_at up)) (lower : IsStep rows new.view (step_at spot)) where
  below : (q : Spot) → q.row ≤ rows → IsReached new.view q.row → WentFrom new.view key q → EndsOn rows new.view key (end_below q up)
  below q low reached from = record { is_end = record { low = (low, upper.low); reached = reached; above = upper.reached; on_right = upper.on_right; faces = from.1 }; place = from.0 }

  ends_on : (e : ℕ) (p : Place) → EndsAt rows new.view key e p → EndsFrom new.view key spot p → EndsOn rows new.view key (end_at p up spot)
  ends_on e (Here row) at from = record { is_end = record { low = (at.low, lower.low); reached = inr at.reached; above = lower.reached; on_right = lower.on_right; faces = λ z. absurd (at.some_row z) }; place = from }
  ends_on e (Below q) at from = below q at.low at.reached from
  ends_on e (Shared q) at from = below q at.low at.reached from

  pub finds_end : (old a mid : Known) (e : ℕ) (p : Place) (end : Ending) (made counted : Bool) → old.view.stage ≡ Writing made counted → Becomes old a (epoch_noted old.view e) → Becomes a mid (begun_again a.view key) → Comes rows mid new key e spot p → end ≡ end_at p up spot → FindsEnd rows old new key end
  finds_end old a mid e p end made counted writing load set w is = let begun = again_works a mid key set in record {
    epoch = e;
    births = w.births;
    works = works_on old mid new (Epoch e ∷ []) (births_of key w.births) (works_on old a mid (Epoch e ∷ []) [] (epoch_works old a e load) begun) w.works;
    seen = w.seen ∙ ap (λ (k : Known). k.view.seen) set ∙ ap (λ (k : Known). k.view.seen) load;
    now = w.works.present e (still_now old a mid e [] made counted writing load begun);
    place = p;
    is_place = subst (IsAt p) (sym is) (is_at p up spot);
    noted = w.noted;
    at = w.at;
    ends = subst (EndsOn rows new.view key) (sym is) (ends_on e p w.at w.from);
  }
