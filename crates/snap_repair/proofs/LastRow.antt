-- The end of the way of the to-do key, under the lock of its row.
use Rattle.std.proofs.Common.{◌≡◌, ◌∙◌, inl, inr, ℕ, false, Some, sym, ap}
use Rattle.snap_repair.specs.{Looking.EndsBelow, Mending.Looks, Rising.MayEndOn}
use Rattle.snap_prelude.specs.{Known, MayAimAt, On, Stamp, Standing}
use Rattle.snap_search.specs.declared.endings.Ending.{Ending}
use Rattle.snap_shape.specs.{Grips.HasGrip, declared.grip.Grip.Grip}

pub last_on : (rows : ℕ) (a b : Known) (key : ℕ) (end : Ending) (row : Grip) → a.view.debt.to_do ≡ Some key → MayEndOn rows a.view key end → end.here ≡ false → row.row ≡ end.row → row.stamp ≡ end.stamp → HasGrip a.view row → Looks a b → EndsBelow b.view row.row end.side → MayAimAt b.view row.row
last_on rows a b key end row to_do ends here same stamp grip s below = inr (inl (record {
  key = key;
  to_do = ap (λ u. u.to_do) s.0.debt ∙ to_do;
  stamp = row.stamp;
  side = end.side;
  still = s.0.knows row.row Stamp row.stamp (λ z. z) grip.is_stamp;
  at = inr (place (ends.place here), below);
}))
  where
    place : a.view.way.place ≡ On key (Standing end.row end.stamp end.side) → b.view.way.place ≡ On key (Standing row.row row.stamp end.side)
    place p = s.0.place ∙ p ∙ (λ i. On key (Standing (sym same i) (sym stamp i) end.side))

-- the same, where the grip came after the way
pub last_after : (rows : ℕ) (a b d : Known) (key : ℕ) (end : Ending) (row : Grip) → a.view.debt.to_do ≡ Some key → MayEndOn rows a.view key end → end.here ≡ false → row.row ≡ end.row → row.stamp ≡ end.stamp → Looks a b → HasGrip b.view row → Looks b d → EndsBelow d.view row.row end.side → MayAimAt d.view row.row
last_after rows a b d key end row to_do ends here same stamp s grip t below = inr (inl (record {
  key = key;
  to_do = ap (λ u. u.to_do) t.0.debt ∙ ap (λ u. u.to_do) s.0.debt ∙ to_do;
  stamp = row.stamp;
  side = end.side;
  still = t.0.knows row.row Stamp row.stamp (λ z. z) grip.is_stamp;
  at = inr (place (ends.place here), below);
}))
  where
    place : a.view.way.place ≡ On key (Standing end.row end.stamp end.side) → d.view.way.place ≡ On key (Standing row.row row.stamp end.side)
    place p = t.0.place ∙ s.0.place ∙ p ∙ (λ i. On key (Standing (sym same i) (sym stamp i) end.side))
