-- The two rows in the midst of a rotation meet the rule, and the lowered row leaves a way by the next step.
use Rattle.std.proofs.Common.{◌≡◌, ◌≢◌, ℕ, ◌⊎◌, inl, inr, refl, sym, ◌∙◌, subst, arith}
use Rattle.std.proofs.lemmas.Bool.Decides.{nat_tests}
use native.Mathlib.Decide.{ℕ_discrete}
use mathlib.Core.Logic.{dite}
use Rattle.snap_model.specs.History.{told}
use Rattle.snap_rule.specs.Tree.{find, Stands}
use Rattle.snap_stamp.specs.declared.side.Side.{Side}
use Rattle.snap_stamp.specs.declared.side.Side.TheVariants.{Left, Right}
use Rattle.snap_rule.specs.State.{In, WasLinked, IsShared}
use Rattle.snap_stamp.specs.Stamps.{IsUnlinked}
use Rattle.snap_rule.specs.State.Change.{plain, lowering, raising}
use Rattle.snap_rule.specs.Position.{IsPlaced}
use Rattle.snap_rule.specs.Rule.{IsLive, LinkFits}
use Rattle.snap_rule.specs.Updates.{relink}
use Rattle.snap_rule.specs.Examples.{two_rows, turning, after_turn, LeavesWay}
use Rattle.snap_rule.proofs.Updates.{relink_other}

tells : (k : ℕ) → find two_rows k ≡ told turning.history k
unfolding told
tells k = grind (arith, nat_tests)

rows : (n : ℕ) → Stands n two_rows → (n ≡ 1) ⊎ (n ≡ 2)
rows n (inl e) = inl e
rows n (inr (inl (inl e))) = inr e
rows n (inr (inl (inr (inl h)))) = absurd h
rows n (inr (inl (inr (inr h)))) = absurd h
rows n (inr (inr h)) = absurd h

not_shared : (n : ℕ) → ¬ IsShared turning n
not_shared n u = let o = u.older in omega arith

live : (n : ℕ) → Stands n two_rows → IsLive turning n
live n h = record { stands = h; own = not_shared n }

row : (n : ℕ) → (n ≡ 1) ⊎ (n ≡ 2) → In n turning.linked × ¬ IsUnlinked (turning.stamp n)
row n (inl e) = (inl e, λ u. let g : IsUnlinked 2 = subst (λ (x : ℕ). IsUnlinked (turning.stamp x)) e u in omega arith)
row n (inr e) = (inr (inl e), λ u. let g : IsUnlinked 0 = subst (λ (x : ℕ). IsUnlinked (turning.stamp x)) e u in omega arith)

leads : (n : ℕ) (d : Side) → WasLinked turning n → (turning.link n d ≡ 0) ⊎ In (turning.link n d) turning.linked
leads n Left (inl e) = subst (λ (x : ℕ). (turning.link x Left ≡ 0) ⊎ In (turning.link x Left) turning.linked) (sym e) (inl refl)
leads n Right (inl e) = subst (λ (x : ℕ). (turning.link x Right ≡ 0) ⊎ In (turning.link x Right) turning.linked) (sym e) (inr (inl refl))
leads n Left (inr (inl e)) = subst (λ (x : ℕ). (turning.link x Left ≡ 0) ⊎ In (turning.link x Left) turning.linked) (sym e) (inl refl)
leads n Right (inr (inl e)) = subst (λ (x : ℕ). (turning.link x Right ≡ 0) ⊎ In (turning.link x Right) turning.linked) (sym e) (inl refl)
leads n Left (inr (inr (inl e))) = subst (λ (x : ℕ). (turning.link x Left ≡ 0) ⊎ In (turning.link x Left) turning.linked) (sym e) (inl refl)
leads n Right (inr (inr (inl e))) = subst (λ (x : ℕ). (turning.link x Right ≡ 0) ⊎ In (turning.link x Right) turning.linked) (sym e) (inr (inl refl))
leads n d (inr (inr (inr h))) = absurd h

fits_at : (n m : ℕ) (d : Side) → n ≡ m → LinkFits turning m d (turning.pending m d) → LinkFits turning n d (turning.pending n d)
fits_at n m d e h = subst (λ (x : ℕ). LinkFits turning x d (turning.pending x d)) (sym e) h

fits : (n : ℕ) (d : Side) → (n ≡ 0) ⊎ (n ≡ 1) ⊎ (n ≡ 2) → LinkFits turning n d (turning.pending n d)
fits n Left (inl e) = fits_at n 0 Left e refl
fits n Right (inl e) = fits_at n 0 Right e refl
fits n Left (inr (inl e)) = fits_at n 1 Left e (refl, refl)
fits n Right (inr (inl e)) = fits_at n 1 Right e refl
fits n Left (inr (inr e)) = fits_at n 2 Left e refl
fits n Right (inr (inr e)) = fits_at n 2 Right e (refl, live 1 (inl refl), refl)

which : (n : ℕ) → (n ≡ 0) ⊎ Stands n two_rows → (n ≡ 0) ⊎ (n ≡ 1) ⊎ (n ≡ 2)
which n (inl e) = inl e
which n (inr h) = elim (rows n h) [ inl e ↦ inr (inl e) | inr e ↦ inr (inr e) ]

in_change : (n : ℕ) (d : Side) → turning.pending n d ≢ plain → (n ≡ 0) ⊎ IsLive turning n
in_change n d z = dite (ℕ_discrete n 2)
    (λ e. inr (live n (inr (inl (inl e)))))
    (λ e. dite (ℕ_discrete n 1)
    (λ q. inr (live n (inl q)))
    (λ q. absurd (z (relink_other (relink (λ m x. plain) 1 Left (lowering 0)) 2 Right (raising 1) n d e ∙ relink_other (λ m x. plain) 1 Left (lowering 0) n d q))))

present : (n : ℕ) → In n turning.linked → Stands n two_rows
present n (inl e) = inl e
present n (inr (inl e)) = inr (inl (inl e))
present n (inr (inr h)) = absurd h

gone : IsPlaced after_turn after_turn.history 1 3 → ⊥
gone (inl e) = omega arith
gone (inr (inl (u, inl e))) = omega arith
gone (inr (inl (u, inr (inl w)))) = w.1
gone (inr (inl (u, inr (inr w)))) = let h = w.0 in omega arith
gone (inr (inr o)) = let h = o.shared.older in omega arith

pub leaves_way : LeavesWay
leaves_way = record {
  table = record {
    tree = record {
      tells = tells;
      reads = (record { is_row = omega arith; key = refl; value = refl; height = refl }, refl, refl, (record { is_row = omega arith; key = refl; value = refl; height = refl }, refl, refl, tt, tt), tt);
      root = refl;
      ordered = (omega arith, omega arith, (omega arith, omega arith, tt, tt), tt);
      rows = λ n h. row n (rows n h);
    };
    present = record { stands = λ n h u r. present n h; replaced = λ n h. absurd h; gone = λ n h i. h };
    links = record { no_zero = λ h. elim h [ inl e ↦ absurd (omega (arith, e)) | inr i ↦ elim i [ inl e ↦ absurd (omega (arith, e)) | inr j ↦ absurd j ] ]; links = leads; births = λ n h. omega arith; zero_stamp = refl; zero_left = refl };
    sharing = record { links = λ n d h u. absurd (not_shared n u) };
    changes = record { fits = λ n d h. fits n d (which n h); live = in_change };
    counts = record { entered = refl };
  };
  may = record {
    writing = λ e. omega (arith, e);
    parent_live = inl (refl, refl);
    live = live 1 (inl refl);
    raised_live = live 2 (inr (inl (inl refl)));
    child = refl;
    marked = refl;
    no_change = refl;
    lowered = refl;
    raising_is = refl;
    apart = ((λ e. omega (arith, e)), (λ e. omega (arith, e)), (λ e. omega (arith, e)));
    raised_child = refl;
    middle = refl;
  };
  was = inl refl;
  own = not_shared 1;
  same_stamp = refl;
  is_not = gone;
}
