-- Words, one of which was changed.
use native.Mathlib.Decide.{ℕ_discrete}
use mathlib.Core.Logic.{dite}
use Rattle.std.proofs.Common.{◌≡◌, ◌≢◌, ◌⊎◌, inl, inr, ℕ, eq-eqb, ne_eqb, refl, sym, subst}
use Rattle.snap_stamp.specs.declared.side.Side.{Side}
use Rattle.snap_stamp.specs.declared.side.Side.TheVariants.{Left, Right}
use Rattle.snap_rule.specs.Updates.{changed, on_side, relink}

pub changed_same : {A : Type 0} (f : ℕ → A) (r : ℕ) (v : A) → changed f r v r ≡ v
changed_same f r v = rw (eq-eqb r r refl)

pub changed_other : {A : Type 0} (f : ℕ → A) (r : ℕ) (v : A) (x : ℕ) → x ≢ r → changed f r v x ≡ f x
changed_other f r v x n = rw (ne_eqb x r n)

-- a place that was changed is changed again
pub changed_again : {A : Type 0} (f : ℕ → A) (r : ℕ) (v w : A) → changed (changed f r v) r w ≡ changed f r w
changed_again f r v w = λ i x. at x i
  where
    at : (x : ℕ) → changed (changed f r v) r w x ≡ changed f r w x
    at x = dite (ℕ_discrete x r)
        (λ e. rw (eq-eqb x r e) refl)
        (λ n. rw (ne_eqb x r n) refl)

pub relink_other : {A : Type 0} (f : ℕ → Side → A) (r : ℕ) (d : Side) (v : A) (x : ℕ) (e : Side) → x ≢ r → relink f r d v x e ≡ f x e
relink_other f r d v x e n = rw (ne_eqb x r n)

-- the changed link, or another
pub same_place : (n r : ℕ) (d e : Side) → ((n ≡ r) × (d ≡ e)) ⊎ ((n ≡ r) × (d ≡ e) → ⊥)
same_place n r d e = dite (ℕ_discrete n r) (λ q. sides q d e) (λ q. inr (λ h. q h.0))
  where
    sides : n ≡ r → (d e : Side) → ((n ≡ r) × (d ≡ e)) ⊎ ((n ≡ r) × (d ≡ e) → ⊥)
    sides q Left Left = inl (q, refl)
    sides q Right Right = inl (q, refl)
    sides q Left Right = inr (λ h. cc (h.1))
    sides q Right Left = inr (λ h. cc (h.1))

on_side_same : {A : Type 0} (g : Side → A) (d : Side) (v : A) → on_side g d v d ≡ v
on_side_same g Left v = refl
on_side_same g Right v = refl

on_side_other : {A : Type 0} (g : Side → A) (d : Side) (v : A) (e : Side) → (e ≡ d → ⊥) → on_side g d v e ≡ g e
on_side_other g Left v Left h = absurd (h refl)
on_side_other g Left v Right h = refl
on_side_other g Right v Left h = refl
on_side_other g Right v Right h = absurd (h refl)

pub relink_same : {A : Type 0} (f : ℕ → Side → A) (r : ℕ) (d : Side) (v : A) → relink f r d v r d ≡ v
relink_same f r d v = rw (eq-eqb r r refl) (on_side_same (f r) d v)

pub relink_away : {A : Type 0} (f : ℕ → Side → A) (r : ℕ) (d : Side) (v : A) (n : ℕ) (e : Side) → ((n ≡ r) × (e ≡ d) → ⊥) → relink f r d v n e ≡ f n e
relink_away f r d v n e h = dite (ℕ_discrete n r)
    (λ q. subst (λ (x : ℕ). relink f r d v x e ≡ f x e) (sym q) (rw (eq-eqb r r refl) (on_side_other (f r) d v e (λ z. h (q, z)))))
    (λ q. relink_other f r d v n e q)
