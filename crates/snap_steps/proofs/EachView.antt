-- What holds of each view, and sums over the views, once views changed, came or were joined.
use Rattle.std.proofs.Common.{ℕ, List, set, ⊎_elim, subst, ◌≡◌, ◌+◌, [], ◌∷◌, ◌++◌, arith, ◌∙◌, sym, ◌≢◌, suc, refl, zero}
use lib.ListN.{get_elem?}
use mathlib.Core.Option.{some, some-injective, some-ne-none}
use Rattle.atomic_table.proofs.Lists.{at_set, at_snoc, set_else}
use Rattle.snap_steps.specs.Each.{Each}
use Rattle.snap_steps.specs.declared.view.View.{View}
use Rattle.snap_steps.specs.Counting.{total}
use Rattle.snap_steps.proofs.Totals.{total-append, total-set}

-- what holds of each view, once a view has changed
pub each_set : {P Q : View → Type 0} (views : List View) (id : ℕ) (w : View) → Each P views → ((v : View) → P v → Q v) → Q w → Each Q (set views id w)
each_set {P} {Q} views id w h up here j u e = ⊎_elim (λ t. subst Q t.1 here) (λ t. up u (h j u t.1)) (at_set views id j w u e)

module _ (views : List View) (id : ℕ) (v w : View) (at : get_elem? views id ≡ some v) where
  pub each_stays : (P : View → Type 0) → Each P views → (P v → P w) → Each P (set views id w)
  each_stays P h same = each_set {P = P} {Q = P} views id w h (λ u p. p) (same (h id v at))

-- what holds of each view, and sums, once a view was added
pub each_more : {P Q : View → Type 0} (views : List View) (u : View) → Each P views → ((v : View) → P v → Q v) → Q u → Each Q (views ++ u ∷ [])
each_more {P} {Q} views u h up here j x e = ⊎_elim (λ (t : get_elem? views j ≡ some x). up x (h j x t)) (λ (t : u ≡ x). subst Q t here) (at_snoc views u x j e)

-- the same once one view was cut in two
pub each_split : {P Q : View → Type 0} (views : List View) (id : ℕ) (w u : View) → Each P views → ((x : View) → P x → Q x) → Q w → Q u → Each Q (set views id w ++ u ∷ [])
each_split {P} {Q} views id w u h up one two = each_more {P = Q} {Q = Q} (set views id w) u (each_set {P = P} {Q = Q} views id w h up one) (λ x q. q) two

pub total_more : (g : View → ℕ) (views : List View) (u : View) → total g (views ++ u ∷ []) ≡ total g views + g u
total_more g views u = omega (arith, total-append g views (u ∷ []))

module _ (views : List View) (id : ℕ) (v b : View) (at : get_elem? views id ≡ some v) (other : ℕ) (u s : View) (apart : ¬ (other ≡ id)) (there : get_elem? (set views id b) other ≡ some u) where
  pub before : get_elem? views other ≡ some u
  before = sym (set_else views id other b apart) ∙ there

  pub total_join : (g : View → ℕ) → total g (set (set views id b) other s) + g u + g v ≡ total g views + g b + g s
  total_join g = omega (arith, total-set g views id v b at, total-set g (set views id b) other u s there)

  pub each_join : {P Q : View → Type 0} → Each P views → ((x : View) → P x → Q x) → Q b → Q s → Each Q (set (set views id b) other s)
  each_join {P} {Q} h up one two = each_set {P = Q} {Q = Q} (set views id b) other s (each_set {P = P} {Q = Q} views id b h up one) (λ x q. q) two

module _ (views : List View) (id : ℕ) (v : View) (at : get_elem? views id ≡ some v) where
  -- what holds of each other view and of the new one
  pub each_others : {Q : View → Type 0} (w : View) → ((j : ℕ) (u : View) → j ≢ id → get_elem? views j ≡ some u → Q u) → Q w → Each Q (set views id w)
  each_others {Q} w h here j u e = ⊎_elim (λ t. subst Q t.1 here) (λ t. h j u t.0 t.1) (at_set views id j w u e)

pub none_total : (f : View → ℕ) (views : List View) → ((j : ℕ) (u : View) → get_elem? views j ≡ some u → f u ≡ 0) → total f views ≡ 0
none_total f [] h = refl
none_total f (x ∷ xs) h = omega (arith, h 0 x refl, none_total f xs (λ j. h (suc j)))

-- what holds of one view
pub each_one : (P : View → Type 0) (v : View) → P v → Each P (v ∷ [])
each_one P v h zero u e = subst P (some-injective v u e) h
each_one P v h (suc j) u e = absurd (some-ne-none u (sym e))
