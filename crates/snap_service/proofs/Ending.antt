-- Kits that are admitted, and tables that are closed, from the last one to the first.
use Rattle.std.proofs.Common.{zero, suc, ◌≡◌, ◌≤◌, ◌<◌, ◌+◌, ◌-◌, ℕ, List, [], ◌∷◌, ◌++◌, length, get_or, take, Option, Some, inl, inr, refl, ap, sym, ◌∙◌, subst, arith, length-append, ◌⊎◌, slice_get, slice_index_or, slice_set, reverse, unwrap_or}
use Rattle.snap_prelude.proofs.Common.{dite, get_or-reverse, get_or-set_other, get_or-set_same, get_or-take}
use Rattle.snap_prelude.proofs.Common.{get_or_read, slice_get-get_or, slice_get_within, ℕ_discrete}
use Rattle.std.proofs.Math.Seq.{take-append_seam}
use Rattle.snap_prelude.specs.{Closes, Ended, Known, Laid}
use Rattle.snap_service.specs.Prelude.{AreClosed, IsSeated, Joins, nobody, nowhere, pass_at}

some_is : {X : Type 0} (x y : X) → Some x ≡ Some y → x ≡ y
some_is {X} x y e = ap (λ (o : Option X). unwrap_or o x) e

take_take : {X : Type 0} (m n : ℕ) (xs : List X) → m ≤ n → take m (take n xs) ≡ take m xs
take_take zero n xs l = refl
take_take (suc m) zero xs l = absurd (omega (arith, l))
take_take (suc m) (suc n) [] l = refl
take_take (suc m) (suc n) (x ∷ xs) l = ap (λ ys. x ∷ ys) (take_take m n xs (omega (arith, l)))

get_seam : {X : Type 0} (xs : List X) (x d : X) → get_or (xs ++ x ∷ []) (length xs) d ≡ x
get_seam [] x d = refl
get_seam (y ∷ xs) x d = get_seam xs x d

-- one less is left of the first ones
module _ {X : Type 0} (all left fewer : List X) (x : X) (is : left ≡ take (length left) all) (e : left ≡ fewer ++ x ∷ []) where
  pub one_less : length fewer + 1 ≡ length left
  one_less = omega (arith, ap length e, length-append fewer (x ∷ []))

  pub fewer_is : fewer ≡ take (length fewer) all
  fewer_is = sym (take-append_seam fewer (x ∷ [])) ∙ ap (take (length fewer)) (sym e ∙ is) ∙ take_take (length fewer) (length left) all (omega (arith, one_less))

  pub last_is : (d : X) → x ≡ get_or all (length fewer) d
  last_is d = sym (get_seam fewer x d) ∙ ap (λ l. get_or l (length fewer) d) (sym e ∙ is) ∙ get_or-take (length left) all (length fewer) d (omega (arith, one_less))

module _ (ended passes0 passes : List Known) (left place : ℕ) (old pass new : Known) (one : place + 1 ≡ left) (last : pass ≡ pass_at ended place) (within : place < length passes) (here : old ≡ get_or passes place old) (joins : Joins old pass new)
    (later : (t : ℕ) → t < left → pass_at passes t ≡ pass_at passes0 t) (joined : (t : ℕ) → left ≤ t → t < length ended → Joins (pass_at passes0 t) (pass_at ended t) (pass_at passes t)) where
  pub later_next : (t : ℕ) → t < place → pass_at (slice_set passes place new) t ≡ pass_at passes0 t
  later_next t l = get_or-set_other passes place t new nobody (λ e. omega (arith, l, e)) ∙ later t (omega (arith, l, one))

  pub joined_next : (t : ℕ) → place ≤ t → t < length ended → Joins (pass_at passes0 t) (pass_at ended t) (pass_at (slice_set passes place new) t)
  joined_next t l m = dite (ℕ_discrete t place)
      (λ e. subst (λ n. Joins (pass_at passes0 n) (pass_at ended n) (pass_at (slice_set passes place new) n)) (sym e)
      (subst (λ (k : Known). Joins (pass_at passes0 place) (pass_at ended place) k) (sym (get_or-set_same passes place new nobody within))
      (subst (λ (k : Known). Joins (pass_at passes0 place) k new) last
      (subst (λ (k : Known). Joins k pass new) (get_or_read passes place old within here nobody ∙ later place (omega (arith, one))) joins))))
      (λ n. subst (λ (k : Known). Joins (pass_at passes0 t) (pass_at ended t) k) (sym (get_or-set_other passes place t new nobody n)) (joined t (omega (arith, l, n, one)) m))

-- the pass that is taken of those left, at its table
pub taken_seated : (tables : List Laid) (ended left fewer : List Known) (pass : Known) (place : ℕ) (table : Laid) → left ≡ take (length left) ended → left ≡ fewer ++ pass ∷ [] → place ≡ length fewer → (within : place < length tables) → table ≡ get_or tables place table → IsSeated (slice_index_or tables place nowhere) (pass_at ended place) → IsSeated table pass
taken_seated tables ended left fewer pass place table is e at within here seated =
    subst (λ (x : Laid). IsSeated x pass) (sym (get_or_read tables place table within here nowhere))
    (subst (IsSeated (slice_index_or tables place nowhere)) (sym (last_is ended left fewer pass is e nobody ∙ ap (pass_at ended) (sym at))) seated)

-- an admitting pass stays idle
pub seat_joined : (rows : Laid) (old receipt new : Known) → IsSeated rows old → Joins old receipt new → IsSeated rows new
seat_joined rows old receipt new x h = let is = h.3 in record {
  of = (ap (λ (k : Known). k.table) is ∙ x.of.0, ap (λ (k : Known). k.view.rows) is ∙ x.of.1, ap (λ (k : Known). k.view.passes) is ∙ x.of.2);
  idle = record { idle = ap (λ (k : Known). k.view.stage) is ∙ x.idle.idle; free = ap (λ (k : Known). k.view.holds) is ∙ x.idle.free; whole = ap (λ (k : Known). k.view.doing) is ∙ x.idle.whole };
  passing = ap (λ (k : Known). k.view.role) is ∙ x.passing;
}

pub get_more : {X : Type 0} (xs : List X) (x : X) (j : ℕ) (f : X) → slice_get (xs ++ x ∷ []) j ≡ Some f → ((j < length xs) × (slice_get xs j ≡ Some f)) ⊎ ((j ≡ length xs) × (f ≡ x))
get_more [] x zero f e = inr (refl, sym (some_is x f e))
get_more [] x (suc j) f e = absurd cc
get_more (y ∷ xs) x zero f e = inl (omega arith, e)
get_more (y ∷ xs) x (suc j) f e = elim (get_more xs x j f e) [ inl h ↦ inl (omega (arith, h.0), h.1) | inr h ↦ inr (ap suc h.0 ∙ omega arith, h.1) ]

-- one table more was closed
pub closed_next : (passes : List Known) (fronts more : List Ended) (left place : ℕ) (pass : Known) (front : Ended) → place + 1 ≡ left → length fronts + left ≡ length passes → more ≡ fronts ++ front ∷ [] → pass ≡ pass_at passes place → Closes pass front
    → ((j t : ℕ) (f : Ended) → j + (t + 1) ≡ length passes → slice_get fronts j ≡ Some f → Closes (pass_at passes t) f)
    → (j t : ℕ) (f : Ended) → j + (t + 1) ≡ length passes → slice_get more j ≡ Some f → Closes (pass_at passes t) f
closed_next passes fronts more left place pass front one all is at c closed j t f sum e = elim (get_more fronts front j f (ap (λ (l : List Ended). slice_get l j) (sym is) ∙ e)) [
  | inl h ↦ closed j t f sum h.1
  | inr h ↦ (let n : t ≡ place = omega (arith, sum, h.0, all, one) in subst (λ k. Closes (pass_at passes k) f) (sym n) (subst (λ (x : Ended). Closes (pass_at passes place) x) (sym h.1) (subst (λ (x : Known). Closes x front) at c)))
]

pub all_closed : (passes : List Known) (fronts backward : List Ended) → length backward ≡ length passes → fronts ≡ reverse backward → length fronts ≡ length backward → ((j t : ℕ) (f : Ended) → j + (t + 1) ≡ length passes → slice_get backward j ≡ Some f → Closes (pass_at passes t) f) → AreClosed passes fronts
all_closed passes fronts backward n is same closed = record {
  a_front_each = same ∙ n;
  each = λ t f e.
      let l : t < length fronts = slice_get_within fronts t f e in
      let j : ℕ = length backward - 1 - t in
      let lj : j < length backward = omega (arith, l, same) in
      let g : slice_get backward j ≡ Some (get_or backward j f) = slice_get-get_or backward j f lj in
      let x : get_or fronts t f ≡ get_or backward j f = ap (λ (m : List Ended). get_or m t f) is ∙ get_or-reverse backward t f (omega (arith, l, same)) in
      let y : get_or fronts t f ≡ f = some_is (get_or fronts t f) f (sym (slice_get-get_or fronts t f l) ∙ e) in
      closed j t f (omega (arith, l, same, n)) (g ∙ ap Some (sym x ∙ y));
}
