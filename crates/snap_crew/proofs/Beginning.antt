-- New sessions, and lists made from the end.
use Rattle.std.proofs.Common.{zero, suc, ◌≡◌, ◌<◌, ◌+◌, ◌-◌, ◌^◌, ℕ, List, [], ◌∷◌, ◌++◌, length, get_or, inl, inr, refl, ap, sym, ◌∙◌, subst, arith, reverse, slice_get, slice_index_or}
use Rattle.snap_prelude.proofs.Common.{get_or-map, get_or-reverse, get_or_append_left}
use Rattle.snap_prelude.proofs.Common.{length-map, length_push, slice_get-get_or}
use Rattle.std.proofs.lemmas.List.{get_or_push}
use Rattle.snap_prelude.specs.{Command, Known, Laid}
use Rattle.snap_text.specs.LoadFiles.{Loads}
use Rattle.snap_service.specs.Prelude.{AreNewKits, AreSeated, IsFresh, IsSeated, IsUncut, most_uses, new_kit, new_pass}
use Rattle.snap_service.specs.Prelude.{new_session, nobody, nowhere, pass_at, SessionState, table_at, Tables}
use Rattle.snap_service.proofs.Ending.{get_more}
use Rattle.snap_crew.specs.Prelude.{CanWork, IsRunnableOn, Mirrors}

pub mirror_next : {X : Type 0} (n : ℕ) (xs more : List X) (P : ℕ → X → Type 0) (left place : ℕ) (x : X) → place + 1 ≡ left → length xs + left ≡ n → more ≡ xs ++ x ∷ [] → P place x → Mirrors n xs P → Mirrors n more P
mirror_next {X} n xs more P left place x one all is here h j i y sum e = elim (get_more xs x j y (ap (λ (l : List X). slice_get l j) (sym is) ∙ e)) [
  | inl z ↦ h j i y sum z.1
  | inr z ↦ (let k : i ≡ place = omega (arith, sum, z.0, all, one) in subst (λ m. P m y) (sym k) (subst (P place) (sym z.1) here))
]

-- turned round, it stands in order
pub straight : {X : Type 0} (n : ℕ) (back fronts : List X) (P : ℕ → X → Type 0) → length back ≡ n → fronts ≡ reverse back → Mirrors n back P → (i : ℕ) (d : X) → i < n → P i (slice_index_or fronts i d)
straight {X} n back fronts P many is h i d l =
    let j : ℕ = length back - 1 - i in
    let lj : j < length back = omega (arith, l, many) in
    let x : get_or fronts i d ≡ get_or back j d = ap (λ (m : List X). get_or m i d) is ∙ get_or-reverse back i d (omega (arith, l, many)) in
    subst (P i) (sym x) (h j i (get_or back j d) (omega (arith, l, many)) (slice_get-get_or back j d lj))

-- the last kit taken off the new ones
module _ (laid : List Laid) (all left : List (List Known)) (own : List Known) (n kits : ℕ) (many : kits ≡ n + 1) (new : AreNewKits laid all kits) (is : all ≡ left ++ own ∷ []) where
  pub left_many : length left ≡ n
  left_many = omega (arith, ap length is, length_push left own, new.many, many)

  pub left_new : (i : ℕ) (d : List Known) → i < n → slice_index_or left i d ≡ new_kit laid i
  left_new i d l = sym (get_or_append_left left (own ∷ []) d i (omega (arith, l, left_many))) ∙ ap (λ (ks : List (List Known)). get_or ks i d) (sym is) ∙ new.each i d (omega (arith, l, many))

  pub own_new : own ≡ new_kit laid n
  own_new = sym (get_or_push left own [] n left_many) ∙ ap (λ (ks : List (List Known)). get_or ks n []) (sym is) ∙ new.each n [] (omega (arith, many))

new_seat : (w : ℕ) (rows : Laid) → IsSeated rows (new_pass w rows)
new_seat w rows = record { of = (refl, refl, refl); idle = record { idle = refl; free = refl; whole = refl }; passing = refl }

pub new_seated : (tables : Tables) (w : ℕ) → AreSeated tables (new_kit tables.laid w)
new_seated tables w = record {
  a_pass_each = length-map tables.laid (new_pass w);
  each = λ t l. subst (IsSeated (table_at tables t)) (sym (get_or-map (new_pass w) tables.laid t nowhere nobody l)) (new_seat w (table_at tables t));
}

no_uses : (w : ℕ) (laid : List Laid) → most_uses (new_kit laid w) ≡ 0
no_uses w [] = refl
no_uses w (x ∷ xs) = omega (arith, no_uses w xs)

pub can_work : (loads : Loads) (tables : Tables) (w : ℕ) (kit : List Known) (s : SessionState) (commands : List Command) → kit ≡ new_kit tables.laid w → s ≡ new_session tables kit → IsFresh tables kit s → IsRunnableOn tables.names loads commands → CanWork loads w s commands
can_work loads tables w kit s commands new is fresh script = record {
  begins = fresh loads w new;
  can = script.can s (ap (λ (x : SessionState). x.tables.names) is) (ap (λ (x : SessionState). x.clones) is);
  few = omega (arith, script.few, ap (λ (x : SessionState). most_uses x.passes) is, ap most_uses new, no_uses w tables.laid);
}

module _ (tables : Tables) (w : ℕ) (t : ℕ) (l : t < length (new_kit tables.laid w)) where
  new_at : pass_at (new_kit tables.laid w) t ≡ new_pass w (table_at tables t)
  new_at = get_or-map (new_pass w) tables.laid t nowhere nobody (omega (arith, l, length-map tables.laid (new_pass w)))

pub new_uncut : (tables : Tables) (w : ℕ) → tables.kits ≡ w + 1 → IsUncut tables (new_kit tables.laid w)
new_uncut tables w many = record {
  last = λ t l. ap (λ (k : Known). k.view.who + 1) (new_at tables w t l) ∙ sym many;
  none = λ t l. ap (λ (k : Known). k.view.cuts) (new_at tables w t l);
  silent = λ t l. ap (λ (k : Known). k.view.mine) (new_at tables w t l);
}

pub first_uses : (laid : List Laid) (w : ℕ) → (pass_at (new_kit laid w) 0).view.uses < 2 ^ 48
first_uses [] w = omega arith
first_uses (x ∷ xs) w = omega arith

-- what stands at a place, with whatever is looked for past the end
pub place_is : {X : Type 0} (xs : List X) (i j : ℕ) (x d : X) → j < length xs → i ≡ j → x ≡ get_or xs i x → x ≡ get_or xs j d
place_is [] i j x d l e is = absurd (omega (arith, l))
place_is (y ∷ xs) zero zero x d l e is = is
place_is (y ∷ xs) zero (suc j) x d l e is = absurd (omega (arith, e))
place_is (y ∷ xs) (suc i) zero x d l e is = absurd (omega (arith, e))
place_is (y ∷ xs) (suc i) (suc j) x d l e is = place_is xs i j x d (omega (arith, l)) (omega (arith, e)) is
