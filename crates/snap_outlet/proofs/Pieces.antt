-- The pieces of one sender among those of several.
use Rattle.std.proofs.Common.{◌≡◌, ◌≢◌, ◌==◌, ℕ, List, [], ◌∷◌, ◌++◌, refl, sym, ap, ◌∙◌, append_assoc, append-nil, map, eq-eqb, ne_eqb}
use Rattle.std.proofs.lemmas.List.Elements.{filter-append}
use mathlib.Core.List.{map-append, cons≢nil}
use Rattle.snap_model.specs.History.{Begins}
use Rattle.snap_outlet.specs.declared.view.Parcel.{Parcel}
use Rattle.snap_outlet.specs.Outlets.{pieces_of}

pub pieces-append : (s : ℕ) (xs ys : List Parcel) → pieces_of s (xs ++ ys) ≡ pieces_of s xs ++ pieces_of s ys
pieces-append s xs ys =
    ap (λ (l : List Parcel). map (λ x. x.piece) l) (filter-append (λ (x : Parcel). x.sender == s) xs ys)
    ∙ map-append (λ (x : Parcel). x.piece) (Rattle.std.specs.Prelude.filter (λ x. x.sender == s) xs) (Rattle.std.specs.Prelude.filter (λ x. x.sender == s) ys)

pub pieces-own : (s : ℕ) (x : Parcel) (xs : List Parcel) → x.sender ≡ s → pieces_of s (x ∷ xs) ≡ x.piece ∷ pieces_of s xs
pieces-own s x xs e = rw (eq-eqb x.sender s e) refl

pub pieces-other : (s : ℕ) (x : Parcel) → x.sender ≢ s → pieces_of s (x ∷ []) ≡ []
pieces-other s x n = rw (ne_eqb x.sender s n) refl

pub ends_with_one : {X : Type 0} (xs : List X) (y : X) (ys : List X) → xs ++ y ∷ ys ≢ []
ends_with_one [] y ys = cons≢nil
ends_with_one (x ∷ xs) y ys = cons≢nil

pub begins_itself : {X : Type 0} (xs : List X) → Begins xs xs
begins_itself xs = record { rest = []; is = append-nil xs }

pub begins_on : {X : Type 0} (xs ys more : List X) → Begins xs ys → Begins xs (ys ++ more)
begins_on xs ys more b = record { rest = b.rest ++ more; is = sym (append_assoc xs b.rest more) ∙ ap (λ l. l ++ more) b.is }

pub begins_nothing : {X : Type 0} (xs : List X) → Begins xs [] → xs ≡ []
begins_nothing [] b = refl
begins_nothing (x ∷ xs) b = absurd (cons≢nil b.is)
