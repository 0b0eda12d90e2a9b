-- Of each post, what was taken and what waits at it.
use Rattle.std.specs.Prelude.{All, map, slice_index_or}
use Rattle.std.proofs.Common.{zero, suc, ◌≡◌, ◌≢◌, ◌<◌, ◌+◌, ℕ, List, [], ◌∷◌, ◌++◌, length, refl, sym, ap, ap₂, ◌∙◌, append-nil, arith}
use Rattle.snap_outlet.specs.declared.piece.Piece.{Piece}
use Rattle.snap_outlet.specs.declared.view.Parcel.{Parcel}
use Rattle.snap_outlet.specs.Outlets.{IsAll, pieces_of}
use Rattle.snap_outlet.specs.Posts.{AreAllPut, AreNumbered, PostAt, parcels, rests}
use Rattle.snap_outlet.proofs.Pieces.{pieces-append, pieces-other, pieces-own}

own_pieces : (s : ℕ) (ps : List Piece) → pieces_of s (parcels s ps) ≡ ps
own_pieces s [] = refl
own_pieces s (p ∷ ps) = pieces-own s (record { sender = s; piece = p }) (parcels s ps) refl ∙ ap (λ (l : List Piece). p ∷ l) (own_pieces s ps)

no_pieces : (s n : ℕ) (ps : List Piece) → n ≢ s → pieces_of s (parcels n ps) ≡ []
no_pieces s n [] other = refl
no_pieces s n (p ∷ ps) other = let x : Parcel = record { sender = n; piece = p } in
    pieces-append s (x ∷ []) (parcels n ps) ∙ ap₂ (λ (a b : List Piece). a ++ b) (pieces-other s x other) (no_pieces s n ps other)

none_before : (s n : ℕ) (posts : List PostAt) → s < n → pieces_of s (rests n posts) ≡ []
none_before s n [] l = refl
none_before s n (post ∷ posts) l =
    pieces-append s (parcels n post.waiting) (rests (n + 1) posts)
    ∙ ap₂ (λ (a b : List Piece). a ++ b) (no_pieces s n post.waiting (λ e. omega (arith, l, e))) (none_before s (n + 1) posts (omega (arith, l)))

rest_of : (n i : ℕ) (posts : List PostAt) (d : PostAt) → i < length posts → pieces_of (n + i) (rests n posts) ≡ (slice_index_or posts i d).waiting
rest_of n i [] d l = absurd (omega (arith, l))
rest_of n zero (post ∷ posts) d l =
    (let e : n + 0 ≡ n = omega arith in ap (λ (s : ℕ). pieces_of s (rests n (post ∷ posts))) e)
    ∙ pieces-append n (parcels n post.waiting) (rests (n + 1) posts)
    ∙ ap₂ (λ (a b : List Piece). a ++ b) (own_pieces n post.waiting) (none_before n (n + 1) posts (omega arith)) ∙ append-nil post.waiting
rest_of n (suc i) (post ∷ posts) d l =
    pieces-append (n + suc i) (parcels n post.waiting) (rests (n + 1) posts)
    ∙ ap (λ (a : List Piece). a ++ pieces_of (n + suc i) (rests (n + 1) posts)) (no_pieces (n + suc i) n post.waiting (λ e. omega (arith, e)))
    ∙ (let e : n + suc i ≡ n + 1 + i = omega arith in ap (λ (s : ℕ). pieces_of s (rests (n + 1) posts)) e)
    ∙ rest_of (n + 1) i posts d (omega (arith, l))

sent_of : (taken : List Parcel) (n i : ℕ) (posts : List PostAt) (d : PostAt) → i < length posts → All (IsAll taken) (map (λ p. p.sent) posts) → AreNumbered n posts → pieces_of (n + i) taken ≡ (let p = slice_index_or posts i d in let s = p.sent in s.pieces)
sent_of taken n i [] d l all numbered = absurd (omega (arith, l))
sent_of taken n zero (post ∷ posts) d l all numbered =
    (let e : n + 0 ≡ n = omega arith in ap (λ (s : ℕ). pieces_of s taken) (e ∙ sym numbered.0)) ∙ all 0 post.sent (omega arith)
sent_of taken n (suc i) (post ∷ posts) d l all numbered =
    (let e : n + suc i ≡ n + 1 + i = omega arith in ap (λ (s : ℕ). pieces_of s taken) e)
    ∙ sent_of taken (n + 1) i posts d (omega (arith, l)) (λ k e m. all (suc k) e (omega (arith, m))) numbered.1

pub all_put : (taken : List Parcel) (posts : List PostAt) → All (IsAll taken) (map (λ p. p.sent) posts) → AreNumbered 0 posts → AreAllPut taken posts
all_put taken posts all numbered i d l =
    let e : 0 + i ≡ i = omega arith in
    ap (λ (s : ℕ). pieces_of s (taken ++ rests 0 posts)) (sym e)
    ∙ pieces-append (0 + i) taken (rests 0 posts)
    ∙ ap₂ (λ (a b : List Piece). a ++ b) (sent_of taken 0 i posts d l all numbered) (rest_of 0 i posts d l)
