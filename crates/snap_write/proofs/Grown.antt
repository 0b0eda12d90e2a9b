-- Files that grow piece by piece: what several pieces make of them.
use Rattle.std.proofs.Common.{◌≡◌, ◌≢◌, ◌⊎◌, suc, zero, ℕ, Bool, true, false, cond, List, [], ◌∷◌, ◌++◌, Option, Some, None, refl, sym, ◌∙◌, ap, subst, inl, inr, append_assoc, arith}
use Rattle.std.specs.Prelude.{All, bytes_eq}
use Rattle.std.specs.Option.{option_map}
use Rattle.std.proofs.lemmas.List.Elements.{filter-append}
use Rattle.std.proofs.lemmas.Slice.Eq.{bytes_eq-Decides}
use Rattle.snap_io.specs.Shelves.{Files}
use Rattle.snap_write.specs.Outputs.{IsNamed, is_named}
use Rattle.snap_write.specs.Pieces.{FilePiece, HasPut, HasPutPart, after_piece, after_pieces, front_piece, of_file}

pub of_file-append : (name : List ℕ) (ps qs : List FilePiece) → of_file name (ps ++ qs) ≡ of_file name ps ++ of_file name qs
of_file-append name ps qs = filter-append (λ (p : FilePiece). bytes_eq p.file name) ps qs

pub after-append : (old : Option (List ℕ)) (ps qs : List FilePiece) → after_pieces old (ps ++ qs) ≡ after_pieces (after_pieces old ps) qs
after-append old [] qs = refl
after-append old (p ∷ ps) qs = after-append (after_piece old p) ps qs

-- some pieces after others
pub nothing_put : (f : Files) → HasPut [] f f
nothing_put f name = refl

pub after_put : (ps qs : List FilePiece) (f g h : Files) → HasPut ps f g → HasPut qs g h → HasPut (ps ++ qs) f h
after_put ps qs f g h first next name =
    next name ∙ ap (λ o. after_pieces o (of_file name qs)) (first name)
    ∙ sym (after-append (f name) (of_file name ps) (of_file name qs)) ∙ ap (λ rs. after_pieces (f name) rs) (sym (of_file-append name ps qs))

pub part_after : (ps qs : List FilePiece) (p : FilePiece) (f g h : Files) → HasPut ps f g → HasPutPart qs p g h → HasPutPart (ps ++ qs) p f h
part_after ps qs p f g h first (inl whole) = inl (after_put ps qs f g h first whole)
part_after ps qs p f g h first (inr part) =
    inr (part.0, subst (λ rs. HasPut rs f h) (sym (append_assoc ps qs (front_piece part.0 p ∷ []))) (after_put ps (qs ++ front_piece part.0 p ∷ []) f g h first part.1))

-- a file that has no piece stays
no_piece : (names : List (List ℕ)) (ps : List FilePiece) (name : List ℕ) → is_named names name ≡ false → All (λ p. IsNamed names p.file) ps → of_file name ps ≡ []
no_piece names [] name none all = refl
no_piece names (p ∷ ps) name none all = either (bytes_eq p.file name) refl (no_piece names ps name none (λ i d l. all (suc i) d (omega (arith, l))))
  where
    either : (b : Bool) → bytes_eq p.file name ≡ b → of_file name ps ≡ [] → cond b (p ∷ of_file name ps) (of_file name ps) ≡ []
    either false is rest = rest
    either true is rest =
        let there : IsNamed names name = subst (λ n. IsNamed names n) ((bytes_eq-Decides p.file name).0 is) (all 0 p (omega arith)) in
        let both : false ≡ true = sym none ∙ there in cc

pub put_keeps : (names : List (List ℕ)) (ps : List FilePiece) (f g : Files) → All (λ p. IsNamed names p.file) ps → HasPut ps f g → (name : List ℕ) → (g name ≡ f name) ⊎ IsNamed names name
put_keeps names ps f g all put name = either (is_named names name) refl
  where
    either : (b : Bool) → is_named names name ≡ b → (g name ≡ f name) ⊎ IsNamed names name
    either true is = inr is
    either false is = inl (put name ∙ ap (λ qs. after_pieces (f name) qs) (no_piece names ps name is all))

named_last : (names : List (List ℕ)) (ps : List FilePiece) (p : FilePiece) → All (λ q. IsNamed names q.file) ps → IsNamed names p.file → All (λ q. IsNamed names q.file) (ps ++ p ∷ [])
named_last names [] p all last zero d l = last
named_last names [] p all last (suc i) d l = absurd (omega (arith, l))
named_last names (q ∷ ps) p all last zero d l = all 0 d (omega arith)
named_last names (q ∷ ps) p all last (suc i) d l = named_last names ps p (λ k e m. all (suc k) e (omega (arith, m))) last i d (omega (arith, l))

pub part_keeps : (names : List (List ℕ)) (ps : List FilePiece) (p : FilePiece) (f g : Files) → All (λ q. IsNamed names q.file) ps → IsNamed names p.file → HasPutPart ps p f g → (name : List ℕ) → (g name ≡ f name) ⊎ IsNamed names name
part_keeps names ps p f g all last (inl whole) = put_keeps names ps f g all whole
part_keeps names ps p f g all last (inr part) = put_keeps names (ps ++ front_piece part.0 p ∷ []) f g (named_last names ps (front_piece part.0 p) all last) part.1

-- a file that is there stays there
there_after : (old : Option (List ℕ)) (ps : List FilePiece) → old ≢ None → after_pieces old ps ≢ None
there_after old [] there = there
there_after old (p ∷ ps) there = there_after (after_piece old p) ps (either p.makes old there)
  where
    either : (b : Bool) (o : Option (List ℕ)) → o ≢ None → cond b (Some p.text) (option_map (λ bytes. bytes ++ p.text) o) ≢ None
    either true o is e = absurd cc
    either false None is e = is refl
    either false (Some x) is e = absurd cc

pub stays_there : (ps : List FilePiece) (f g : Files) (name : List ℕ) → HasPut ps f g → f name ≢ None → g name ≢ None
stays_there ps f g name put there e = there_after (f name) (of_file name ps) there (sym (put name) ∙ e)
