-- What several writers put out, piece by piece, is their files with their texts.
use Rattle.std.proofs.Common.{◌≡◌, ◌≢◌, ◌==◌, ◌⊎◌, ◌<◌, ◌≤◌, ◌+◌, suc, zero, ℕ, Bool, true, false, cond, List, [], ◌∷◌, ◌++◌, length, get_or, take, Option, Some, None, refl, sym, ◌∙◌, ap, subst, inl, inr, append-nil, append_assoc, arith, eq-eqb, ne_eqb, eqb-true}
use Rattle.std.specs.Prelude.{◌||◌, All, IsTrue, bytes_eq, filter, flat_map, map, not}
use Rattle.std.specs.Option.{option_map, option_or}
use Rattle.std.proofs.Math.Seq.{take-length}
use Rattle.std.proofs.lemmas.Bool.{eqb-false}
use Rattle.std.proofs.lemmas.Grind.{flat_map-append}
use Rattle.std.proofs.lemmas.List.{map-append}
use Rattle.std.proofs.lemmas.Slice.Eq.{bytes_eq-Decides}
use Rattle.snap_io.specs.Shelves.{Files}
use Rattle.snap_write.specs.Outputs.{HasBegun, HasFront, HasWritten, IsNamed, Outputs, is_named, names_of, text_for}
use Rattle.snap_write.specs.Pieces.{AreEmpty, ArePutOut, FilePiece, HasPut, HasPutPart, PutsOut, after_piece, after_pieces, files_put, front_piece, made_beside, of_file, of_writer}
use Rattle.snap_write.proofs.Causes.{same_name}
use Rattle.snap_write.proofs.Counts.{count, held, held-append, once, one_share, owner, share, text_at, text_none, total, two_shares}
use Rattle.snap_write.proofs.Grown.{of_file-append}

-- the text that a file is to get, what it has at first, and its pieces: there are none, or they are added to an empty
-- file, or one makes it
record Grows (text old : Option (List ℕ)) (ps : List FilePiece) : Type 0 where
  pub text_is : text ≡ Some (flat_map (λ p. p.text) ps)
  pub ways : All (λ p. p.makes ≡ false) ps
  pub empty : old ≡ Some []

record Made (text : Option (List ℕ)) (ps : List FilePiece) : Type 0 where
  pub piece : FilePiece
  pub alone : ps ≡ piece ∷ []
  pub makes : piece.makes ≡ true
  pub text_is : text ≡ Some piece.text

abbrev Leads : Option (List ℕ) → Option (List ℕ) → List FilePiece → Type 0
Leads text old ps = ((text ≡ None) × (ps ≡ [])) ⊎ (Grows text old ps ⊎ Made text ps)

all_tail : {X : Type 0} (P : X → Type 0) (x : X) (xs : List X) → All P (x ∷ xs) → All P xs
all_tail P x xs all k d l = all (suc k) d (omega (arith, l))

all_front : {X : Type 0} (P : X → Type 0) (xs ys : List X) → All P (xs ++ ys) → All P xs
all_front P [] ys all k d l = absurd (omega (arith, l))
all_front P (x ∷ xs) ys all zero d l = all 0 d (omega arith)
all_front P (x ∷ xs) ys all (suc k) d l = all_front P xs ys (all_tail P x (xs ++ ys) all) k d (omega (arith, l))

-- pieces that are added to a file
grown : (bytes : List ℕ) (ps : List FilePiece) → All (λ p. p.makes ≡ false) ps → after_pieces (Some bytes) ps ≡ Some (bytes ++ flat_map (λ p. p.text) ps)
grown bytes [] all = ap Some (sym (append-nil bytes))
grown bytes (p ∷ ps) all =
    ap (λ b. after_pieces (cond b (Some p.text) (Some (bytes ++ p.text))) ps) (all 0 p (omega arith))
    ∙ grown (bytes ++ p.text) ps (all_tail (λ (q : FilePiece). q.makes ≡ false) p ps all) ∙ ap Some (append_assoc bytes p.text (flat_map (λ q. q.text) ps))

whole_of : (text old : Option (List ℕ)) (ps : List FilePiece) → Leads text old ps → after_pieces old ps ≡ option_or text old
whole_of text old ps (inl none) = ap (λ qs. after_pieces old qs) none.1 ∙ ap (λ o. option_or o old) (sym none.0)
whole_of text old ps (inr (inl g)) = ap (λ o. after_pieces o ps) g.empty ∙ grown [] ps g.ways ∙ ap (λ o. option_or o old) (sym g.text_is)
whole_of text old ps (inr (inr m)) =
    ap (λ qs. after_pieces old qs) m.alone
    ∙ (let p = m.piece in ap (λ b. cond b (Some p.text) (option_map (λ bytes. bytes ++ p.text) old)) m.makes) ∙ ap (λ o. option_or o old) (sym m.text_is)

-- the first of them, and a front of the next
front-take : (xs ys : List ℕ) → take (length xs) (xs ++ ys) ≡ xs
front-take [] ys = no_part ys
  where
    no_part : (zs : List ℕ) → take 0 zs ≡ []
    no_part [] = refl
    no_part (z ∷ zs) = refl
front-take (x ∷ xs) ys = ap (λ zs. x ∷ zs) (front-take xs ys)

split_empty : {X : Type 0} (xs ys : List X) → [] ≡ xs ++ ys → xs ≡ []
split_empty [] ys e = refl
split_empty (x ∷ xs) ys e = absurd cc

begun_of : (text old : Option (List ℕ)) (ps qs rest : List FilePiece) → Leads text old ps → ps ≡ qs ++ rest → (after_pieces old qs ≡ old) ⊎ HasFront text (after_pieces old qs)
begun_of text old ps qs rest (inl none) split = inl (ap (λ rs. after_pieces old rs) (split_empty qs rest (sym none.1 ∙ split)))
begun_of text old ps qs rest (inr (inl g)) split =
    let all : All (λ p. p.makes ≡ false) (qs ++ rest) = subst (λ rs. All (λ (p : FilePiece). p.makes ≡ false) rs) split g.ways in
    let front : List ℕ = flat_map (λ (p : FilePiece). p.text) qs in
    let back : List ℕ = flat_map (λ (p : FilePiece). p.text) rest in
    let whole : text ≡ Some (front ++ back) = g.text_is ∙ ap (λ rs. Some (flat_map (λ (p : FilePiece). p.text) rs)) split ∙ ap Some (flat_map-append (λ (p : FilePiece). p.text) qs rest) in
    inr (subst (λ t. HasFront t (after_pieces old qs)) (sym whole)
    (length front, ap (λ o. after_pieces o qs) g.empty ∙ grown [] qs (all_front (λ (p : FilePiece). p.makes ≡ false) qs rest all) ∙ ap Some (sym (front-take front back))))
begun_of text old ps [] rest (inr (inr m)) split = inl refl
begun_of text old ps (q ∷ qs) rest (inr (inr m)) split = inr
    (subst (λ t. HasFront t (after_pieces old (q ∷ qs))) (sym m.text_is)
    (length m.piece.text, one m.piece q qs (sym m.alone ∙ split) m.makes ∙ ap Some (sym (take-length m.piece.text))))
  where
    one : (p q : FilePiece) (qs : List FilePiece) → p ∷ [] ≡ q ∷ (qs ++ rest) → p.makes ≡ true → after_pieces old (q ∷ qs) ≡ Some p.text
    one p q [] e makes =
        let same : p ≡ q = cc in
        subst (λ x. after_piece old x ≡ Some p.text) same (ap (λ b. cond b (Some p.text) (option_map (λ bytes. bytes ++ p.text) old)) makes)
    one p q (r ∷ qs) e makes = absurd cc

begun_part : (text old : Option (List ℕ)) (ps qs : List FilePiece) (p : FilePiece) (rest : List FilePiece) (n : ℕ) → Leads text old ps → ps ≡ qs ++ p ∷ rest → HasFront text (after_pieces old (qs ++ front_piece n p ∷ []))
begun_part text old ps qs p rest n (inl none) split = absurd (ends qs (sym none.1 ∙ split))
  where
    ends : (xs : List FilePiece) → [] ≡ xs ++ p ∷ rest → ⊥
    ends [] e = cc
    ends (x ∷ xs) e = cc
begun_part text old ps qs p rest n (inr (inl g)) split =
    let all : All (λ q. q.makes ≡ false) (qs ++ p ∷ rest) = subst (λ rs. All (λ (q : FilePiece). q.makes ≡ false) rs) split g.ways in
    let front : List ℕ = flat_map (λ (q : FilePiece). q.text) qs in
    let back : List ℕ = flat_map (λ (q : FilePiece). q.text) rest in
    let whole : text ≡ Some (front ++ (p.text ++ back)) = g.text_is ∙ ap (λ rs. Some (flat_map (λ (q : FilePiece). q.text) rs)) split ∙ ap Some (flat_map-append (λ (q : FilePiece). q.text) qs (p ∷ rest)) in
    subst (λ t. HasFront t (after_pieces old (qs ++ front_piece n p ∷ []))) (sym whole) (
      length (front ++ take n p.text),
      ap (λ o. after_pieces o (qs ++ front_piece n p ∷ [])) g.empty
          ∙ grown [] (qs ++ front_piece n p ∷ []) (with_front qs all)
          ∙ ap Some (flat_map-append (λ (q : FilePiece). q.text) qs (front_piece n p ∷ []) ∙ ap (λ ts. front ++ ts) (append-nil (take n p.text)) ∙ sym (cut front p.text back n)),
    )
  where
    with_front : (xs : List FilePiece) → All (λ q. q.makes ≡ false) (xs ++ p ∷ rest) → All (λ q. q.makes ≡ false) (xs ++ front_piece n p ∷ [])
    with_front [] all zero d l = all 0 p (omega arith)
    with_front [] all (suc k) d l = absurd (omega (arith, l))
    with_front (x ∷ xs) all zero d l = all 0 d (omega arith)
    with_front (x ∷ xs) all (suc k) d l = with_front xs (all_tail (λ (q : FilePiece). q.makes ≡ false) x (xs ++ p ∷ rest) all) k d (omega (arith, l))

    cut_one : (k : ℕ) (ts us : List ℕ) → take (length (take k ts)) (ts ++ us) ≡ take k ts
    cut_one zero ts us = zero_part ts us
      where
        zero_part : (ts us : List ℕ) → take (length (take 0 ts)) (ts ++ us) ≡ take 0 ts
        zero_part [] [] = refl
        zero_part [] (u ∷ us) = refl
        zero_part (t ∷ ts) us = refl
    cut_one (suc k) [] [] = refl
    cut_one (suc k) [] (u ∷ us) = refl
    cut_one (suc k) (t ∷ ts) us = ap (λ zs. t ∷ zs) (cut_one k ts us)

    cut : (fs ts us : List ℕ) (k : ℕ) → take (length (fs ++ take k ts)) (fs ++ (ts ++ us)) ≡ fs ++ take k ts
    cut [] ts us k = cut_one k ts us
    cut (f ∷ fs) ts us k = ap (λ zs. f ∷ zs) (cut fs ts us k)
begun_part text old ps [] p rest n (inr (inr m)) split =
    subst (λ t. HasFront t (after_piece old (front_piece n p))) (sym m.text_is) (
      n,
      ap (λ b. cond b (Some (take n p.text)) (option_map (λ bytes. bytes ++ take n p.text) old)) (ap (λ (x : FilePiece). x.makes) (first m.piece (sym m.alone ∙ split)) ∙ m.makes)
          ∙ ap (λ (x : FilePiece). Some (take n x.text)) (first m.piece (sym m.alone ∙ split)),
    )
  where
    first : (q : FilePiece) → q ∷ [] ≡ p ∷ rest → p ≡ q
    first q e = cc
begun_part text old ps (r ∷ qs) p rest n (inr (inr m)) split = absurd (many m.piece qs (sym m.alone ∙ split))
  where
    many : (q : FilePiece) (xs : List FilePiece) → q ∷ [] ≡ r ∷ (xs ++ p ∷ rest) → ⊥
    many q [] e = cc
    many q (x ∷ xs) e = cc

-- the pieces of one writer that are of a file
none_made : (name : List ℕ) (ps : List FilePiece) → held name (map (λ p. (p.file, p.text)) ps) ≡ 0 → of_file name ps ≡ []
none_made name [] e = refl
none_made name (p ∷ ps) e = either (bytes_eq p.file name) e (none_made name ps)
  where
    either : (b : Bool) → cond b (suc (held name (map (λ q. (q.file, q.text)) ps))) (held name (map (λ q. (q.file, q.text)) ps)) ≡ 0
        → (held name (map (λ q. (q.file, q.text)) ps) ≡ 0 → of_file name ps ≡ []) → cond b (p ∷ of_file name ps) (of_file name ps) ≡ []
    either true e rest = absurd (omega (arith, e))
    either false e rest = rest e

one_made : (name : List ℕ) (old : Option (List ℕ)) (ps : List FilePiece) → All (λ p. p.makes ≡ true) ps → held name (map (λ p. (p.file, p.text)) ps) ≤ 1 → Leads (text_for (map (λ p. (p.file, p.text)) ps) name) old (of_file name ps)
one_made name old [] all most = inl (refl, refl)
one_made name old (p ∷ ps) all most = either (bytes_eq p.file name) most (one_made name old ps (all_tail (λ (q : FilePiece). q.makes ≡ true) p ps all))
  where
    either : (b : Bool) → cond b (suc (held name (map (λ q. (q.file, q.text)) ps))) (held name (map (λ q. (q.file, q.text)) ps)) ≤ 1
        → (held name (map (λ q. (q.file, q.text)) ps) ≤ 1 → Leads (text_for (map (λ q. (q.file, q.text)) ps) name) old (of_file name ps))
        → Leads (cond b (Some p.text) (text_for (map (λ q. (q.file, q.text)) ps) name)) old (cond b (p ∷ of_file name ps) (of_file name ps))
    either false most rest = rest most
    either true most rest = inr (inr (record { piece = p; alone = ap (λ qs. p ∷ qs) (none_made name ps (omega (arith, most))); makes = all 0 p (omega arith); text_is = refl }))

-- another file than the reply file
abbrev others : List ℕ → List FilePiece → List FilePiece
others reply ps = filter (λ p. not (bytes_eq p.file reply)) ps

beside : (reply name : List ℕ) (ps : List FilePiece) → bytes_eq reply name ≡ false → of_file name (others reply ps) ≡ of_file name ps
beside reply name [] apart = refl
beside reply name (p ∷ ps) apart = either (bytes_eq p.file reply) (bytes_eq p.file name) refl refl (beside reply name ps apart)
  where
    either : (b c : Bool) → bytes_eq p.file reply ≡ b → bytes_eq p.file name ≡ c → of_file name (others reply ps) ≡ of_file name ps → of_file name (cond (not b) (p ∷ others reply ps) (others reply ps)) ≡ cond c (p ∷ of_file name ps) (of_file name ps)
    either true true is also rest = let both : true ≡ false = sym also ∙ ap (λ n. bytes_eq n name) ((bytes_eq-Decides p.file reply).0 is) ∙ apart in absurd cc
    either true false is also rest = rest
    either false true is also rest = ap (λ c. cond c (p ∷ of_file name (others reply ps)) (of_file name (others reply ps))) also ∙ ap (λ qs. p ∷ qs) rest
    either false false is also rest = ap (λ c. cond c (p ∷ of_file name (others reply ps)) (of_file name (others reply ps))) also ∙ rest

others_make : (reply : List ℕ) (ps : List FilePiece) → All (λ p. p.makes ≡ not (bytes_eq p.file reply)) ps → All (λ p. p.makes ≡ true) (others reply ps)
others_make reply [] all = λ k d l. absurd (omega (arith, l))
others_make reply (p ∷ ps) all = either (bytes_eq p.file reply) (all 0 p (omega arith)) (others_make reply ps (all_tail (λ (q : FilePiece). q.makes ≡ not (bytes_eq q.file reply)) p ps all))
  where
    either : (b : Bool) → p.makes ≡ not b → All (λ q. q.makes ≡ true) (others reply ps) → All (λ q. q.makes ≡ true) (cond (not b) (p ∷ others reply ps) (others reply ps))
    either true way rest k d l = rest k d l
    either false way rest zero d l = way
    either false way rest (suc k) d l = rest k d (omega (arith, l))

own_add : (reply : List ℕ) (ps : List FilePiece) → All (λ p. p.makes ≡ not (bytes_eq p.file reply)) ps → All (λ p. p.makes ≡ false) (of_file reply ps)
own_add reply [] all = λ k d l. absurd (omega (arith, l))
own_add reply (p ∷ ps) all = either (bytes_eq p.file reply) (all 0 p (omega arith)) (own_add reply ps (all_tail (λ (q : FilePiece). q.makes ≡ not (bytes_eq q.file reply)) p ps all))
  where
    either : (b : Bool) → p.makes ≡ not b → All (λ q. q.makes ≡ false) (of_file reply ps) → All (λ q. q.makes ≡ false) (cond b (p ∷ of_file reply ps) (of_file reply ps))
    either false way rest k d l = rest k d l
    either true way rest zero d l = way
    either true way rest (suc k) d l = rest k d (omega (arith, l))

-- what one writer's pieces make of a file
idle : (name : List ℕ) (r : List ℕ × List ℕ) (e : Outputs) (ps : List FilePiece) → PutsOut r e ps → held name (r ∷ []) + held name e ≡ 0 → of_file name ps ≡ []
idle name r e ps out none = either (bytes_eq r.0 name) refl (omega (arith, none))
  where
    either : (b : Bool) → bytes_eq r.0 name ≡ b → cond b (suc zero) zero ≡ zero → of_file name ps ≡ []
    either true is zero_held = absurd (omega (arith, zero_held))
    either false is zero_held = sym (beside r.0 name ps is) ∙ none_made name (others r.0 ps) (ap (λ xs. held name xs) out.exports ∙ omega (arith, none))

own_text : (name : List ℕ) (old : Option (List ℕ)) (r : List ℕ × List ℕ) (e : Outputs) (ps : List FilePiece) → PutsOut r e ps → held name (r ∷ []) + held name e ≤ 1 → (bytes_eq r.0 name ≡ true → old ≡ Some []) → Leads (text_for (r ∷ e) name) old (of_file name ps)
own_text name old r e ps out most empty = either (bytes_eq r.0 name) refl
  where
    either : (b : Bool) → bytes_eq r.0 name ≡ b → Leads (cond b (Some r.1) (text_for e name)) old (of_file name ps)
    either true is = let same : r.0 ≡ name = (bytes_eq-Decides r.0 name).0 is in
        inr (inl (record {
          text_is = ap Some (sym out.reply ∙ ap (λ n. flat_map (λ (p : FilePiece). p.text) (of_file n ps)) same);
          ways = subst (λ n. All (λ (p : FilePiece). p.makes ≡ false) (of_file n ps)) same (own_add r.0 ps out.ways);
          empty = empty is;
        }))
    either false is =
        subst (λ xs. Leads (text_for xs name) old (of_file name ps)) out.exports
        (subst (λ qs. Leads (text_for (made_beside r.0 ps) name) old qs) (beside r.0 name ps is)
        (one_made name old (others r.0 ps) (others_make r.0 ps out.ways) (omega (arith, most, ap (λ xs. held name xs) out.exports))))

-- the pieces of a file among those of all writers, of which only one has any
abbrev pieces_in : List (ℕ × FilePiece) → List FilePiece
pieces_in all = map (λ x. x.1) all

of_own : (i : ℕ) (x : ℕ × FilePiece) (all : List (ℕ × FilePiece)) → x.0 ≡ i → of_writer i (x ∷ all) ≡ x.1 ∷ of_writer i all
of_own i x all e = rw (eq-eqb x.0 i e) refl

of_other : (i : ℕ) (x : ℕ × FilePiece) (all : List (ℕ × FilePiece)) → x.0 ≢ i → of_writer i (x ∷ all) ≡ of_writer i all
of_other i x all n = rw (ne_eqb x.0 i n) refl

first_away : (name : List ℕ) (p : FilePiece) (ps : List FilePiece) → of_file name (p ∷ ps) ≡ [] → (bytes_eq p.file name ≡ false) × (of_file name ps ≡ [])
first_away name p ps e = either (bytes_eq p.file name) e
  where
    either : (c : Bool) → cond c (p ∷ of_file name ps) (of_file name ps) ≡ [] → (c ≡ false) × (of_file name ps ≡ [])
    either false e = (refl, e)
    either true e = absurd cc

rest_none : (name : List ℕ) (j : ℕ) (x : ℕ × FilePiece) (all : List (ℕ × FilePiece)) → of_file name (of_writer j (x ∷ all)) ≡ [] → of_file name (of_writer j all) ≡ []
rest_none name j x all e = either (x.0 == j) e
  where
    either : (b : Bool) → of_file name (map (λ y. y.1) (cond b (x ∷ filter (λ (y : ℕ × FilePiece). y.0 == j) all) (filter (λ y. y.0 == j) all))) ≡ [] → of_file name (of_writer j all) ≡ []
    either false e = e
    either true e = (first_away name x.1 (of_writer j all) e).1

away : (name : List ℕ) (x : ℕ × FilePiece) (all : List (ℕ × FilePiece)) → of_file name (of_writer x.0 (x ∷ all)) ≡ [] → bytes_eq x.1.file name ≡ false
away name x all none = (first_away name x.1 (of_writer x.0 all) (ap (λ ps. of_file name ps) (sym (of_own x.0 x all refl)) ∙ none)).0

nobodys : (name : List ℕ) (n : ℕ) (all : List (ℕ × FilePiece)) → All (λ x. x.0 < n) all → ((j : ℕ) → j < n → of_file name (of_writer j all) ≡ []) → of_file name (pieces_in all) ≡ []
nobodys name n [] within none = refl
nobodys name n (x ∷ all) within none =
    ap (λ c. cond c (x.1 ∷ of_file name (pieces_in all)) (of_file name (pieces_in all))) (away name x all (none x.0 (within 0 x (omega arith))))
    ∙ nobodys name n all (all_tail (λ (y : ℕ × FilePiece). y.0 < n) x all within) (λ j l. rest_none name j x all (none j l))

ones : (name : List ℕ) (n i : ℕ) (all : List (ℕ × FilePiece)) → All (λ x. x.0 < n) all → ((j : ℕ) → j < n → j ≢ i → of_file name (of_writer j all) ≡ []) → of_file name (pieces_in all) ≡ of_file name (of_writer i all)
ones name n i [] within none = refl
ones name n i (x ∷ all) within none = either (x.0 == i) refl
    (ones name n i all (all_tail (λ (y : ℕ × FilePiece). y.0 < n) x all within) (λ j l m. rest_none name j x all (none j l m)))
  where
    either : (b : Bool) → (x.0 == i) ≡ b → of_file name (pieces_in all) ≡ of_file name (of_writer i all) → of_file name (pieces_in (x ∷ all)) ≡ of_file name (of_writer i (x ∷ all))
    either true is rest =
        ap (λ ps. cond (bytes_eq x.1.file name) (x.1 ∷ ps) ps) rest ∙ ap (λ ps. of_file name ps) (sym (of_own i x all (eqb-true x.0 i is)))
    either false is rest = let other : x.0 ≢ i = eqb-false x.0 i is in
        ap (λ c. cond c (x.1 ∷ of_file name (pieces_in all)) (of_file name (pieces_in all))) (away name x all (none x.0 (within 0 x (omega arith)) other))
        ∙ rest ∙ ap (λ ps. of_file name ps) (sym (of_other i x all other))

-- the pieces of a file lead to its text
most_once : (name : List ℕ) (replies : Outputs) (exports : List Outputs) (all : List (ℕ × FilePiece)) → ArePutOut replies exports all → total name replies exports ≤ 1
most_once name replies exports all put = omega (arith, held-append name replies (flat_map (λ files. files) exports), once name (names_of (files_put replies exports)) put.differ)

others_none : (name : List ℕ) (replies : Outputs) (exports : List Outputs) (i j : ℕ) (d : List ℕ × List ℕ) (e : Outputs) → length exports ≡ length replies → total name replies exports ≤ 1 → i < length replies → j < length replies → j ≢ i → 1 ≤ share name replies exports i d e → share name replies exports j d e ≡ 0
others_none name replies exports i j d e even most l m other own = either (before i j other)
  where
    before : (a b : ℕ) → b ≢ a → (a < b) ⊎ (b < a)
    before zero zero n = absurd (n refl)
    before zero (suc b) n = inl (omega arith)
    before (suc a) zero n = inr (omega arith)
    before (suc a) (suc b) n = next (before a b (λ e. n (ap (λ k. suc k) e)))
      where
        next : (a < b) ⊎ (b < a) → (suc a < suc b) ⊎ (suc b < suc a)
        next (inl l) = inl (omega (arith, l))
        next (inr l) = inr (omega (arith, l))

    either : (i < j) ⊎ (j < i) → share name replies exports j d e ≡ 0
    either (inl b) = omega (arith, two_shares name replies exports i j d e even b m, most, own)
    either (inr b) = omega (arith, two_shares name replies exports j i d e even b l, most, own)

leads : (replies : Outputs) (exports : List Outputs) (all : List (ℕ × FilePiece)) (f : Files) → ArePutOut replies exports all → AreEmpty replies f → (name : List ℕ) → Leads (text_for (files_put replies exports) name) (f name) (of_file name (pieces_in all))
leads replies exports all f put empty name = either (owner name replies exports ([], []) [] put.even)
  where
    most : total name replies exports ≤ 1
    most = most_once name replies exports all put

    quiet : (j : ℕ) → j < length replies → share name replies exports j ([], []) [] ≡ 0 → of_file name (of_writer j all) ≡ []
    quiet j l none = idle name (get_or replies j ([], [])) (get_or exports j []) (of_writer j all) (put.each j ([], []) [] l) none

    either : (total name replies exports ≡ 0) ⊎ ((i : ℕ) × (i < length replies) × (1 ≤ share name replies exports i ([], []) [])) → Leads (text_for (files_put replies exports) name) (f name) (of_file name (pieces_in all))
    either (inl nobody) = inl (
      text_none (files_put replies exports) name (omega (arith, held-append name replies (flat_map (λ files. files) exports), nobody)),
      nobodys name (length replies) all put.writers (λ j l. quiet j l (omega (arith, one_share name replies exports j ([], []) [] put.even l, nobody))),
    )
    either (inr (i, l, own)) = let r = get_or replies i ([], []) in let e = get_or exports i [] in
        subst (λ t. Leads t (f name) (of_file name (pieces_in all))) (sym (text_at name replies exports i ([], []) [] put.even l most own))
        (subst (λ qs. Leads (text_for (r ∷ e) name) (f name) qs) (sym (ones name (length replies) i all put.writers (λ j m other. quiet j m (others_none name replies exports i j ([], []) [] put.even most l m other own))))
        (own_text name (f name) r e (of_writer i all) (put.each i ([], []) [] l) (omega (arith, one_share name replies exports i ([], []) [] put.even l, most))
        (λ is. ap f (sym ((bytes_eq-Decides r.0 name).0 is)) ∙ empty i ([], []) l)))

-- all pieces are the files
pub whole : (replies : Outputs) (exports : List Outputs) (all : List (ℕ × FilePiece)) (f g : Files) → ArePutOut replies exports all → AreEmpty replies f → HasPut (map (λ x. x.1) all) f g → HasWritten (files_put replies exports) f g
whole replies exports all f g out empty put name = put name ∙ whole_of (text_for (files_put replies exports) name) (f name) (of_file name (pieces_in all)) (leads replies exports all f out empty name)

-- some of them begin the files
split : (name : List ℕ) (done rest : List (ℕ × FilePiece)) → of_file name (pieces_in (done ++ rest)) ≡ of_file name (pieces_in done) ++ of_file name (pieces_in rest)
split name done rest = ap (λ ps. of_file name ps) (map-append (λ (x : ℕ × FilePiece). x.1) done rest) ∙ of_file-append name (pieces_in done) (pieces_in rest)

begun_between : (replies : Outputs) (exports : List Outputs) (done rest : List (ℕ × FilePiece)) (f g : Files) → ArePutOut replies exports (done ++ rest) → AreEmpty replies f → HasPut (map (λ x. x.1) done) f g → HasBegun (files_put replies exports) f g
begun_between replies exports done rest f g out empty put name =
    subst (λ o. (o ≡ f name) ⊎ HasFront (text_for (files_put replies exports) name) o) (sym (put name))
    (begun_of (text_for (files_put replies exports) name) (f name) (of_file name (pieces_in (done ++ rest))) (of_file name (pieces_in done)) (of_file name (pieces_in rest)) (leads replies exports (done ++ rest) f out empty name) (split name done rest))

pub begun : (replies : Outputs) (exports : List Outputs) (done : List (ℕ × FilePiece)) (p : ℕ × FilePiece) (rest : List (ℕ × FilePiece)) (f g : Files) → ArePutOut replies exports (done ++ p ∷ rest) → AreEmpty replies f → HasPutPart (map (λ x. x.1) done) p.1 f g → HasBegun (files_put replies exports) f g
begun replies exports done p rest f g out empty (inl put) name = begun_between replies exports done (p ∷ rest) f g out empty put name
begun replies exports done p rest f g out empty (inr (n, put)) name =
    subst (λ o. (o ≡ f name) ⊎ HasFront (text_for (files_put replies exports) name) o) (sym (put name))
    (subst (λ qs. (after_pieces (f name) qs ≡ f name) ⊎ HasFront (text_for (files_put replies exports) name) (after_pieces (f name) qs)) (sym (of_file-append name (pieces_in done) (front_piece n p.1 ∷ [])))
    (either (bytes_eq p.1.file name) refl))
  where
    leads_here : Leads (text_for (files_put replies exports) name) (f name) (of_file name (pieces_in (done ++ p ∷ rest)))
    leads_here = leads replies exports (done ++ p ∷ rest) f out empty name

    either : (b : Bool) → bytes_eq p.1.file name ≡ b → (after_pieces (f name) (of_file name (pieces_in done) ++ cond b (front_piece n p.1 ∷ []) []) ≡ f name) ⊎ HasFront (text_for (files_put replies exports) name) (after_pieces (f name) (of_file name (pieces_in done) ++ cond b (front_piece n p.1 ∷ []) []))
    either true is = inr (begun_part (text_for (files_put replies exports) name) (f name) (of_file name (pieces_in (done ++ p ∷ rest))) (of_file name (pieces_in done)) p.1 (of_file name (pieces_in rest)) n leads_here
        (split name done (p ∷ rest) ∙ ap (λ c. of_file name (pieces_in done) ++ cond c (p.1 ∷ of_file name (pieces_in rest)) (of_file name (pieces_in rest))) is))
    either false is =
        subst (λ qs. (after_pieces (f name) qs ≡ f name) ⊎ HasFront (text_for (files_put replies exports) name) (after_pieces (f name) qs)) (sym (append-nil (of_file name (pieces_in done))))
        (begun_of (text_for (files_put replies exports) name) (f name) (of_file name (pieces_in (done ++ p ∷ rest))) (of_file name (pieces_in done)) (of_file name (pieces_in (p ∷ rest))) leads_here (split name done (p ∷ rest)))

-- each piece is of one of the files
named_held : (name : List ℕ) (names : List (List ℕ)) → 1 ≤ count name names → IsNamed names name
named_held name [] l = absurd (omega (arith, l))
named_held name (n ∷ names) l = either (bytes_eq n name) l (named_held name names)
  where
    either : (b : Bool) → 1 ≤ cond b (suc (count name names)) (count name names) → (1 ≤ count name names → IsNamed names name) → IsTrue (b || is_named names name)
    either true l rest = refl
    either false l rest = rest l

pub named_among : (replies : Outputs) (exports : List Outputs) (done : List (ℕ × FilePiece)) (p : ℕ × FilePiece) (rest : List (ℕ × FilePiece)) → ArePutOut replies exports (done ++ p ∷ rest) → IsNamed (names_of (files_put replies exports)) p.1.file
named_among replies exports done p rest out = named_held p.1.file (names_of (files_put replies exports)) (either (held p.1.file (files_put replies exports)) refl)
  where
    name : List ℕ
    name = p.1.file

    some : (xs ys : List FilePiece) → xs ++ cond true (p.1 ∷ ys) ys ≡ [] → ⊥
    some [] ys e = cc
    some (x ∷ xs) ys e = cc

    none : held name (files_put replies exports) ≡ 0 → ⊥
    none zero_held = let all = done ++ p ∷ rest in
        some (of_file name (pieces_in done)) (of_file name (pieces_in rest))
        (ap (λ c. of_file name (pieces_in done) ++ cond c (p.1 ∷ of_file name (pieces_in rest)) (of_file name (pieces_in rest))) (sym (same_name name))
        ∙ sym (split name done (p ∷ rest))
        ∙ nobodys name (length replies) all out.writers
        (λ j l. idle name (get_or replies j ([], [])) (get_or exports j []) (of_writer j all) (out.each j ([], []) [] l)
        (omega (arith, one_share name replies exports j ([], []) [] out.even l, held-append name replies (flat_map (λ files. files) exports), zero_held))))

    either : (n : ℕ) → held name (files_put replies exports) ≡ n → 1 ≤ n
    either zero e = absurd (none e)
    either (suc n) e = omega arith
