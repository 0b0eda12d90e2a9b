-- The files tell what the workers' commands came to.
use Rattle.std.proofs.Common.{zero, suc, ◌≡◌, ◌≢◌, ◌≤◌, ◌<◌, ◌++◌, ℕ, Bool, true, false, cond, List, [], ◌∷◌, Option, Some, Result, Ok, Err, length, get_or, refl, ap, ap₂, sym, ◌∙◌, subst, append-nil, arith}
use Rattle.std.specs.Prelude.{◌==◌, All, AllPairs, OnOk, bytes_eq, filter, flat_map, map, not}
use Rattle.std.proofs.lemmas.List.{get_or-map, length-map}
use Rattle.std.proofs.lemmas.List.Concat.{flat_map-cons}
use Rattle.snap_desk.specs.Answers.{Answered}
use Rattle.snap_desk.specs.Collecting.{as_piece, as_put, IsCollected, WritesUpTo, pieces_in, puts_of}
use Rattle.snap_desk.specs.Puts.{files_beside, IsPutOut, text_in}
use Rattle.snap_io.specs.Shelves.{Changes, Files, IfTold}
use Rattle.snap_outlet.specs.Outlets.{pieces_of}
use Rattle.snap_outlet.specs.declared.piece.Piece.{Piece}
use Rattle.snap_outlet.specs.declared.view.Parcel.{Parcel}
use Rattle.snap_model.specs.declared.command.Command.{Command}
use Rattle.snap_write.proofs.Causes.{unwritten_wider}
use Rattle.snap_write.proofs.PutOut.{begun, named_among, whole}
use Rattle.snap_write.proofs.Written.{changes_from, names_of-append}
use Rattle.snap_write.specs.Outputs.{HasBegun, HasWritten, IsUnwritten, Outputs, is_named, names_of}
use Rattle.snap_write.specs.Pieces.{added, AreEmpty, ArePutOut, FilePiece, files_put, HasPut, HasPutPart, made_beside, of_file, of_writer, PutsOut}
use Rattle.snap_write.specs.declared.unwritten.Unwritten.{Unwritten}
use Rattle.snap_desk.specs.Files.{all_files_named, files_named, AreFilesApart, AreBlank, exports_in, IsAfter, IsWrittenOr, replies_in}
use Rattle.std.proofs.lemmas.Slice.Eq.{bytes_eq-Decides}
use Rattle.snap_desk.proofs.Names.{some_of, among_at, apart, named_among as named_of, or_false, or_left, or_right}

-- one worker's pieces bs they come to files
module _ (names : List (List ℕ)) where
  abbrev ps_of : List Piece → List FilePiece
  ps_of ps = map (as_piece names) ps

  pub text_same : (name : List ℕ) (ps : List Piece) → added name (ps_of ps) ≡ text_in name ps
  text_same name [] = refl
  text_same name (p ∷ ps) = either (text_same name ps) (bytes_eq p.file name)
    where
      either : added name (ps_of ps) ≡ text_in name ps → (b : Bool) → flat_map (λ (q : FilePiece). q.text) (cond b (as_piece names p ∷ of_file name (ps_of ps)) (of_file name (ps_of ps))) ≡ cond b p.bytes [] ++ text_in name ps
      either rest true = flat_map-cons (λ (q : FilePiece). q.text) (as_piece names p) (of_file name (ps_of ps)) ∙ ap (λ (l : List ℕ). p.bytes ++ l) rest
      either rest false = rest

  pub beside_same : (name : List ℕ) (ps : List Piece) → made_beside name (ps_of ps) ≡ files_beside name ps
  beside_same name [] = refl
  beside_same name (p ∷ ps) = either (beside_same name ps) (bytes_eq p.file name)
    where
      others : List FilePiece
      others = filter (λ q. not (bytes_eq q.file name)) (ps_of ps)

      either : made_beside name (ps_of ps) ≡ files_beside name ps → (b : Bool) → map (λ (q : FilePiece). (q.file, q.text)) (cond (not b) (as_piece names p ∷ others) others) ≡ cond b [] ((p.file, p.bytes) ∷ []) ++ files_beside name ps
      either rest true = rest
      either rest false = ap (λ (l : Outputs). (p.file, p.bytes) ∷ l) rest

  -- a piece is added where it is for its worker's own reply file, and makes each other file
  pub ways : (name : List ℕ) (ps : List Piece) → is_named names name ≡ true → ((n : List ℕ) → is_named (names_of (files_beside name ps)) n ≡ true → is_named names n ≡ false)
      → All (λ (q : FilePiece). q.makes ≡ not (bytes_eq q.file name)) (ps_of ps)
  ways name [] own others i d l = absurd (omega (arith, l))
  ways name (p ∷ ps) own others zero d l = ap not (either (bytes_eq p.file name) refl others)
    where
      either : (b : Bool) → bytes_eq p.file name ≡ b → ((n : List ℕ) → is_named (names_of (cond b [] ((p.file, p.bytes) ∷ []) ++ files_beside name ps)) n ≡ true → is_named names n ≡ false) → is_named names p.file ≡ b
      either true is h = subst (λ (x : List ℕ). is_named names x ≡ true) (sym ((bytes_eq-Decides p.file name).0 is)) own
      either false is h = h p.file (or_left (bytes_eq p.file p.file) (is_named (names_of (files_beside name ps)) p.file) ((bytes_eq-Decides p.file p.file).1 refl))
  ways name (p ∷ ps) own others (suc i) d l = ways name ps own (either (bytes_eq p.file name) others) i d (omega (arith, l))
    where
      either : (b : Bool) → ((n : List ℕ) → is_named (names_of (cond b [] ((p.file, p.bytes) ∷ []) ++ files_beside name ps)) n ≡ true → is_named names n ≡ false) → (n : List ℕ) → is_named (names_of (files_beside name ps)) n ≡ true → is_named names n ≡ false
      either true h = h
      either false h = λ n is. h n (or_right (bytes_eq p.file n) (is_named (names_of (files_beside name ps)) n) is)

  -- those of one worker among those of all
  pub writer_same : (i : ℕ) (xs : List Parcel) → of_writer i (puts_of names xs) ≡ ps_of (pieces_of i xs)
  writer_same i [] = refl
  writer_same i (x ∷ xs) = either (writer_same i xs) (x.sender == i)
    where
      rest : List (ℕ × FilePiece)
      rest = filter (λ y. y.0 == i) (puts_of names xs)

      left : List Parcel
      left = filter (λ y. y.sender == i) xs

      either : of_writer i (puts_of names xs) ≡ ps_of (pieces_of i xs) → (b : Bool) → map (λ (y : ℕ × FilePiece). y.1) (cond b (as_put names x ∷ rest) rest) ≡ map (as_piece names) (map (λ (y : Parcel). y.piece) (cond b (x ∷ left) left))
      either rest true = ap (λ (l : List FilePiece). as_piece names x.piece ∷ l) rest
      either rest false = rest

-- the lists of all workers
reply_length : (names : List (List ℕ)) (bs : List Answered) → length names ≡ length bs → length (replies_in names bs) ≡ length bs
reply_length [] [] e = refl
reply_length [] (a ∷ bs) e = absurd (omega (arith, e))
reply_length (n ∷ names) [] e = absurd (omega (arith, e))
reply_length (n ∷ names) (a ∷ bs) e = let h = reply_length names bs (omega (arith, e)) in omega (arith, h)

pub reply_names : (names : List (List ℕ)) (bs : List Answered) → length names ≤ length bs → names_of (replies_in names bs) ≡ names
reply_names [] bs e = refl
reply_names (n ∷ names) [] e = absurd (omega (arith, e))
reply_names (n ∷ names) (a ∷ bs) e = ap (λ (l : List (List ℕ)). n ∷ l) (reply_names names bs (omega (arith, e)))

reply_at : (names : List (List ℕ)) (bs : List Answered) (i : ℕ) (d : List ℕ × List ℕ) (n : List ℕ) (a : Answered) → length names ≡ length bs → i < length bs → get_or (replies_in names bs) i d ≡ (get_or names i n, (let x = get_or bs i a in x.lines))
reply_at [] [] i d n a e l = absurd (omega (arith, l))
reply_at [] (x ∷ bs) i d n a e l = absurd (omega (arith, e))
reply_at (m ∷ names) [] i d n a e l = absurd (omega (arith, e))
reply_at (m ∷ names) (x ∷ bs) zero d n a e l = refl
reply_at (m ∷ names) (x ∷ bs) (suc i) d n a e l = reply_at names bs i d n a (omega (arith, e)) (omega (arith, l))

exports_same : (bs : List Answered) → flat_map (λ (files : Outputs). files) (map (λ (a : Answered). a.exports) bs) ≡ exports_in bs
exports_same [] = refl
exports_same (a ∷ bs) = flat_map-cons (λ (files : Outputs). files) a.exports (map (λ (x : Answered). x.exports) bs) ∙ ap (λ (l : Outputs). a.exports ++ l) (exports_same bs) ∙ sym (flat_map-cons (λ (x : Answered). x.exports) a bs)

exports_named : (scripts : List (List Command)) (bs : List Answered) → length bs ≡ length scripts → ((i : ℕ) (s : List Command) (a : Answered) → i < length scripts → names_of (let x = get_or bs i a in x.exports) ≡ files_named (get_or scripts i s))
    → names_of (exports_in bs) ≡ all_files_named scripts
exports_named [] [] e h = refl
exports_named [] (a ∷ bs) e h = absurd (omega (arith, e))
exports_named (s ∷ scripts) [] e h = absurd (omega (arith, e))
exports_named (s ∷ scripts) (a ∷ bs) e h =
    ap names_of (flat_map-cons (λ (x : Answered). x.exports) a bs) ∙ names_of-append a.exports (exports_in bs)
    ∙ ap₂ (λ (x y : List (List ℕ)). x ++ y) (h 0 s a (omega arith)) (exports_named scripts bs (omega (arith, e)) (λ i t x l. h (suc i) t x (omega (arith, l))))

-- the pieces of all workers, of whom each put out what its commands came to
module _ (names : List (List ℕ)) (scripts : List (List Command)) (bs : List Answered) (parcels : List Parcel) (h : AreFilesApart names scripts) (even : length bs ≡ length scripts)
    (named : (i : ℕ) (s : List Command) (a : Answered) → i < length scripts → names_of (let x = get_or bs i a in x.exports) ≡ files_named (get_or scripts i s))
    (within : All (λ (x : Parcel). x.sender < length scripts) parcels)
    (put : (i : ℕ) (n : List ℕ) (a : Answered) → i < length scripts → IsPutOut (Some (get_or names i n)) (get_or bs i a) (pieces_of i parcels) []) where
  abbrev replies : Outputs
  replies = replies_in names bs

  abbrev exports : List Outputs
  exports = map (λ (a : Answered). a.exports) bs

  abbrev puts : List (ℕ × FilePiece)
  puts = puts_of names parcels

  many : length names ≡ length bs
  many = h.each ∙ sym even

  files_same : files_put replies exports ≡ replies ++ exports_in bs
  files_same = ap (λ (l : Outputs). replies ++ l) (exports_same bs)

  out_names : names_of (files_put replies exports) ≡ names ++ all_files_named scripts
  out_names = ap names_of files_same ∙ names_of-append replies (exports_in bs) ∙ ap₂ (λ (x y : List (List ℕ)). x ++ y) (reply_names names bs (omega (arith, many))) (exports_named scripts bs even named)

  one_out : (i : ℕ) (n : List ℕ) (s : List Command) (a : Answered) → i < length scripts → PutsOut (get_or names i n, (let x = get_or bs i a in x.lines)) (let x = get_or bs i a in x.exports) (map (as_piece names) (pieces_of i parcels))
  one_out i n s a l = let ps = pieces_of i parcels in let name = get_or names i n in let x = get_or bs i a in let p = put i n a l in record {
    ways = ways names name ps (among_at names i n (omega (arith, l, h.each)))
        (λ m is. apart names (all_files_named scripts) m h.differ (named_of scripts i s m l (subst (λ (ns : List (List ℕ)). is_named ns m ≡ true) (named i s a l) (subst (λ (outs : Outputs). is_named (names_of outs) m ≡ true) (sym p.1) is))));
    reply = text_same names name ps ∙ sym (append-nil (text_in name ps)) ∙ sym p.0;
    exports = beside_same names name ps ∙ sym p.1;
  }

  writers_within : (xs : List Parcel) (n : ℕ) → All (λ (x : Parcel). x.sender < n) xs → All (λ (x : ℕ × FilePiece). x.0 < n) (puts_of names xs)
  writers_within [] n w i d l = absurd (omega (arith, l))
  writers_within (x ∷ xs) n w zero d l = w 0 x (omega arith)
  writers_within (x ∷ xs) n w (suc i) d l = writers_within xs n (λ k e m. w (suc k) e (omega (arith, m))) i d (omega (arith, l))

  pub are_out : ArePutOut replies exports puts
  are_out = record {
    even = length-map bs (λ (a : Answered). a.exports) ∙ sym (reply_length names bs many);
    writers = writers_within parcels (length replies) (subst (λ (n : ℕ). All (λ (x : Parcel). x.sender < n) parcels) (sym even ∙ sym (reply_length names bs many)) within);
    each = λ i d e l.
        let la : i < length bs = omega (arith, l, reply_length names bs many) in let ls : i < length scripts = omega (arith, la, even) in
        let a = some_of bs i la in let s = some_of scripts i ls in
        subst (λ (r : List ℕ × List ℕ). PutsOut r (get_or exports i e) (of_writer i puts)) (sym (reply_at names bs i d [] a many la))
        (subst (λ (r : Outputs). PutsOut (get_or names i [], (let x = get_or bs i a in x.lines)) r (of_writer i puts)) (sym (get_or-map (λ (x : Answered). x.exports) bs i a e la))
        (subst (λ (r : List FilePiece). PutsOut (get_or names i [], (let x = get_or bs i a in x.lines)) (let x = get_or bs i a in x.exports) r) (sym (writer_same names i parcels)) (one_out i [] s a ls)));
    differ = subst (λ (ns : List (List ℕ)). AllPairs (λ a b. a ≢ b) ns) (sym out_names) h.differ;
  }

  empty_of : (f : Files) → AreBlank names f → AreEmpty replies f
  empty_of f blank i d l =
      let la : i < length bs = omega (arith, l, reply_length names bs many) in let a = some_of bs i la in
      ap (λ (r : List ℕ × List ℕ). f r.0) (reply_at names bs i d [] a many la) ∙ blank i [] (omega (arith, la, many))

  cut_begun : (old new : Option Files) (fault : Type 0) (w : Unwritten) → IfTold old (AreBlank names) → WritesUpTo puts old new fault w → IsWrittenOr (replies ++ exports_in bs) old new fault (Err w)
  cut_begun old new fault w blank c =
      let out : ArePutOut replies exports (c.done ++ c.last ∷ c.rest) = subst (λ (xs : List (ℕ × FilePiece)). ArePutOut replies exports xs) c.all are_out in (
        subst (λ (outs : Outputs). Changes old new (HasBegun outs)) files_same
            (changes_from (HasPutPart (pieces_in c.done) c.last.1) (HasBegun (files_put replies exports)) (AreBlank names) (λ f g b part. begun replies exports c.done c.last c.rest f g out (empty_of f b) part) old new blank c.begun),
        subst (λ (outs : Outputs). IsUnwritten (names_of outs) fault w) files_same
            (unwritten_wider ((let p = c.last.1 in p.file) ∷ []) (names_of (files_put replies exports)) fault fault w (λ name is. one_name name is (named_among replies exports c.done c.last c.rest out)) (λ x. x) c.unwritten),
      )
    where
      one_name : (name : List ℕ) → is_named ((let p = c.last.1 in p.file) ∷ []) name ≡ true → is_named (names_of (files_put replies exports)) (let p = c.last.1 in p.file) ≡ true → is_named (names_of (files_put replies exports)) name ≡ true
      one_name name is there = let p = c.last.1 in subst (λ (x : List ℕ). is_named (names_of (files_put replies exports)) x ≡ true) ((bytes_eq-Decides p.file name).0 (sym (or_false (bytes_eq p.file name)) ∙ is)) there

  pub told_after : (a b : Result (Unit {0}) Unwritten) (old new : Option Files) (fault : Type 0) → OnOk a (IfTold old (AreBlank names)) → IsCollected a b puts old new fault → IsAfter a b (replies ++ exports_in bs) old new fault
  told_after (Ok u) (Ok v) old new fault blank c =
      subst (λ (outs : Outputs). Changes old new (HasWritten outs)) files_same
      (changes_from (HasPut (pieces_in puts)) (HasWritten (files_put replies exports)) (AreBlank names) (λ f g b p. whole replies exports puts f g are_out (empty_of f b) p) old new blank c)
  told_after (Ok u) (Err w) old new fault blank c = cut_begun old new fault w blank c
  told_after (Err w) b old new fault blank c = c
