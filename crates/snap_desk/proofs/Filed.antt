-- What the workers' pieces make of the files.
use Rattle.std.proofs.Common.{zero, suc, ◌≡◌, ◌<◌, ◌++◌, ℕ, Bool, true, false, cond, List, [], ◌∷◌, Option, Some, None, Result, Ok, Err, inl, refl, sym, subst, arith, eq-eqb}
use Rattle.std.specs.Prelude.{◌==◌, All, filter, map}
use Rattle.snap_desk.specs.Collecting.{IsCollected, WritesUpTo, pieces_in, puts_of}
use Rattle.snap_desk.specs.Puts.{AreFor}
use Rattle.snap_io.specs.Shelves.{Changes, Files}
use Rattle.snap_outlet.specs.Outlets.{pieces_of}
use Rattle.snap_outlet.specs.declared.piece.Piece.{Piece}
use Rattle.snap_outlet.specs.declared.view.Parcel.{Parcel}
use Rattle.snap_write.proofs.Grown.{part_keeps, put_keeps}
use Rattle.snap_write.proofs.Written.{changes_as}
use Rattle.snap_write.specs.Outputs.{IsNamed}
use Rattle.snap_write.specs.Pieces.{FilePiece, HasPut, HasPutPart}
use Rattle.snap_write.specs.declared.unwritten.Unwritten.{Unwritten}
use Rattle.snap_desk.specs.Files.{KeepsOthers}

abbrev Puts : Type 0
Puts = List (ℕ × FilePiece)

own_first : (s : ℕ) (x : Parcel) (xs : List Parcel) → x.sender ≡ s → pieces_of s (x ∷ xs) ≡ x.piece ∷ pieces_of s xs
own_first s x xs e = rw (eq-eqb x.sender s e) refl

for_rest : (names : List (List ℕ)) (s : ℕ) (x : Parcel) (xs : List Parcel) → AreFor names (pieces_of s (x ∷ xs)) → AreFor names (pieces_of s xs)
for_rest names s x xs h = either (x.sender == s) h
  where
    left : List Parcel
    left = filter (λ y. y.sender == s) xs

    either : (b : Bool) → AreFor names (map (λ (y : Parcel). y.piece) (cond b (x ∷ left) left)) → AreFor names (map (λ (y : Parcel). y.piece) left)
    either true h = h.1
    either false h = h

-- where the pieces of each worker are for files of these names, all are
parcels_for : (all names : List (List ℕ)) (n : ℕ) (xs : List Parcel) → All (λ (x : Parcel). x.sender < n) xs → ((i : ℕ) → i < n → AreFor all (pieces_of i xs)) → All (λ (x : ℕ × FilePiece). IsNamed all (let p = x.1 in p.file)) (puts_of names xs)
parcels_for all names n [] within each i d l = absurd (omega (arith, l))
parcels_for all names n (x ∷ xs) within each zero d l =
    let own = each x.sender (within 0 x (omega arith)) in
    (subst (λ (ps : List Piece). AreFor all ps) (own_first x.sender x xs refl) own).0
parcels_for all names n (x ∷ xs) within each (suc i) d l =
    parcels_for all names n xs (λ k e m. within (suc k) e (omega (arith, m))) (λ k m. for_rest all k x xs (each k m)) i d (omega (arith, l))

-- pieces for files of these names leave all others alone
module _ (names : List (List ℕ)) where
  abbrev Named : Puts → Type 0
  Named puts = All (λ (x : ℕ × FilePiece). IsNamed names (let p = x.1 in p.file)) puts

  bare : (puts : Puts) → Named puts → All (λ (p : FilePiece). IsNamed names p.file) (pieces_in puts)
  bare [] h i d l = absurd (omega (arith, l))
  bare (x ∷ puts) h zero d l = h 0 x (omega arith)
  bare (x ∷ puts) h (suc i) d l = bare puts (λ k e m. h (suc k) e (omega (arith, m))) i d (omega (arith, l))

  in_front : (done rest : Puts) → Named (done ++ rest) → Named done
  in_front [] rest h i d l = absurd (omega (arith, l))
  in_front (x ∷ done) rest h zero d l = h 0 x (omega arith)
  in_front (x ∷ done) rest h (suc i) d l = in_front done rest (λ k e m. h (suc k) e (omega (arith, m))) i d (omega (arith, l))

  behind : (done : Puts) (x : ℕ × FilePiece) (rest : Puts) → Named (done ++ x ∷ rest) → IsNamed names (let p = x.1 in p.file)
  behind [] x rest h = h 0 x (omega arith)
  behind (y ∷ done) x rest h = behind done x rest (λ k e m. h (suc k) e (omega (arith, m)))

  pub same_kept : (old new : Option Files) → new ≡ old → Changes old new (KeepsOthers names)
  same_kept old new is = subst (λ (x : Option Files). Changes old x (KeepsOthers names)) (sym is) (here old)
    where
      here : (o : Option Files) → Changes o o (KeepsOthers names)
      here None = tt
      here (Some f) = λ name. inl refl

  cut_kept : (puts : Puts) (old new : Option Files) (fault : Type 0) (why : Unwritten) → Named puts → WritesUpTo puts old new fault why → Changes old new (KeepsOthers names)
  cut_kept puts old new fault why named h =
      let all : Named (h.done ++ h.last ∷ h.rest) = subst Named h.all named in
      changes_as (HasPutPart (pieces_in h.done) h.last.1) (KeepsOthers names)
      (λ f g part. part_keeps names (pieces_in h.done) h.last.1 f g (bare h.done (in_front h.done (h.last ∷ h.rest) all)) (behind h.done h.last h.rest all) part) old new h.begun

  collected_kept : (a b : Result (Unit {0}) Unwritten) (puts : Puts) (old new : Option Files) (fault : Type 0) → Named puts → IsCollected a b puts old new fault → Changes old new (KeepsOthers names)
  collected_kept (Ok u) (Ok v) puts old new fault named h = changes_as (HasPut (pieces_in puts)) (KeepsOthers names) (λ f g put. put_keeps names (pieces_in puts) f g (bare puts named) put) old new h
  collected_kept (Ok u) (Err why) puts old new fault named h = cut_kept puts old new fault why named h
  collected_kept (Err why) b puts old new fault named h = same_kept old new h.0

-- the same of all workers' pieces
pub all_kept : (all names : List (List ℕ)) (n : ℕ) (xs : List Parcel) (a b : Result (Unit {0}) Unwritten) (old new : Option Files) (fault : Type 0) → All (λ (x : Parcel). x.sender < n) xs → ((i : ℕ) → i < n → AreFor all (pieces_of i xs))
    → IsCollected a b (puts_of names xs) old new fault → Changes old new (KeepsOthers all)
all_kept all names n xs a b old new fault within each h = collected_kept all a b (puts_of names xs) old new fault (parcels_for all names n xs within each) h
