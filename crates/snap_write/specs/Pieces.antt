-- Files that are written piece by piece, by several writers; what holds of all files meanwhile.
use Rattle.std.specs.Prelude.{◌≡◌, ◌≢◌, ◌==◌, ◌<◌, ◌⊎◌, ℕ, Bool, false, cond, not, List, [], ◌∷◌, ◌++◌, Option, Some, None, All, AllPairs, bytes_eq, filter, flat_map, length, map, slice_index_or, take}
use Rattle.std.specs.Option.{option_map}
use Rattle.snap_io.specs.Shelves.{Files}
use Rattle.snap_write.specs.Outputs.{Outputs, names_of}

-- a piece of a file: it makes the file anew with its text, or adds this to the file that is there
pub record FilePiece : Type 0 where
  pub file : List ℕ
  pub makes : Bool
  pub text : List ℕ

-- the pieces of one file, in their order
abbrev pub of_file : List ℕ → List FilePiece → List FilePiece
of_file name pieces = filter (λ p. bytes_eq p.file name) pieces

-- a file after a piece of it, and after several
abbrev pub after_piece : Option (List ℕ) → FilePiece → Option (List ℕ)
after_piece old p = cond p.makes (Some p.text) (option_map (λ bytes. bytes ++ p.text) old)

abbrev pub after_pieces : Option (List ℕ) → List FilePiece → Option (List ℕ)
after_pieces old [] = old
after_pieces old (p ∷ pieces) = after_pieces (after_piece old p) pieces

-- each file is what its pieces made of it, in their order; one of which there are none is as it was
abbrev pub HasPut : List FilePiece → Files → Files → Type 0
HasPut pieces old new = (name : List ℕ) → new name ≡ after_pieces (old name) (of_file name pieces)

-- a piece with a front of its text
abbrev pub front_piece : ℕ → FilePiece → FilePiece
front_piece n p = record p { text = take n p.text }

-- these pieces were put, and of one more nothing or a front
abbrev pub HasPutPart : List FilePiece → FilePiece → Files → Files → Type 0
HasPutPart pieces p old new = HasPut pieces old new
    ⊎ ((n : ℕ) × HasPut (pieces ++ front_piece n p ∷ []) old new)

-- the file of an added piece is there
abbrev pub IsThereToAdd : Bool → List ℕ → Files → Type 0
IsThereToAdd makes name files = makes ≡ false → files name ≢ None

-- the texts of the pieces of a file, one behind the other
abbrev pub added : List ℕ → List FilePiece → List ℕ
added name pieces = flat_map (λ p. p.text) (of_file name pieces)

-- the pieces of other files, each as a file with its text
abbrev pub made_beside : List ℕ → List FilePiece → Outputs
made_beside name pieces =
    map (λ p. (p.file, p.text)) (filter (λ p. not (bytes_eq p.file name)) pieces)

-- a writer adds to its reply file up to its text, and makes each of its exports by one piece
pub record PutsOut (file : List ℕ × List ℕ) (others : Outputs)
    (pieces : List FilePiece) : Type 0 where
  pub ways : All (λ p. p.makes ≡ not (bytes_eq p.file file.0)) pieces
  pub reply : added file.0 pieces ≡ file.1
  pub exports : made_beside file.0 pieces ≡ others

-- the pieces of one writer among those of all, in their order
abbrev pub of_writer : ℕ → List (ℕ × FilePiece) → List FilePiece
of_writer writer all = map (λ x. x.1) (filter (λ x. x.0 == writer) all)

-- the files of all writers: the reply files, then the exports of each
abbrev pub files_put : Outputs → List Outputs → Outputs
files_put replies exports = replies ++ flat_map (λ files. files) exports

-- these pieces, each with its writer, are all that the writers put; no two files have the same name
pub record ArePutOut (replies : Outputs) (exports : List Outputs)
    (all : List (ℕ × FilePiece)) : Type 0 where
  pub even : length exports ≡ length replies
  pub writers : All (λ x. x.0 < length replies) all
  pub each : (i : ℕ) (d : List ℕ × List ℕ) (e : Outputs) → i < length replies
      → PutsOut (slice_index_or replies i d) (slice_index_or exports i e) (of_writer i all)
  pub differ : AllPairs (λ a b. a ≢ b) (names_of (files_put replies exports))

-- the files of these names are there and empty
abbrev pub AreEmpty : Outputs → Files → Type 0
AreEmpty outputs files = All (λ output. files output.0 ≡ Some []) outputs
