-- What becomes of the pieces that are taken, and of the files by them.
use Rattle.std.specs.Prelude.{◌≡◌, ◌≢◌, ◌≤◌, ◌<◌, ◌+◌, ℕ, List, [], ◌∷◌, ◌++◌, All, IfSome, None, Option, Result, Ok, Err, OnOk, map, not}
use Rattle.snap_io.specs.Causes.{Rose}
use Rattle.snap_io.specs.Shelves.{Changes, Files, IfTold}
use Rattle.snap_outlet.specs.Outlets.{OutletId, TakerAt}
use Rattle.snap_outlet.specs.Posts.{parcels}
use Rattle.snap_outlet.specs.declared.piece.Piece.{Piece}
use Rattle.snap_outlet.specs.declared.view.Parcel.{Parcel}
use Rattle.snap_write.specs.Outputs.{is_named, IsNamed, IsUnwritten}
use Rattle.snap_write.specs.Pieces.{FilePiece, HasPut, HasPutPart}
use Rattle.snap_write.specs.declared.unwritten.Unwritten.{Unwritten}
use Rattle.snap_desk.specs.declared.collecting.Collector.{Collector}

-- a piece as it comes to its file: to a reply file it is added, each other it makes
abbrev pub as_piece : List (List ℕ) → Piece → FilePiece
as_piece names p = record { file = p.file; makes = not (is_named names p.file); text = p.bytes }

-- the same with the worker's number
abbrev pub as_put : List (List ℕ) → Parcel → ℕ × FilePiece
as_put names x = (x.sender, as_piece names x.piece)

abbrev pub puts_of : List (List ℕ) → List Parcel → List (ℕ × FilePiece)
puts_of names xs = map (as_put names) xs

-- pieces without their workers' numbers
abbrev pub pieces_in : List (ℕ × FilePiece) → List FilePiece
pieces_in puts = map (λ x. x.1) puts

-- the files of these names are there
abbrev pub AreThere : List (List ℕ) → Files → Type 0
AreThere names files = (name : List ℕ) → IsNamed names name → files name ≢ None

-- the pieces were written up to one, of which a front was written at most
pub record WritesUpTo (puts : List (ℕ × FilePiece)) (old new : Option Files) (fault : Type 0)
    (why : Unwritten) : Type 0 where
  pub done : List (ℕ × FilePiece)
  pub last : ℕ × FilePiece
  pub rest : List (ℕ × FilePiece)
  pub all : puts ≡ done ++ last ∷ rest
  pub begun : Changes old new (HasPutPart (pieces_in done) last.1)
  pub unwritten : IsUnwritten (last.1.file ∷ []) fault why

-- what became of the files by these pieces: once one could not be written, nothing more is
abbrev pub IsCollected : Result (Unit {0}) Unwritten → Result (Unit {0}) Unwritten
    → List (ℕ × FilePiece) → Option Files → Option Files → Type 0 → Type 0
IsCollected (Ok u) (Ok v) puts old new fault = Changes old new (HasPut (pieces_in puts))
IsCollected (Ok u) (Err why) puts old new fault = WritesUpTo puts old new fault why
IsCollected (Err why) now puts old new fault = (new ≡ old) × (now ≡ Err why)

-- the reply files are there, unless one could not be written
abbrev pub IsReadyToWrite : Collector → Option Files → Type 0
IsReadyToWrite c files =
    IfSome c.names (λ names. OnOk c.written (IfTold files (AreThere names.now)))

-- a collector that takes from this outlet, and can write what it takes
pub record CanDrain (c : Collector) (outlet : OutletId) (files : Option Files) : Type 0 where
  pub outlet_is : c.taker.outlet ≡ outlet
  pub ready : IsReadyToWrite c files

-- what a collector that writes leaves: it can write on, no read has failed, and without reply files
-- nothing has changed
pub record GoesOnWriting {S : Type 0} (files : S → Option Files) (read_faults : S → ℕ)
    (c d : Collector) (old new : S) : Type 0 where
  pub ready : IsReadyToWrite d (files new)
  pub reads : read_faults new ≡ read_faults old
  pub none : c.names ≡ None → (new ≡ old) × (d.written ≡ c.written)

-- these pieces of workers came to a collector, which writes them where there are reply files
pub record Collects (c d : Collector) (xs : List Parcel) (old new : Option Files)
    (w0 w1 : ℕ) : Type 0 where
  pub names : d.names ≡ c.names
  pub files : IfSome c.names
      (λ names. IsCollected c.written d.written (puts_of names.now xs) old new (Rose w0 w1))
  pub later : w0 ≤ w1

-- these pieces were taken
pub record TakesParcels (t u : TakerAt) (xs : List Parcel) : Type 0 where
  pub outlet : u.outlet ≡ t.outlet
  pub senders : u.tally.senders ≡ t.tally.senders
  pub finished : u.tally.finished ≡ t.tally.finished
  pub taken : u.tally.taken ≡ t.tally.taken ++ xs
  pub within : All (λ x. x.sender < t.tally.senders) xs

-- pieces were taken and collected
pub record Drains (c d : Collector) (old new : Option Files) (w0 w1 : ℕ) : Type 0 where
  pub parcels : List Parcel
  pub takes : TakesParcels c.taker d.taker parcels
  pub collects : Collects c d parcels old new w0 w1

-- what waits at the posts of the workers from this number on, post by post
abbrev pub rests_from : ℕ → List (List Piece) → List Parcel
rests_from number [] = []
rests_from number (pieces ∷ rests) = parcels number pieces ++ rests_from (number + 1) rests
