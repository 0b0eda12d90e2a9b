-- What is known of bytes that were read from a shelf, where it tells its files.
use Rattle.std.specs.Prelude.{◌≡◌, ◌≤◌, ℕ, List, Option, Some, length, take}
use Rattle.snap_io.specs.Shelves.{Files, IfTold, OfFile}
use Rattle.snap_plan.specs.Inputs.{unless_longer}

-- the file is there and has this size
abbrev pub IsSize : ℕ → Option (List ℕ) → Type 0
IsSize size file = OfFile file (λ bytes. size ≡ length bytes)

-- the bytes are the front of the file
abbrev pub IsFrontOf : List ℕ → List ℕ → Type 0
IsFrontOf file bytes = (bytes ≡ take (length bytes) file) × (length bytes ≤ length file)

abbrev pub IsFront : Option Files → List ℕ → List ℕ → Type 0
IsFront files name bytes = IfTold files (λ f. OfFile (f name) (λ file. IsFrontOf file bytes))

-- they are the whole file
abbrev pub IsWhole : Option Files → List ℕ → List ℕ → Type 0
IsWhole files name bytes = IfTold files (λ f. f name ≡ Some bytes)

-- they are the whole file, or there are none since it has more than so many
abbrev pub IsRead : ℕ → Option Files → List ℕ → Option (List ℕ) → Type 0
IsRead most files name bytes =
    IfTold files (λ f. OfFile (f name) (λ file. bytes ≡ unless_longer most (Some file)))
