-- Files that are written, each with its text; what holds of all files once they are, and before.
use Rattle.std.specs.Prelude.{◌≡◌, ◌⊎◌, ℕ, Bool, List, [], Option, Some, None, IsTrue, take, map, bytes_eq}
use Rattle.std.specs.List.{list_any}
use Rattle.std.specs.Option.{option_or}
use Rattle.std.specs.Map.{lookup}
use Rattle.snap_io.specs.Shelves.{Files}
use Rattle.snap_write.specs.declared.unwritten.Unwritten.{Unwritten}
use Rattle.snap_write.specs.declared.unwritten.Unwritten.TheVariants as why

-- files that are written: each name with its text
abbrev pub Outputs : Type 0
Outputs = List (List ℕ × List ℕ)

abbrev pub names_of : Outputs → List (List ℕ)
names_of outputs = map (λ output. output.0) outputs

-- empty files of these names
abbrev pub blank : List (List ℕ) → Outputs
blank names = map (λ name. (name, [])) names

-- the text that is written to a file of this name, if one is
abbrev pub text_for : Outputs → List ℕ → Option (List ℕ)
text_for outputs name = lookup (λ file. bytes_eq file name) outputs

-- each of these files has its text, and every other file is as it was
abbrev pub HasWritten : Outputs → Files → Files → Type 0
HasWritten outputs old new =
    (name : List ℕ) → new name ≡ option_or (text_for outputs name) (old name)

-- a file has the front of a text, if there is one
abbrev pub HasFront : Option (List ℕ) → Option (List ℕ) → Type 0
HasFront None file = ⊥
HasFront (Some text) file = (part : ℕ) × (file ≡ Some (take part text))

-- each of these files is as it was or has the front of its text, and every other file is as it was
abbrev pub HasBegun : Outputs → Files → Files → Type 0
HasBegun outputs old new =
    (name : List ℕ) → (new name ≡ old name) ⊎ HasFront (text_for outputs name) (new name)

-- one of these names
abbrev pub is_named : List (List ℕ) → List ℕ → Bool
is_named names name = list_any (λ known. bytes_eq known name) names

abbrev pub IsNamed : List (List ℕ) → List ℕ → Type 0
IsNamed names name = IsTrue (is_named names name)

-- a write failed, of one of these files, for whose name memory may be wanting
abbrev pub IsUnwritten : List (List ℕ) → Type 0 → Unwritten → Type 0
IsUnwritten names write_fault why.Memory = write_fault
IsUnwritten names write_fault (why.File file) = IsNamed names file × write_fault
