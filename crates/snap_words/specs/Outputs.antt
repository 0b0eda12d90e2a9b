-- The names of the files that a run writes beside its exports, and whether two of them are one.
use Rattle.std.specs.Prelude.{◌||◌, ◌++◌, ℕ, Bool, false, List, [], ◌∷◌, Option, bytes_eq, codes, map}
use Rattle.std.specs.List.{list_any}
use Rattle.std.specs.Option.{option_to_list}

-- the name of a script's reply file
abbrev pub reply_name : List ℕ → List ℕ
reply_name script = script ++ codes ".out"

-- the reply file of each script, and the final file if there is one
abbrev pub outputs : List (List ℕ) → Option (List ℕ) → List (List ℕ)
outputs scripts last = map reply_name scripts ++ option_to_list last

-- a name stands twice
abbrev pub has_twice : List (List ℕ) → Bool
has_twice [] = false
has_twice (name ∷ names) = list_any (bytes_eq name) names || has_twice names
