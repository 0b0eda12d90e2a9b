-- The first word of each form of a line.
use Rattle.std.specs.Prelude.{ℕ, List, [], ◌∷◌, Option, bytes_eq, codes, find}
use Rattle.snap_text.specs.declared.verb.Verb.{Verb}
use Rattle.snap_text.specs.declared.verb.Verb.TheVariants as verb

abbrev pub verb_word : Verb → List ℕ
verb_word verb.Use = codes "use"
verb_word verb.Put = codes "put"
verb_word verb.Remove = codes "remove"
verb_word verb.Get = codes "get"
verb_word verb.Clone = codes "clone"
verb_word verb.Drop = codes "drop"
verb_word verb.See = codes "see"
verb_word verb.First = codes "first"
verb_word verb.Last = codes "last"
verb_word verb.Floor = codes "floor"
verb_word verb.Lower = codes "lower"
verb_word verb.Ceiling = codes "ceiling"
verb_word verb.Higher = codes "higher"
verb_word verb.Count = codes "count"
verb_word verb.Depth = codes "depth"
verb_word verb.Export = codes "export"
verb_word verb.Load = codes "load"

abbrev pub verbs : List Verb
verbs =
    verb.Use ∷ verb.Put ∷ verb.Remove ∷ verb.Get ∷ verb.Clone ∷ verb.Drop ∷ verb.See ∷ verb.First
    ∷ verb.Last ∷ verb.Floor
    ∷ verb.Lower ∷ verb.Ceiling ∷ verb.Higher ∷ verb.Count ∷ verb.Depth ∷ verb.Export ∷ verb.Load
    ∷ []

-- the verb that a word writes
unfoldable pub verb_of : List ℕ → Option Verb
verb_of word = find (λ verb. bytes_eq (verb_word verb) word) verbs

-- the verb asks a whole clone
abbrev pub AsksOfClone : Verb → Type 0
AsksOfClone verb.First = Unit {0}
AsksOfClone verb.Last = Unit {0}
AsksOfClone verb.Depth = Unit {0}
AsksOfClone _ = ⊥

-- the verb asks a clone at a key
abbrev pub AsksAtKey : Verb → Type 0
AsksAtKey verb.See = Unit {0}
AsksAtKey verb.Floor = Unit {0}
AsksAtKey verb.Lower = Unit {0}
AsksAtKey verb.Ceiling = Unit {0}
AsksAtKey verb.Higher = Unit {0}
AsksAtKey _ = ⊥
