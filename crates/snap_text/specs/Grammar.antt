-- The table of the language: which words make which command.
use Rattle.std.specs.Prelude.{◌==◌, ℕ, List, [], ◌∷◌, Option, Some, None, Result, Ok, Err, is_some, length, ok_or, slice_index, if◌then◌else◌}
use Rattle.snap_model.specs.declared.command.Command.{Command}
use Rattle.snap_model.specs.declared.command.Command.TheVariants as command
use Rattle.snap_text.specs.declared.fault.LineKind.{LineKind}
use Rattle.snap_text.specs.declared.fault.LineKind.TheVariants.{UnknownWord, WordCount, BadNumber, BadName, NoSuchClone, CloneTaken, TooManyClones}
use Rattle.snap_text.specs.declared.verb.Verb.{Verb}
use Rattle.snap_text.specs.declared.verb.Verb.TheVariants as verb
use Rattle.snap_text.specs.Clones.{Slots, free_slot, slot_of, with_clone, without_clone}
use Rattle.snap_text.specs.Names.{is_file, is_name}
use Rattle.snap_text.specs.Numbers.{FitsValue, greatest_key, greatest_value, number_of}
use Rattle.snap_text.specs.Verbs.{verb_of}

-- what a word after the first stands for
pub data WordKind : Type 0 where
  Key : WordKind
  Value : WordKind
  Name : WordKind
  File : WordKind

-- what such a word means
abbrev pub Meaning : WordKind → Type 0
Meaning Key = ℕ
Meaning Value = ℕ
Meaning Name = List ℕ
Meaning File = List ℕ

-- the meaning of a word of a kind, or what is wrong with the word
abbrev pub meaning_of : (kind : WordKind) → List ℕ → Result (Meaning kind) LineKind
meaning_of Key word = ok_or (number_of greatest_key word) BadNumber
meaning_of Value word = ok_or (number_of greatest_value word) BadNumber
meaning_of Name word = if is_name word then Ok word else Err BadName
meaning_of File word = if is_file word then Ok word else Err BadName

-- what a line does while these clones are live: its command and the clones afterwards, or what is
-- wrong with it
abbrev pub Action : Type 0
Action = Slots → Result (Command × Slots) LineKind

-- a command that names no clone
abbrev pub plain : Command → Action
plain command slots = Ok (command, slots)

-- a command on the clone in a slot
abbrev pub in_slot : Option ℕ → (ℕ → Command) → Action
in_slot None make slots = Err NoSuchClone
in_slot (Some slot) make slots = Ok (make slot, slots)

-- a command on the live clone of a name
abbrev pub on_clone : List ℕ → (ℕ → Command) → Action
on_clone name make slots = in_slot (slot_of slots name) make slots

-- a clone of a name is made in the lowest free slot
abbrev pub make_in : Option ℕ → List ℕ → Action
make_in None name slots = Err TooManyClones
make_in (Some slot) name slots = Ok (command.Snap slot name, with_clone slots slot name)

abbrev pub make_clone : List ℕ → Action
make_clone name slots =
    if is_some (slot_of slots name) then Err CloneTaken else make_in (free_slot slots) name slots

-- the live clone of a name is given up
abbrev pub drop_in : Option ℕ → List ℕ → Action
drop_in None name slots = Err NoSuchClone
drop_in (Some slot) name slots = Ok (command.Forget slot name, without_clone slots slot)

abbrev pub drop_clone : List ℕ → Action
drop_clone name slots = drop_in (slot_of slots name) name slots

-- how the meanings of words of these kinds make an action
abbrev pub Maker : List WordKind → Type 0
Maker [] = Action
Maker (kind ∷ kinds) = Meaning kind → Maker kinds

-- a form of a line: the kinds of its words after the first, and what it does
pub record Form : Type 0 where
  pub kinds : List WordKind
  pub make : Maker kinds

-- forms of one clone's name, and of that and a key
abbrev pub of_clone : (ℕ → Command) → Form
of_clone command = record { kinds = Name ∷ []; make = λ name. on_clone name command }

abbrev pub of_clone_and_key : (ℕ → ℕ → Command) → Form
of_clone_and_key command =
    record { kinds = Name ∷ Key ∷ []; make = λ name key. on_clone name (λ slot. command slot key) }

-- the language
abbrev pub form_of : Verb → Form
form_of verb.Use = record { kinds = Name ∷ []; make = λ table. plain (command.Table table) }
form_of verb.Put =
    record { kinds = Key ∷ Value ∷ []; make = λ key value. plain (command.Put key value) }
form_of verb.Remove = record { kinds = Key ∷ []; make = λ key. plain (command.Remove key) }
form_of verb.Get = record { kinds = Key ∷ []; make = λ key. plain (command.Get key) }
form_of verb.Clone = record { kinds = Name ∷ []; make = make_clone }
form_of verb.Drop = record { kinds = Name ∷ []; make = drop_clone }
form_of verb.See = of_clone_and_key (λ slot key. command.See slot key)
form_of verb.First = of_clone (λ slot. command.First slot)
form_of verb.Last = of_clone (λ slot. command.Last slot)
form_of verb.Floor = of_clone_and_key (λ slot key. command.Floor slot key)
form_of verb.Lower = of_clone_and_key (λ slot key. command.Lower slot key)
form_of verb.Ceiling = of_clone_and_key (λ slot key. command.Ceiling slot key)
form_of verb.Higher = of_clone_and_key (λ slot key. command.Higher slot key)
form_of verb.Count = record {
  kinds = Name ∷ Key ∷ Key ∷ [];
  make = λ name lo hi. on_clone name (λ slot. command.Count slot lo hi);
}
form_of verb.Depth = of_clone (λ slot. command.Depth slot)
form_of verb.Export = record {
  kinds = Name ∷ Key ∷ Key ∷ File ∷ [];
  make = λ name lo hi file. on_clone name (λ slot. command.Export slot lo hi file);
}
form_of verb.Load = record { kinds = File ∷ []; make = λ file. plain (command.Load file) }

-- what follows from a meaning, where there is one
abbrev pub and_then : {A B : Type 0} → Result A LineKind → (A → Result B LineKind)
    → Result B LineKind
and_then (Ok x) f = f x
and_then (Err kind) f = Err kind

-- the action of words of these kinds, or what is wrong with the first word that is wrong
abbrev pub made : (kinds : List WordKind) → Maker kinds → List (List ℕ) → Result Action LineKind
made [] action words = Ok action
made (kind ∷ kinds) make [] = Err WordCount
made (kind ∷ kinds) make (word ∷ words) =
    and_then (meaning_of kind word) (λ meaning. made kinds (make meaning) words)

-- the action of a form with these words after the first
abbrev pub filled_form : Form → List (List ℕ) → Result Action LineKind
filled_form form words =
    if length words == length form.kinds then made form.kinds form.make words else Err WordCount

-- what a form with these words does while these clones are live
abbrev pub done : Form → List (List ℕ) → Action
done form words slots = and_then (filled_form form words) (λ action. action slots)

-- the same of a line's verb, if it has one
abbrev pub done_by : Option Verb → List (List ℕ) → Action
done_by None words slots = Err UnknownWord
done_by (Some verb) words slots = done (form_of verb) words slots

-- what a line does, by its words: a line without words, or whose first word begins with `#`, has no
-- command
abbrev pub line_of : List (List ℕ) → Slots → Result (Option Command × Slots) LineKind
line_of [] slots = Ok (None, slots)
line_of (word ∷ words) slots =
    if slice_index word 0 == 35 then Ok (None, slots)
    else and_then (done_by (verb_of word) words slots) (λ does. Ok (Some does.0, does.1))

-- a put's value is one that a map can hold
abbrev pub HasValueInRange : Command → Type 0
HasValueInRange (command.Put key value) = FitsValue value
HasValueInRange _ = Unit {0}
