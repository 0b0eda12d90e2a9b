-- Commands on a clone.
use Rattle.std.proofs.Common.{◌≡◌, ℕ, List, Option, Some, None, Ok, Err, refl}
use Rattle.std.specs.Prelude.{ok_or}
use Rattle.snap_text.specs.declared.fault.LineKind.{LineKind}
use Rattle.snap_text.specs.declared.fault.LineKind.TheVariants.{NoSuchClone}
use Rattle.snap_text.specs.declared.verb.Verb.{Verb}
use Rattle.snap_text.specs.declared.verb.Verb.TheVariants as verb
use Rattle.snap_model.specs.declared.command.Command.{Command}
use Rattle.snap_text.specs.Clones.{Slots, slot_of}
use Rattle.snap_text.specs.Grammar.{and_then, done, form_of, in_slot, of_clone, of_clone_and_key, on_clone}
use Rattle.snap_text.specs.Verbs.{AsksAtKey, AsksOfClone}

-- a command on a clone, by the search for its slot
pub on_clone_is : (name : List ℕ) (make : ℕ → Command) (slots : Slots)
    → on_clone name make slots ≡ and_then (ok_or (slot_of slots name) NoSuchClone) (λ slot. Ok (make slot, slots))
on_clone_is name make slots = by_slot (slot_of slots name)
  where
    by_slot : (found : Option ℕ) → in_slot found make slots ≡ and_then (ok_or found NoSuchClone) (λ slot. Ok (make slot, slots))
    by_slot None = refl
    by_slot (Some slot) = refl

-- a question at a key is refused with its words
pub refused : (v : Verb) → AsksAtKey v → (words : List (List ℕ)) (slots : Slots) (kind : LineKind)
    → ((make : ℕ → ℕ → Command) → done (of_clone_and_key make) words slots ≡ Err kind) → done (form_of v) words slots ≡ Err kind
refused verb.See asks words slots kind is = is _
refused verb.Floor asks words slots kind is = is _
refused verb.Lower asks words slots kind is = is _
refused verb.Ceiling asks words slots kind is = is _
refused verb.Higher asks words slots kind is = is _
refused verb.Use asks words slots kind is = absurd asks
refused verb.Put asks words slots kind is = absurd asks
refused verb.Remove asks words slots kind is = absurd asks
refused verb.Get asks words slots kind is = absurd asks
refused verb.Clone asks words slots kind is = absurd asks
refused verb.Drop asks words slots kind is = absurd asks
refused verb.First asks words slots kind is = absurd asks
refused verb.Last asks words slots kind is = absurd asks
refused verb.Count asks words slots kind is = absurd asks
refused verb.Depth asks words slots kind is = absurd asks
refused verb.Export asks words slots kind is = absurd asks
refused verb.Load asks words slots kind is = absurd asks

-- and so is one to a whole clone
pub refused_of_clone : (v : Verb) → AsksOfClone v → (words : List (List ℕ)) (slots : Slots) (kind : LineKind)
    → ((make : ℕ → Command) → done (of_clone make) words slots ≡ Err kind) → done (form_of v) words slots ≡ Err kind
refused_of_clone verb.First asks words slots kind is = is _
refused_of_clone verb.Last asks words slots kind is = is _
refused_of_clone verb.Depth asks words slots kind is = is _
refused_of_clone verb.Use asks words slots kind is = absurd asks
refused_of_clone verb.Put asks words slots kind is = absurd asks
refused_of_clone verb.Remove asks words slots kind is = absurd asks
refused_of_clone verb.Get asks words slots kind is = absurd asks
refused_of_clone verb.Clone asks words slots kind is = absurd asks
refused_of_clone verb.Drop asks words slots kind is = absurd asks
refused_of_clone verb.See asks words slots kind is = absurd asks
refused_of_clone verb.Floor asks words slots kind is = absurd asks
refused_of_clone verb.Lower asks words slots kind is = absurd asks
refused_of_clone verb.Ceiling asks words slots kind is = absurd asks
refused_of_clone verb.Higher asks words slots kind is = absurd asks
refused_of_clone verb.Count asks words slots kind is = absurd asks
refused_of_clone verb.Export asks words slots kind is = absurd asks
refused_of_clone verb.Load asks words slots kind is = absurd asks
