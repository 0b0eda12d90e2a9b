-- What holds of every command of the language: a put's value is in its range, and slots are used as they may be.
use Rattle.std.proofs.Common.{◌≡◌, ℕ, ◌+◌, arith, Bool, true, false, true≢false, cond, List, [], ◌∷◌, Option, Some, None, Result, Ok, Err, length, get_or, refl, sym, ap, subst, ◌∙◌, eqb, is_some}
use Rattle.std.specs.Prelude.{All, is_none, ok_or, slice_index}
use Rattle.std.specs.List.{AllByRecursion}
use Rattle.std.specs.Str.Parse.{digits_value}
use Rattle.std.proofs.lemmas.List.Elements.{All-from_recursion}
use Rattle.std.proofs.lemmas.List.Quantifiers.{position-Some}
use Rattle.std.proofs.lemmas.Option.{slice_get-get_or}
use Rattle.snap_model.specs.declared.command.Command.{Command}
use Rattle.snap_model.specs.declared.command.Command.TheVariants as command
use Rattle.snap_text.specs.declared.fault.LineKind.{LineKind}
use Rattle.snap_text.specs.declared.fault.LineKind.TheVariants as kind
use Rattle.snap_text.specs.declared.fault.ScriptFault.{ScriptFault}
use Rattle.snap_text.specs.declared.fault.ScriptFault.TheVariants as fault
use Rattle.snap_text.specs.declared.script.Line.{Line}
use Rattle.snap_text.specs.declared.verb.Verb.{Verb}
use Rattle.snap_text.specs.declared.verb.Verb.TheVariants as verb
use Rattle.snap_text.specs.Clones.{Slots, all_free, free_slot, has_name, slot_of}
use Rattle.snap_text.specs.Grammar.{Action, File, Form, HasValueInRange, Key, Maker, Meaning, Name, Value, WordKind, and_then, done, done_by, drop_clone, drop_in, filled_form, form_of, in_slot, line_of, made, make_clone, make_in, meaning_of, on_clone, plain}
use Rattle.snap_text.specs.Lines.{lines, words}
use Rattle.snap_text.specs.Numbers.{FitsValue, greatest_value, is_number}
use Rattle.snap_text.specs.Scripts.{is_too_long, script_from, script_of, with_command, with_line}
use Rattle.snap_text.specs.Uses.{AllUseSlots, IsFreeSlot, IsTakenSlot, UsesSlots, slots_after}
use Rattle.snap_text.specs.Verbs.{verb_of}
use Rattle.snap_text.proofs.Digits.{parts_of_number}

-- a command that was read while these clones were live, and the clones that are live after it
record IsSound (old : Slots) (c : Command) (new : Slots) : Type 0 where
  in_range : HasValueInRange c
  uses : UsesSlots old c
  after : new ≡ slots_after old c

abbrev SoundAction : Action → Type 0
SoundAction action = (slots : Slots) (c : Command) (later : Slots) → action slots ≡ Ok (c, later) → IsSound slots c later

-- what is known of the meaning of a word
abbrev IsMeaning : (kind : WordKind) → Meaning kind → Type 0
IsMeaning Value value = FitsValue value
IsMeaning Key key = Unit {0}
IsMeaning Name name = Unit {0}
IsMeaning File file = Unit {0}

abbrev SoundMaker : (kinds : List WordKind) → Maker kinds → Type 0
SoundMaker [] action = SoundAction action
SoundMaker (kind ∷ kinds) make = (meaning : Meaning kind) → IsMeaning kind meaning → SoundMaker kinds (make meaning)

-- the slots that are found
taken_slot : (slots : Slots) (name : List ℕ) (slot : ℕ) → slot_of slots name ≡ Some slot → IsTakenSlot slots slot
taken_slot slots name slot is =
    let at = position-Some (has_name name) slots slot None is in
    let some = named (get_or slots slot None) at.1 in
    (some.0, slice_get-get_or slots slot None at.0 ∙ ap Some some.1)
  where
    named : (live : Option (List ℕ)) → has_name name live ≡ true → (other : List ℕ) × (live ≡ Some other)
    named None e = absurd (true≢false (sym e))
    named (Some other) e = (other, refl)

free_is_free : (slots : Slots) (slot : ℕ) → free_slot slots ≡ Some slot → IsFreeSlot slots slot
free_is_free slots slot is =
    let at = position-Some is_none slots slot None is in
    slice_get-get_or slots slot None at.0 ∙ ap Some (none (get_or slots slot None) at.1)
  where
    none : (live : Option (List ℕ)) → is_none live ≡ true → live ≡ None
    none None e = refl
    none (Some other) e = absurd (true≢false (sym e))

-- what the actions do
parts : {A B : Type 0} (x y : A × B) → x ≡ y → (x.0 ≡ y.0) × (x.1 ≡ y.1)
parts {A} {B} x y e = (ap (λ (p : A × B). p.0) e, ap (λ (p : A × B). p.1) e)

plain_sound : (c : Command) → HasValueInRange c → ((slots : Slots) → UsesSlots slots c) → ((slots : Slots) → slots ≡ slots_after slots c) → SoundAction (plain c)
plain_sound c in_range uses after slots d later e =
    let same = parts (c, slots) (d, later) (cc e) in
    rw (← same.0, ← same.1) (record { in_range = in_range; uses = uses slots; after = after slots })

on_clone_sound : (name : List ℕ) (make : ℕ → Command) → ((slot : ℕ) → HasValueInRange (make slot)) → ((slots : Slots) (slot : ℕ) → IsTakenSlot slots slot → UsesSlots slots (make slot))
    → ((slots : Slots) (slot : ℕ) → slots ≡ slots_after slots (make slot)) → SoundAction (on_clone name make)
on_clone_sound name make in_range uses after slots c later e = by_slot (slot_of slots name) refl e
  where
    by_slot : (found : Option ℕ) → slot_of slots name ≡ found → in_slot found make slots ≡ Ok (c, later) → IsSound slots c later
    by_slot None is e = absurd (cc e)
    by_slot (Some slot) is e =
        let same = parts (make slot, slots) (c, later) (cc e) in
        rw (← same.0, ← same.1) (record { in_range = in_range slot; uses = uses slots slot (taken_slot slots name slot is); after = after slots slot })

make_clone_sound : (name : List ℕ) → SoundAction (make_clone name)
make_clone_sound name slots c later e = by_test (is_some (slot_of slots name)) e
  where
    by_slot : (found : Option ℕ) → free_slot slots ≡ found → make_in found name slots ≡ Ok (c, later) → IsSound slots c later
    by_slot None is e = absurd (cc e)
    by_slot (Some slot) is e =
        let same = parts (command.Snap slot name, slots_after slots (command.Snap slot name)) (c, later) (cc e) in
        rw (← same.0, ← same.1) (record { in_range = tt; uses = free_is_free slots slot is; after = refl })

    by_test : (live : Bool) → cond live (Err kind.CloneTaken) (make_in (free_slot slots) name slots) ≡ Ok (c, later) → IsSound slots c later
    by_test true e = absurd (cc e)
    by_test false e = by_slot (free_slot slots) refl e

drop_clone_sound : (name : List ℕ) → SoundAction (drop_clone name)
drop_clone_sound name slots c later e = by_slot (slot_of slots name) refl e
  where
    by_slot : (found : Option ℕ) → slot_of slots name ≡ found → drop_in found name slots ≡ Ok (c, later) → IsSound slots c later
    by_slot None is e = absurd (cc e)
    by_slot (Some slot) is e =
        let same = parts (command.Forget slot name, slots_after slots (command.Forget slot name)) (c, later) (cc e) in
        rw (← same.0, ← same.1) (record { in_range = tt; uses = taken_slot slots name slot is; after = refl })

-- the table
forms_sound : (verb : Verb) → SoundMaker (form_of verb).kinds (form_of verb).make
forms_sound verb.Use = λ table _. plain_sound (command.Table table) tt (λ _. tt) (λ _. refl)
forms_sound verb.Put = λ key _ value small. plain_sound (command.Put key value) small (λ _. tt) (λ _. refl)
forms_sound verb.Remove = λ key _. plain_sound (command.Remove key) tt (λ _. tt) (λ _. refl)
forms_sound verb.Get = λ key _. plain_sound (command.Get key) tt (λ _. tt) (λ _. refl)
forms_sound verb.Clone = λ name _. make_clone_sound name
forms_sound verb.Drop = λ name _. drop_clone_sound name
forms_sound verb.See = λ name _ key _. on_clone_sound name (λ slot. command.See slot key) (λ _. tt) (λ _ _ taken. taken) (λ _ _. refl)
forms_sound verb.First = λ name _. on_clone_sound name (λ slot. command.First slot) (λ _. tt) (λ _ _ taken. taken) (λ _ _. refl)
forms_sound verb.Last = λ name _. on_clone_sound name (λ slot. command.Last slot) (λ _. tt) (λ _ _ taken. taken) (λ _ _. refl)
forms_sound verb.Floor = λ name _ key _. on_clone_sound name (λ slot. command.Floor slot key) (λ _. tt) (λ _ _ taken. taken) (λ _ _. refl)
forms_sound verb.Lower = λ name _ key _. on_clone_sound name (λ slot. command.Lower slot key) (λ _. tt) (λ _ _ taken. taken) (λ _ _. refl)
forms_sound verb.Ceiling = λ name _ key _. on_clone_sound name (λ slot. command.Ceiling slot key) (λ _. tt) (λ _ _ taken. taken) (λ _ _. refl)
forms_sound verb.Higher = λ name _ key _. on_clone_sound name (λ slot. command.Higher slot key) (λ _. tt) (λ _ _ taken. taken) (λ _ _. refl)
forms_sound verb.Count = λ name _ lo _ hi _. on_clone_sound name (λ slot. command.Count slot lo hi) (λ _. tt) (λ _ _ taken. taken) (λ _ _. refl)
forms_sound verb.Depth = λ name _. on_clone_sound name (λ slot. command.Depth slot) (λ _. tt) (λ _ _ taken. taken) (λ _ _. refl)
forms_sound verb.Export = λ name _ lo _ hi _ file _. on_clone_sound name (λ slot. command.Export slot lo hi file) (λ _. tt) (λ _ _ taken. taken) (λ _ _. refl)
forms_sound verb.Load = λ file _. plain_sound (command.Load file) tt (λ _. tt) (λ _. refl)

-- how a form is filled
and_then_ok : {A B : Type 0} (r : Result A LineKind) (f : A → Result B LineKind) (y : B) → and_then r f ≡ Ok y → (x : A) × (r ≡ Ok x) × (f x ≡ Ok y)
and_then_ok (Ok x) f y e = (x, refl, e)
and_then_ok (Err kind) f y e = absurd (cc e)

value_in_range : (word : List ℕ) (value : ℕ) → meaning_of Value word ≡ Ok value → FitsValue value
value_in_range word value e = by_test (is_number greatest_value word) refl e
  where
    by_test : (is : Bool) → is_number greatest_value word ≡ is → ok_or (cond is (Some (digits_value 10 word)) None) kind.BadNumber ≡ Ok value → FitsValue value
    by_test true is e =
        let same : digits_value 10 word ≡ value = cc e in
        let small = (parts_of_number greatest_value word is).1 in
        omega (arith, same, small)
    by_test false is e = absurd (cc e)

meaning_holds : (kind : WordKind) (word : List ℕ) (meaning : Meaning kind) → meaning_of kind word ≡ Ok meaning → IsMeaning kind meaning
meaning_holds Value word meaning e = value_in_range word meaning e
meaning_holds Key word meaning e = tt
meaning_holds Name word meaning e = tt
meaning_holds File word meaning e = tt

made_sound : (kinds : List WordKind) (make : Maker kinds) → SoundMaker kinds make → (words : List (List ℕ)) (action : Action) → made kinds make words ≡ Ok action → SoundAction action
made_sound [] make sound words action e = let same : make ≡ action = cc e in subst SoundAction same sound
made_sound (kind ∷ kinds) make sound [] action e = absurd (cc e)
made_sound (kind ∷ kinds) make sound (word ∷ words) action e =
    let (meaning, is, more) = and_then_ok (meaning_of kind word) (λ meaning. made kinds (make meaning) words) action e in
    made_sound kinds (make meaning) (sound meaning (meaning_holds kind word meaning is)) words action more

done_sound : (form : Form) → SoundMaker form.kinds form.make → (words : List (List ℕ)) (slots : Slots) (c : Command) (later : Slots) → done form words slots ≡ Ok (c, later) → IsSound slots c later
done_sound form sound words slots c later e =
    let (action, is, does) = and_then_ok (filled_form form words) (λ action. action slots) (c, later) e in
    by_test (eqb (length words) (length form.kinds)) action is slots c later does
  where
    by_test : (as_many : Bool) (action : Action) → cond as_many (made form.kinds form.make words) (Err kind.WordCount) ≡ Ok action → SoundAction action
    by_test true action e = made_sound form.kinds form.make sound words action e
    by_test false action e = absurd (cc e)

-- what a line does
abbrev IsSoundLine : Slots → Option Command → Slots → Type 0
IsSoundLine slots None later = later ≡ slots
IsSoundLine slots (Some c) later = IsSound slots c later

skipped : (slots : Slots) (found : Option Command) (later : Slots) → ◌≡◌ {A = Option Command × Slots} (None, slots) (found, later) → IsSoundLine slots found later
skipped slots None later e = sym (parts (None, slots) (None, later) e).1
skipped slots (Some c) later e = let none = (parts (None, slots) (Some c, later) e).0 in absurd (cc none)

abbrev no_command : Slots → Result (Option Command × Slots) LineKind
no_command slots = Ok (None, slots)

abbrev one_command : Command × Slots → Result (Option Command × Slots) LineKind
one_command does = Ok (Some does.0, does.1)

line_sound : (line : List (List ℕ)) (slots : Slots) (found : Option Command) (later : Slots) → line_of line slots ≡ Ok (found, later) → IsSoundLine slots found later
line_sound [] slots found later e = skipped slots found later (cc e)
line_sound (word ∷ others) slots found later e = by_test (eqb (slice_index word 0) 35) found e
  where
    by_verb : (verb : Option Verb) (c : Command) → done_by verb others slots ≡ Ok (c, later) → IsSound slots c later
    by_verb None c e = absurd (cc e)
    by_verb (Some verb) c e = done_sound (form_of verb) (forms_sound verb) others slots c later e

    by_test : (skip : Bool) (found : Option Command) → cond skip (no_command slots) (and_then (done_by (verb_of word) others slots) one_command) ≡ Ok (found, later)
        → IsSoundLine slots found later
    by_test true found e = skipped slots found later (cc e)
    by_test false None e =
        let (does, is, same) = and_then_ok (done_by (verb_of word) others slots) one_command (None, later) e in
        let none = (parts (Some does.0, does.1) (None, later) (cc same)).0 in
        absurd (cc none)
    by_test false (Some c) e =
        let (does, is, same) = and_then_ok (done_by (verb_of word) others slots) one_command (Some c, later) e in
        let both = parts (Some does.0, does.1) (Some c, later) (cc same) in
        let first : does.0 ≡ c = cc (both.0) in
        let second = both.1 in
        by_verb (verb_of word) c (is ∙ (λ i. Ok (first i, second i)))

-- what a script does
record AreSound (slots : Slots) (script : List Line) : Type 0 where
  in_range : AllByRecursion (λ (line : Line). HasValueInRange line.command) script
  uses : AllUseSlots slots script

script_sound : (n : ℕ) (slots : Slots) (texts : List (List ℕ)) (script : List Line) → script_from n slots texts ≡ Ok script → AreSound slots script
script_sound n slots [] script e = let same : [] ≡ script = cc e in rw (← same) (record { in_range = tt; uses = tt })
script_sound n slots (text ∷ below) script e =
    by_line (line_of (words text) slots) refl e (λ later others e'. script_sound (n + 1) later below others e')
  where
    by_rest : (c : Command) (later : Slots) (rest : Result (List Line) ScriptFault) → IsSound slots c later → ((others : List Line) → rest ≡ Ok others → AreSound later others)
        → with_command n (Some c) rest ≡ Ok script → AreSound slots script
    by_rest c later (Err fault) sound more e = absurd (cc e)
    by_rest c later (Ok others) sound more e =
        let first : Line = record { line = n; command = c } in
        let same : first ∷ others ≡ script = cc e in
        let below = more others refl in
        rw (← same) (record {
          in_range = (sound.in_range, below.in_range);
          uses = (sound.uses, subst (λ (s : Slots). AllUseSlots s others) sound.after below.uses);
        })

    by_found : (found : Option Command) (later : Slots) → line_of (words text) slots ≡ Ok (found, later) → with_command n found (script_from (n + 1) later below) ≡ Ok script
        → ((others : List Line) → script_from (n + 1) later below ≡ Ok others → AreSound later others) → AreSound slots script
    by_found None later is e more = subst (λ (s : Slots). AreSound s script) (line_sound (words text) slots None later is) (more script e)
    by_found (Some c) later is e more = by_rest c later (script_from (n + 1) later below) (line_sound (words text) slots (Some c) later is) more e

    by_line : (does : Result (Option Command × Slots) LineKind) → line_of (words text) slots ≡ does → with_line n does (λ later. script_from (n + 1) later below) ≡ Ok script
        → ((later : Slots) (others : List Line) → script_from (n + 1) later below ≡ Ok others → AreSound later others) → AreSound slots script
    by_line (Err kind) is e more = absurd (cc e)
    by_line (Ok does) is e more = by_found does.0 does.1 is e (more does.1)

sound : (bytes : List ℕ) (script : List Line) → script_of bytes ≡ Ok script → AreSound all_free script
unfolding script_of
sound bytes script e = by_test (is_too_long bytes) e
  where
    by_test : (long : Bool) → cond long (Err fault.TooLong) (script_from 1 all_free (lines bytes)) ≡ Ok script → AreSound all_free script
    by_test true e = absurd (cc e)
    by_test false e = script_sound 1 all_free (lines bytes) script e

pub puts_in_range : (bytes : List ℕ) (script : List Line) → script_of bytes ≡ Ok script → All (λ (line : Line). HasValueInRange line.command) script
puts_in_range bytes script e = All-from_recursion (λ (line : Line). HasValueInRange line.command) script (sound bytes script e).in_range

pub uses_slots : (bytes : List ℕ) (script : List Line) → script_of bytes ≡ Ok script → AllUseSlots all_free script
uses_slots bytes script e = (sound bytes script e).uses
