-- What work changes of the parts of a view. Of a part as it was and as it is now, these take the
-- former, with the fields that a call may change as they are now: so a field that a part gets later
-- stays as it was, until it is named here. Then what all work keeps.
use Rattle.std.specs.Prelude.{◌≡◌, ◌⊎◌, ℕ, ◌≤◌, List, ◌++◌, true}
use Rattle.snap_stamp.specs.declared.layout.Field.{Field}
use Rattle.snap_steps.specs.Counting.{times, Among}
use Rattle.snap_steps.specs.Facts.{IsKnown}
use Rattle.snap_steps.specs.Histories.{Extends}
use Rattle.snap_steps.specs.Steps.Header.{all_handed, all_epochs}
use Rattle.snap_steps.specs.declared.view.Fact.{Fact}
use Rattle.snap_steps.specs.declared.view.Fresh.{Fresh}
use Rattle.snap_steps.specs.declared.view.Noted.{Noted}
use Rattle.snap_steps.specs.declared.view.Route.{Route}
use Rattle.snap_steps.specs.declared.view.Trail.{Trail}
use Rattle.snap_steps.specs.declared.view.View.{View}
use Rattle.snap_steps.specs.declared.view.WordNote.{WordNote}
use Rattle.snap_steps.specs.declared.view.Words.{Words}

-- with other notes, at another point of a way, with other steps behind it, with other words of rows,
-- and with other rows of its own: with whatever a call may change of that part
abbrev pub any_notes : Noted → Noted → Noted
any_notes v w =
    record v { notes = w.notes; handed = w.handed; epochs = w.epochs; worn = w.worn }

abbrev pub any_way : Route → Route → Route
any_way v w = record v { reads = w.reads; confirmed = w.confirmed; place = w.place }

abbrev pub any_trail : Trail → Trail → Trail
any_trail v w = record v { reached = w.reached; steps = w.steps }

abbrev pub any_words : Words → Words → Words
any_words v w = record v
    { knows = w.knows; refused = w.refused; lasting = w.lasting; present = w.present }

abbrev pub any_rows : Fresh → Fresh → Fresh
any_rows v w = record v { own = w.own; wrote = w.wrote; copies = w.copies }

-- without a note more
abbrev pub no_more_notes : Noted → Noted → Noted
no_more_notes v w = record v { worn = w.worn }

-- with notes more, but none of epochs, and no stamp was found at its end
abbrev pub no_more_epochs : Noted → Noted → Noted
no_more_epochs v w = record v { notes = w.notes; handed = w.handed }

-- at another point, with the same row confirmed and the same place
abbrev pub same_end : Route → Route → Route
same_end v w = record v { reads = w.reads }

-- without a row more that was reached
abbrev pub no_more_reached : Trail → Trail → Trail
no_more_reached v w = record v { steps = w.steps }

-- with other words of held rows, and none more that stay for good
abbrev pub held_words : Words → Words → Words
held_words v w = record v { knows = w.knows; refused = w.refused }

-- with other words of rows, and the epochs that were loaded before
abbrev pub same_present : Words → Words → Words
same_present v w = record v { knows = w.knows; refused = w.refused; lasting = w.lasting }

-- with no word more of any row
abbrev pub no_more_words : Words → Words → Words
no_more_words v w = record v { present = w.present }

-- with other words in the same rows
abbrev pub same_rows : Fresh → Fresh → Fresh
same_rows v w = record v { wrote = w.wrote }

-- with other rows, and copies for no other key
abbrev pub same_copies : Fresh → Fresh → Fresh
same_copies v w = record v { own = w.own; wrote = w.wrote }

-- with these notes more, and a stamp that was found at its greatest count isn't forgotten
pub record HasNoted (v w : Noted) (more : List WordNote) : Type 0 where
  pub notes : w.notes ≡ v.notes ++ more
  pub handed : w.handed ≡ all_handed v.handed more
  pub epochs : w.epochs ≡ all_epochs v.epochs more
  pub worn : v.worn ≡ true → w.worn ≡ true

abbrev pub NotesMore : View → View → List WordNote → Type 0
NotesMore v w more = HasNoted v.noted w.noted more

-- it has seen no more, or a history that goes on
abbrev pub SeesMore : View → View → Type 0
SeesMore v w = (w.seen ≡ v.seen) ⊎ Extends v w.seen

-- each row that was reached still is
abbrev pub KeepsReached : View → View → Type 0
KeepsReached v w = (r : ℕ) → times r v.trail.reached ≤ times r w.trail.reached

-- what was known for good still is, and so is the epoch
abbrev pub KeepsLasting : View → View → Type 0
KeepsLasting v w =
    (r : ℕ) (f : Field) (x : ℕ) → IsKnown v.words.lasting r f x → IsKnown w.words.lasting r f x

abbrev pub KeepsPresent : View → View → Type 0
KeepsPresent v w = (e : ℕ) → Among e v.words.present → Among e w.words.present

-- these words came behind those that were there
abbrev pub Grows : List Fact → List Fact → Type 0
Grows l m = (more : List Fact) × (m ≡ l ++ more)
