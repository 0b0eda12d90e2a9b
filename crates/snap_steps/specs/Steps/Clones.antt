-- A clone's seat: how it comes to be, and its loads.
use Rattle.std.specs.Prelude.{◌≡◌, ◌≤◌, ℕ, ◌||◌, List, [], ◌∷◌, cond, length}
use Rattle.atomic_table.specs.Table.{Step}
use Rattle.snap_model.specs.History.{Begins}
use Rattle.snap_rule.specs.Tree.{root}
use Rattle.snap_stamp.specs.Layout.{word_at}
use Rattle.snap_stamp.specs.Stamps.{count_of, last_count}
use Rattle.snap_stamp.specs.declared.layout.Field.{Field}
use Rattle.snap_stamp.specs.declared.layout.Field.TheVariants.{Stamp}
use Rattle.snap_steps.specs.Clones.{image_of, TellsWord}
use Rattle.snap_steps.specs.Memory.{done_at}
use Rattle.snap_steps.specs.Roles.{silent}
use Rattle.snap_steps.specs.Steps.Fields.{is_last}
use Rattle.snap_steps.specs.Steps.Header.{word_noted}
use Rattle.snap_steps.specs.Steps.Told.{Sat, Has}
use Rattle.snap_steps.specs.declared.view.Balance.{Balance}
use Rattle.snap_steps.specs.declared.view.Balance.TheVariants.{StampOut}
use Rattle.snap_steps.specs.declared.view.View.{View}
use Rattle.snap_steps.specs.declared.view.WordNote.TheVariants.{Done}

-- the seat of the clone that a pass has cut, or that another seat reads
abbrev pub seat_of : View → View
seat_of v =
    silent v.rows v.passes v.base.history v.noted.handed v.noted.epochs v.noted.worn v.base
    v.outworn

-- what is true of the seat of a clone between two calls, whose root is this row
pub record IsSeatOfClone (me : Sat) (top : ℕ) : Type 0 where
  pub free : me.1 ≡ []
  pub viewing : me.0 ≡ seat_of me.0
  pub top_is : top ≡ root (image_of me.0)
  pub low : top ≤ me.0.rows

-- the root of the clone that was cut
abbrev pub root_loaded : Step (Unit {0}) → Sat → ℕ → Sat → Type 0
root_loaded st m r n = Has m n m.0 × (r ≡ root (image_of m.0)) × (r ≤ m.0.rows)

-- how many writes were counted, of which a note is left: those of the history of the clone that was
-- cut, which goes on from what the pass has seen
abbrev pub writes_counted : Step (Unit {0}) → Sat → ℕ → Sat → Type 0
writes_counted st m r n = (st.word ≡ done_at)
    × Has m n (word_noted m.0 (Done r))
    × (r ≡ length m.0.base.history)
    × Begins m.0.seen m.0.base.history

-- a word of a row of the clone
abbrev pub CopiesCloneWord : Step (Unit {0}) → Sat → ℕ → Sat → Type 0
CopiesCloneWord st m r n = (row : ℕ) (field : Field) → st.word ≡ word_at row field
    → Has m n m.0 × TellsWord m.0.rows (image_of m.0) row field r

-- the rows with a stamp at its greatest count that a seat has found, once it has loaded this one
abbrev pub found_out : (row stamp : ℕ) → List ℕ → List ℕ
found_out row stamp rows = cond (is_last Stamp stamp) (row ∷ rows) rows

-- a stamp, which is noted with its row where it is at its greatest count
abbrev pub stamp_noted : View → (row stamp : ℕ) → View
stamp_noted v row r = record v {
  noted = record v.noted { worn = v.noted.worn || is_last Stamp r };
  outworn = found_out row r v.outworn;
}

-- the stamp of the row that is the cause of the clone's balance is at its greatest count
abbrev pub TellsCause : Balance → (row stamp : ℕ) → Type 0
TellsCause balance row stamp = balance ≡ StampOut row → last_count ≤ count_of stamp

abbrev pub stamp_loaded : Step (Unit {0}) → Sat → ℕ → Sat → Type 0
stamp_loaded st m r n = (row : ℕ) → st.word ≡ word_at row Stamp
    → Has m n (stamp_noted m.0 row r) × TellsCause m.0.base.balance row r
