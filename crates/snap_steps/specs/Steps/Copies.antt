-- A lazy copy: a row of the pass, filled with the words of a shared child, takes its place below
-- the parent.
use Rattle.std.specs.Prelude.{◌≡◌, ◌⊎◌, ℕ, ◌<◌, List, [], ◌∷◌, Option, None, Some}
use Rattle.atomic_table.specs.Table.{Step}
use Rattle.snap_rule.specs.declared.reader.Point.TheVariants.{Standing}
use Rattle.snap_rule.specs.declared.reader.Reading.TheVariants.{On}
use Rattle.snap_stamp.specs.Layout.{word_at}
use Rattle.snap_stamp.specs.declared.layout.Field.{Field}
use Rattle.snap_stamp.specs.declared.layout.Field.TheVariants.{Key, Birth, Stamp, Height, Left, Right, Value}
use Rattle.snap_stamp.specs.declared.side.Side.{Side}
use Rattle.snap_steps.specs.Counting.{Among, removed}
use Rattle.snap_steps.specs.Facts.{IsKnown, IsBorn, fact, forgotten, forgotten_row}
use Rattle.snap_steps.specs.Rule.Epochs.{AllAre}
use Rattle.snap_steps.specs.States.{link_field}
use Rattle.snap_steps.specs.Steps.Told.{Sat, Has}
use Rattle.snap_steps.specs.declared.view.View.{View}
use Rattle.snap_stamp.specs.declared.side.Side.TheVariants as sides

-- the row is of an earlier epoch
pub record IsOlder (v : View) (r : ℕ) : Type 0 where
  pub birth : ℕ
  pub is_birth : IsKnown v.words.lasting r Birth birth
  pub epoch : ℕ
  pub now : Among epoch v.words.present
  pub older : birth < epoch

-- the place that the search found for the key, at a held row: it has the stamp still, is row 0 or
-- of this epoch, and leads to the child. No copy of this write was made for another key
pub record IsAbove (v : View) (key parent : ℕ) (side : Side) (child : ℕ) : Type 0 where
  pub held : Among parent v.holds
  pub stamp : ℕ
  pub place : v.way.place ≡ On key (Standing parent stamp side)
  pub still : IsKnown v.words.knows parent Stamp stamp
  pub child_is : IsKnown v.words.knows parent (link_field side) child
  pub live : ((parent ≡ 0) × (side ≡ sides.Right))
      ⊎ ((Among parent v.trail.reached) × IsBorn v parent)
  pub one_key : AllAre key v.fresh.copies

-- what was stored in one field of the own row is the word of the other, which changes no more
pub record HasWord (v : View) (copy row : ℕ) (f : Field) : Type 0 where
  pub word : ℕ
  pub theirs : IsKnown v.words.lasting row f word
  pub ours : IsKnown v.fresh.wrote copy f word

-- what was stored in the own row makes it a copy of the other in this epoch
pub record IsCopy (v : View) (copy row : ℕ) : Type 0 where
  pub own : Among copy v.fresh.own
  pub key : HasWord v copy row Key
  pub value : HasWord v copy row Value
  pub height : HasWord v copy row Height
  pub left : HasWord v copy row Left
  pub right : HasWord v copy row Right
  pub birth : ℕ
  pub is_birth : IsKnown v.fresh.wrote copy Birth birth
  pub now : Among birth v.words.present

-- the keys of this write's copies, once one was made at the place of this key, or at one that has
-- none
abbrev pub copies_for : List ℕ → Option ℕ → List ℕ
copies_for l None = l
copies_for l (Some key) = key ∷ []

-- the copy was linked, and is reached
abbrev pub copied : View → Option ℕ → ℕ → Field → ℕ → View
copied v key parent f copy =
    record v {
      fresh =
          record {
            own = removed copy v.fresh.own;
            wrote = forgotten_row v.fresh.wrote copy;
            copies = copies_for v.fresh.copies key;
          };
      words = record v.words { knows = fact parent f copy ∷ forgotten v.words.knows parent f };
      trail = record v.trail { reached = copy ∷ v.trail.reached };
    }

abbrev pub LinksCopy : Option ℕ → Step (Unit {0}) → Sat → ℕ → Sat → Type 0
LinksCopy key st m r n = (parent : ℕ) (side : Side) → st.word ≡ word_at parent (link_field side)
    → Has m n (copied m.0 key parent (link_field side) st.first)
