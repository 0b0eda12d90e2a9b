-- The work by which a row of the pass becomes a copy of a shared child.
use Rattle.std.specs.Prelude.{◌≡◌, ◌≢◌, ◌≤◌, ℕ, true, false}
use Rattle.snap_prelude.specs.{Among, Becomes, Field, Grows, HasWord, IsCopy, IsKnown, KeepsLasting}
use Rattle.snap_prelude.specs.{KeepsPresent, KeepsReached, Known, link_field, no_more_notes, read}
use Rattle.snap_prelude.specs.{same_field, same_present, same_rows, Side, View}
use Rattle.snap_prelude.specs.{any_trail}

-- what the pass knew it still knows, and it holds the same rows, at the same place
pub record Keeps (v w : View) : Type 0 where
  pub stage : w.stage ≡ v.stage
  pub holds : w.holds ≡ v.holds
  pub heights : w.heights ≡ v.heights
  pub place : w.way.place ≡ v.way.place
  pub copies : w.fresh.copies ≡ v.fresh.copies
  pub knows : (r : ℕ) (f : Field) (x : ℕ) → IsKnown v.words.knows r f x
      → IsKnown w.words.knows r f x
  pub reached : KeepsReached v w
  pub present : KeepsPresent v w
  pub lasting : KeepsLasting v w
  pub worn : v.noted.worn ≡ true → w.noted.worn ≡ true
  pub refused : Grows v.words.refused w.words.refused

-- the pass has loaded the link below the held row, and reached the child to which it leads
pub record FindsChild (rows : ℕ) (old new : Known) (parent : ℕ) (side : Side)
    (child : ℕ) : Type 0 where
  pub step : Becomes old new (read old.view parent (link_field side) child)
  pub some_row : child ≢ 0
  pub low : child ≤ rows
  pub reached : Among child new.view.trail.reached
  pub was : IsKnown old.view.words.knows parent (link_field side) child
  pub known : (x : ℕ) → IsKnown old.view.words.knows parent (link_field side) x → child ≡ x

-- the pass with other words in its own rows, and other words that it knows
abbrev pub filled : Known → View → Known
filled k w =
    record {
      table = k.table;
      view = record k.view {
        trail = any_trail k.view.trail w.trail;
        words = same_present k.view.words w.words;
        noted = no_more_notes k.view.noted w.noted;
        fresh = same_rows k.view.fresh w.fresh;
      };
    }

-- one field of the own row has the word of the child
pub record CopiesWord (old new : Known) (child copy : ℕ) (f : Field) : Type 0 where
  pub is : new ≡ filled old new.view
  pub keeps : Keeps old.view new.view
  pub word : HasWord new.view copy child f
  pub others : (g : Field) (x : ℕ) → same_field g f ≡ false → IsKnown old.view.fresh.wrote copy g x
      → IsKnown new.view.fresh.wrote copy g x

-- all fields have, and its birth is the epoch
pub record Fills (old new : Known) (child copy : ℕ) : Type 0 where
  pub is : new ≡ filled old new.view
  pub keeps : Keeps old.view new.view
  pub copy_is : IsCopy new.view copy child
