-- What a write leaves behind where it makes the child of a held row its own.
use Rattle.std.specs.Prelude.{◌≡◌, ◌≢◌, ◌⊎◌, ◌≤◌, ℕ, List, [], ◌∷◌, ◌++◌, Option, None, Some}
use Rattle.snap_copy.specs.{Mending.NoWord, declared.Wanted.Wanted}
use Rattle.snap_prelude.specs.{Among, Birth, copied, copies_for, Field, Grows, In, IsCopy, IsKnown}
use Rattle.snap_prelude.specs.{IsOlder, KeepsLasting, KeepsPresent, KeepsReached, Known, link_field}
use Rattle.snap_prelude.specs.{Next, NotesMore, removed, SeesMore, Side, View, WordNote}
use Rattle.snap_search.specs.Prelude.{any_work, worked, Works}
use Rattle.snap_prelude.specs.{any_rows}

-- the child below the held row is of this epoch already. The pass went on with its work, which left
-- these notes
pub record IsOwn (old new : Known) (notes : List WordNote) (at : Wanted) (child : ℕ) : Type 0 where
  pub works : Works old new notes
  pub now : Among at.epoch new.view.words.present
  pub birth : IsKnown new.view.words.lasting child Birth at.epoch
  pub was : IsKnown old.view.words.knows at.parent (link_field at.side) child
  pub child_is : IsKnown new.view.words.knows at.parent (link_field at.side) child

-- the pass with what another view has of its work, and of the rows that it drew
abbrev pub with_copy : Known → View → Known
with_copy k w =
    record {
      table = k.table;
      view = record (worked k w).view {
        drawn = w.drawn;
        fresh = any_rows k.view.fresh w.fresh;
      };
    }

-- the link led to a child of an earlier epoch, and a row that was drawn for it has taken its place:
-- the pass had stored in it that child's key, value, height and links, and the epoch as its birth,
-- and then led the link to it
pub record IsCopiedAt (old new : Known) (key : Option ℕ) (parent : ℕ) (side : Side)
    (copy : ℕ) : Type 0 where
  pub is : new ≡ with_copy old new.view
  pub child : ℕ
  pub was : IsKnown old.view.words.knows parent (link_field side) child
  pub older : IsOlder new.view child
  pub filled : View
  pub holds : IsCopy filled copy child
  pub linked : new.view ≡ copied filled key parent (link_field side) copy
  pub drawn : new.view.drawn ≡ old.view.drawn ++ copy ∷ []
  pub own : new.view.fresh.own ≡ removed copy (copy ∷ old.view.fresh.own)
  pub more : List WordNote
  pub noted : NotesMore old.view new.view more
  pub left : In (Next old.view.rows) more → ⊥
  pub sees : SeesMore old.view new.view
  pub kept : KeepsReached old.view new.view
  pub reached : Among copy new.view.trail.reached
  pub present : KeepsPresent old.view new.view
  pub child_is : IsKnown new.view.words.knows parent (link_field side) copy
  pub copies : new.view.fresh.copies ≡ copies_for old.view.fresh.copies key

-- at the place of a key
abbrev pub IsCopied : Known → Known → ℕ → Wanted → ℕ → Type 0
IsCopied old new key at copy = IsCopiedAt old new (Some key) at.parent at.side copy

-- the row is the child below the held one, and is of this epoch
abbrev pub Owns : Known → Known → ℕ → Wanted → ℕ → Type 0
Owns old new key at row = IsOwn old new [] at row ⊎ IsCopied old new key at row

-- the child is of an earlier epoch, and this call found that every row was handed out. Nothing was
-- drawn
pub record Lacks (rows : ℕ) (old new : Known) (parent : ℕ) (side : Side) : Type 0 where
  pub child : ℕ
  pub older : IsOlder new.view child
  pub child_is : IsKnown new.view.words.knows parent (link_field side) child
  pub more : List WordNote
  pub works : Works old new more
  pub full : In (Next rows) more

-- the pass with what another view has of its knowledge, its rows and its copies. It stands where it
-- stood on its way
abbrev pub stayed : Known → View → Known
stayed k w =
    record {
      table = k.table;
      view = record (any_work k.view w) {
        way = k.view.way;
        fresh = any_rows k.view.fresh w.fresh;
        drawn = w.drawn;
      };
    }

-- nothing else of the pass changed, and what it knew it still knows, but of some words. Without a
-- key its copies have the keys that they had
pub record ChangesOnly (old new : Known) (key : Option ℕ)
    (changed : ℕ → Field → Type 0) : Type 0 where
  pub is : new ≡ stayed old new.view
  pub copies : key ≡ None → new.view.fresh.copies ≡ old.view.fresh.copies
  pub knows : (q : ℕ) (f : Field) (x : ℕ) → (changed q f → ⊥) → IsKnown old.view.words.knows q f x
      → IsKnown new.view.words.knows q f x
  pub reached : KeepsReached old.view new.view
  pub present : KeepsPresent old.view new.view
  pub lasting : KeepsLasting old.view new.view
  pub refused : Grows old.view.words.refused new.view.words.refused

-- the row is the child below the held one and of this epoch, by either place of a copy
pub record OwnsAt (rows : ℕ) (old new : Known) (key : Option ℕ) (at : Wanted)
    (row : ℕ) : Type 0 where
  pub owns : IsOwn old new [] at row ⊎ IsCopiedAt old new key at.parent at.side row
  pub stays : ChangesOnly old new key (λ q f. (q ≡ at.parent) × (f ≡ link_field at.side))
  pub low : row ≤ rows
  pub is_row : row ≢ 0
  pub reached : Among row new.view.trail.reached

-- every row was handed out, and no known word was forgotten
pub record LacksAt (rows : ℕ) (old new : Known) (key : Option ℕ) (at : Wanted)
    (found : ℕ) : Type 0 where
  pub all : found ≡ rows
  pub lacks : Lacks rows old new at.parent at.side
  pub stays : ChangesOnly old new key NoWord
