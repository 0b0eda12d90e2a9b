-- What an unlinking and a rotation leave of what their pass knows. The map stays as it is.
use Rattle.std.specs.Prelude.{◌≡◌, ◌≢◌, ◌+◌, ◌≤◌, ◌<◌, ℕ, Some, true}
use Rattle.snap_prelude.specs.{Becomes, count_of, Field, held_words, IsKnown, IsNoted, IsOf, Known, Laid}
use Rattle.snap_prelude.specs.{last_count, link_field, no_more_notes, Nothing, other, read, shrunk, times}
use Rattle.snap_prelude.specs.{to_do_at, TurnsFor, View}
use Rattle.snap_shape.specs.{Grips.AreWithin, Grips.HasGrip, Grips.IsTurning, Grips.Leads, declared.grip.Edge.Edge}
use Rattle.snap_shape.specs.{declared.grip.Grip.Grip, declared.grip.Turn.Turn}
use Rattle.snap_prelude.specs.{any_trail}

-- the pass with what another view has of such a change: its steps, what it knows, and its debt
abbrev pub shaped : Known → View → Known
shaped k w =
    record {
      table = k.table;
      view = record k.view {
        trail = any_trail k.view.trail w.trail;
        words = held_words k.view.words w.words;
        noted = no_more_notes k.view.noted w.noted;
        doing = w.doing;
        heights = w.heights;
        debt = w.debt;
      };
    }

-- what a change at these rows leaves: no more is held, and what was known of other rows, and of the
-- key and the stamp of any row but the changed one, still is
pub record KeepsRest (old new : Known) (upper changed lower : ℕ) : Type 0 where
  pub is : new ≡ shaped old new.view
  pub reached : (r : ℕ) → times r old.view.trail.reached ≤ times r new.view.trail.reached
  pub whole : new.view.doing ≡ Nothing
  pub worn : old.view.noted.worn ≡ true → new.view.noted.worn ≡ true
  pub refused : new.view.words.refused ≡ old.view.words.refused
  pub others : (q : ℕ) (f : Field) (x : ℕ) → q ≢ upper → q ≢ changed → q ≢ lower
      → IsKnown old.view.words.knows q f x → IsKnown new.view.words.knows q f x
  pub grips : (g : Grip) → g.row ≢ changed → HasGrip old.view g → HasGrip new.view g

-- the child has left: the parent leads to its one child, and the to-do key is the parent's
pub record Unlinks (old new : Known) (e : Edge) (only : ℕ) : Type 0 where
  pub keeps : KeepsRest old new e.parent.row e.child.row e.child.row
  pub leads : Leads new.view e.parent.row e.side only
  pub to_do : new.view.debt.to_do ≡ to_do_at e.parent.row e.parent.key

-- a pass may lower a row below its child: it holds the three rows, which are rows of this table, and
-- is in no change; this may come to be the to-do key; and the row's stamp isn't at its greatest count
pub record MayRotate (rows : Laid) (k : Known) (t : Turn) (key : ℕ) : Type 0 where
  pub table : IsOf k rows
  pub within : AreWithin rows.rows t
  pub turn : IsTurning k.view t
  pub aims : TurnsFor k.view t.parent.row t.row.row t.raised.row key
  pub count : count_of t.row.stamp < last_count
  pub whole : k.view.doing ≡ Nothing

-- the view once a rotation was begun: the link across of the row that is to come up was loaded, the
-- row that is to go down has the mark, and this is the to-do key
abbrev pub turn_begun : View → Turn → ℕ → ℕ → View
turn_begun v t key middle =
    let loaded : View = read v t.raised.row (link_field (other t.side)) middle in
    shrunk loaded t.parent.row t.parent_side t.row.row t.side t.raised.row (t.row.stamp + 2) key

-- a rotation of these rows was begun by a pass that held them, with this to-do key, and the link is
-- known
pub record HasBegunTurn (old new : Known) (t : Turn) (key middle : ℕ) : Type 0 where
  pub turn : IsTurning old.view t
  pub begun : Becomes old new (turn_begun old.view t key middle)
  pub middle_is : Leads new.view t.raised.row (other t.side) middle

-- the row with its next count
abbrev pub later : Grip → Grip
later g = record g { stamp = g.stamp + 4 }

-- the row went down, and its child on the side came up in its place
pub record Rotates (old new : Known) (t : Turn) : Type 0 where
  pub keeps : KeepsRest old new t.parent.row t.row.row t.raised.row
  pub lowered : HasGrip new.view (later t.row)
  pub above : Leads new.view t.parent.row t.parent_side t.raised.row
  pub below : Leads new.view t.raised.row (other t.side) t.row.row
  pub to_do : new.view.debt.to_do ≡ Some t.row.key
  pub noted : t.parent.row ≢ 0 → IsNoted new.view t.parent.row
