-- A rotation that was begun: what its steps after the mark need, and what they come to.
use Rattle.std.proofs.Common.{◌≢◌, ◌+◌, ℕ, refl}
use Rattle.snap_prelude.specs.{Becomes, cleared, HasStamps, IsKnown, IsListed, Key, Known, lifted, link_field}
use Rattle.snap_prelude.specs.{link_turned, lowered, other, read, Stamp}
use Rattle.snap_shape.specs.{Shapes.HasBegunTurn, Shapes.Rotates, declared.grip.Turn.Turn}
use Rattle.snap_shape.proofs.Shaping.{key_on, rotates, stamps_on}

-- the pass once the link across of the row that comes up was loaded, before the mark
abbrev pub across_read : Known → Turn → ℕ → Known
across_read k t middle = record { table = k.table; view = read k.view t.raised.row (link_field (other t.side)) middle }

module _ (old a b c : Known) (t : Turn) (key middle : ℕ) (h : HasBegunTurn old a t key middle) (lower : Becomes a b (lowered a.view t.parent.row t.parent_side t.row.row t.side t.raised.row middle)) (lift : Becomes b c (lifted b.view t.parent.row t.parent_side t.row.row t.side t.raised.row)) where
  -- the row's key
  pub key_still : IsKnown c.view.words.knows t.row.row Key t.row.key
  key_still = key_on old (across_read old t middle) a b c t.parent t.parent_side t.row t.side t.raised middle key refl h.begun lower lift h.turn.upper.below

  -- and the stamps of the three rows
  pub stamps_still : HasStamps c.view t.parent.row t.row.row t.raised.row
  stamps_still = stamps_on old (across_read old t middle) a b c t.parent t.parent_side t.row t.side t.raised middle key refl h.begun lower lift h.turn.upper h.turn.lower

  -- the whole rotation
  pub ends_turn : (d e : Known) → Becomes c d (link_turned c.view t.parent.row t.parent_side t.row.row t.raised.row t.row.key) → Becomes d e (cleared d.view t.row.row (t.row.stamp + 2 + 2)) → ((x : ℕ) → t.parent.row ≢ 0 → IsKnown c.view.words.knows t.parent.row Stamp x → IsListed t.parent.row x d.view.debt.list) → Rotates old e t
  ends_turn d e raise clear listed =
      rotates old (across_read old t middle) a b c d e t.parent t.parent_side t.row t.side t.raised middle key (record { load = refl; mark = h.begun; lower = lower; lift = lift; raise = raise; clear = clear }) h.turn.upper h.turn.lower h.turn.apart listed
