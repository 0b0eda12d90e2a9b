-- What a pass knows of a row under its lock, and of how held rows are joined.
use Rattle.std.specs.Prelude.{◌≡◌, ◌≢◌, ◌⊎◌, ◌≤◌, ◌%◌, ℕ}
use Rattle.snap_shape.specs.{declared.grip.Edge.Edge, declared.grip.Grip.Grip, declared.grip.Turn.Turn}
use Rattle.snap_prelude.specs.{Among, Birth, IsKnown, Key, link_field, Right, Side, Stamp, View}

-- row 0, or a row that was reached and is of this epoch
pub record IsOfNow (v : View) (r : ℕ) : Type 0 where
  pub reached : Among r v.trail.reached
  pub birth : ℕ
  pub is_birth : IsKnown v.words.knows r Birth birth
  pub now : Among birth v.words.present

-- the row is held, with this key and this stamp, which has no mark
pub record HasGrip (v : View) (g : Grip) : Type 0 where
  pub held : Among g.row v.holds
  pub is_key : IsKnown v.words.knows g.row Key g.key
  pub is_stamp : IsKnown v.words.knows g.row Stamp g.stamp
  pub unmarked : g.stamp % 4 ≡ 0
  pub own : (g.row ≡ 0) ⊎ IsOfNow v g.row

-- the link of a held row leads to this row
abbrev pub Leads : View → ℕ → Side → ℕ → Type 0
Leads v p d r = IsKnown v.words.knows p (link_field d) r

-- a held row and its held child. Of row 0 the right side alone counts
pub record IsEdge (v : View) (e : Edge) : Type 0 where
  pub above : HasGrip v e.parent
  pub below : HasGrip v e.child
  pub leads : Leads v e.parent.row e.side e.child.row
  pub is_row : e.child.row ≢ 0
  pub on_right : e.parent.row ≡ 0 → e.side ≡ Right
  pub apart : e.parent.row ≢ e.child.row

abbrev pub edge_at : Grip → Side → Grip → Edge
edge_at upper d lower = record { parent = upper; side = d; child = lower }

-- a held row with its held parent and its held child on the side
pub record IsTurning (v : View) (t : Turn) : Type 0 where
  pub upper : IsEdge v (edge_at t.parent t.parent_side t.row)
  pub lower : IsEdge v (edge_at t.row t.side t.raised)
  pub apart : t.parent.row ≢ t.raised.row

abbrev pub turn_at : Grip → Side → Grip → Side → Grip → Turn
turn_at parent p row d raised =
    record { parent = parent; parent_side = p; row = row; side = d; raised = raised }

-- the child goes down below its own child on the side
abbrev pub turn_below : Edge → Side → Grip → Turn
turn_below e d raised = turn_at e.parent e.side e.child d raised

-- the rows are rows of a table of this size
abbrev pub IsWithin : ℕ → Edge → Type 0
IsWithin rows e = (e.parent.row ≤ rows) × (e.child.row ≤ rows)

abbrev pub AreWithin : ℕ → Turn → Type 0
AreWithin rows t = (t.parent.row ≤ rows) × (t.row.row ≤ rows) × (t.raised.row ≤ rows)
