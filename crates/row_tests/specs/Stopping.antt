-- A write that stops in the midst of a change of the tree's shape: the rows that its pass has taken
-- until then.
use Rattle.std.specs.Prelude.{◌≡◌, ◌≢◌, ◌≤◌, ℕ, Bool, false}
use Rattle.snap_copy.specs.Mending.{Firm, NoWord}
use Rattle.snap_prelude.specs.{AimsAt, Among, IsOf, IsRouting, Known, Laid}
use Rattle.snap_prelude.specs.{no_debt, Nothing, Side, times, View, Writing}
use Rattle.snap_shape.specs.{Grips.AreWithin, Grips.edge_at, Grips.IsEdge, Grips.IsTurning, Grips.IsWithin}
use Rattle.snap_shape.specs.{Shapes.MayRotate, declared.grip.Edge.Edge, declared.grip.Grip.Grip, declared.grip.Turn.Turn}

-- no row is held but row 0 and these two
abbrev pub HoldsOnly : View → ℕ → ℕ → Type 0
HoldsOnly v upper lower = (r : ℕ) → r ≢ 0 → r ≢ upper → r ≢ lower → times r v.holds ≡ 0

-- or but row 0 and these three
abbrev pub HoldsThree : View → ℕ → ℕ → ℕ → Type 0
HoldsThree v a b c = (r : ℕ) → r ≢ 0 → r ≢ a → r ≢ b → r ≢ c → times r v.holds ≡ 0

-- the child of a held row was found, and locked. It isn't the row above that
pub record Takes (rows : ℕ) (old new : Known) (upper : ℕ) (parent : Grip) (d : Side)
    (child : Grip) : Type 0 where
  pub firm : Firm old new NoWord
  pub edge : IsEdge new.view (edge_at parent d child)
  pub low : child.row ≤ rows
  pub apart : child.row ≢ upper
  pub only : HoldsThree new.view upper parent.row child.row

-- row 0 and the root are held, and no other
pub record TakesTop (rows : ℕ) (old new : Known) (e : Edge) : Type 0 where
  pub firm : Firm old new NoWord
  pub edge : IsEdge new.view e
  pub low : IsWithin rows e
  pub top : e.parent.row ≡ 0
  pub zero : Among 0 new.view.holds
  pub only : HoldsOnly new.view 0 e.child.row

-- row 0, the root and its child on a side are held
pub record TakesEdge (rows : ℕ) (old new : Known) (e : Edge) : Type 0 where
  pub firm : Firm old new NoWord
  pub edge : IsEdge new.view e
  pub low : IsWithin rows e
  pub some : e.parent.row ≢ 0
  pub zero : Among 0 new.view.holds
  pub only : HoldsOnly new.view e.parent.row e.child.row

-- no row is held but row 0 and those of a rotation
abbrev pub HoldsTurning : View → Turn → Type 0
HoldsTurning v t = HoldsThree v t.parent.row t.row.row t.raised.row

-- three rows one below the other were taken, and row 0, which may be the uppermost of them. No
-- other is held
pub record HasTaken (rows : Laid) (old k : Known) (t : Turn) : Type 0 where
  pub of : IsOf k rows
  pub rows_are : AreWithin rows.rows t
  pub turn : IsTurning k.view t
  pub whole : k.view.doing ≡ Nothing
  pub stage : k.view.stage ≡ old.view.stage
  pub zero : Among 0 k.view.holds
  pub only : HoldsTurning k.view t

-- the pass can begin a rotation at them, below the root
pub record MayTurn (rows : Laid) (old k : Known) (t : Turn) : Type 0 where
  pub taken : HasTaken rows old k t
  pub some : t.parent.row ≢ 0
  pub owes : k.view.debt ≡ no_debt
  pub rotates : MayRotate rows k t t.row.key

-- the pass can begin a rotation of the root
pub record MayTurnRoot (rows : Laid) (old k : Known) (t : Turn) : Type 0 where
  pub taken : HasTaken rows old k t
  pub top : t.parent.row ≡ 0
  pub owes : k.view.debt ≡ no_debt
  pub rotates : MayRotate rows k t t.row.key

-- the row may be unlinked: it has neither a value nor children, and the to-do key is its own
pub record IsUnlinkable (v : View) (row : ℕ) : Type 0 where
  pub routing : IsRouting v row 0
  pub aims : AimsAt v row

-- the pass can begin to unlink the lowest of them, none of which is row 0
pub record MayUnlink (rows : Laid) (old k : Known) (t : Turn) : Type 0 where
  pub taken : HasTaken rows old k t
  pub some : t.parent.row ≢ 0
  pub gone : IsUnlinkable k.view t.raised.row

-- the pass can begin to unlink the root, and holds no row but row 0 and the root
pub record MayUnlinkRoot (rows : Laid) (old k : Known) (e : Edge) : Type 0 where
  pub of : IsOf k rows
  pub rows_are : IsWithin rows.rows e
  pub edge : IsEdge k.view e
  pub gone : IsUnlinkable k.view e.child.row
  pub whole : k.view.doing ≡ Nothing
  pub stage : k.view.stage ≡ old.view.stage
  pub zero : Among 0 k.view.holds
  pub only : HoldsOnly k.view 0 e.child.row

-- the pass is in a write, with its entry or without, and in no change
pub record IsWritingPass (rows : Laid) (k : Known) (made : Bool) : Type 0 where
  pub of : IsOf k rows
  pub stage : k.view.stage ≡ Writing made false
  pub whole : k.view.doing ≡ Nothing

-- and it holds row 0 and three rows, and no other
pub record HoldsTurn (rows : Laid) (k : Known) (made : Bool) (t : Turn) : Type 0 where
  pub writing : IsWritingPass rows k made
  pub rows_are : AreWithin rows.rows t
  pub some : (t.parent.row ≢ 0) × (t.row.row ≢ 0) × (t.raised.row ≢ 0)
  pub apart : (t.parent.row ≢ t.row.row) × (t.parent.row ≢ t.raised.row)
      × (t.row.row ≢ t.raised.row)
  pub zero : Among 0 k.view.holds
  pub upper : Among t.parent.row k.view.holds
  pub row : Among t.row.row k.view.holds
  pub raised : Among t.raised.row k.view.holds
  pub only : HoldsTurning k.view t

-- and it holds row 0 and these two rows, and no other
pub record HoldsTop (rows : Laid) (k : Known) (made : Bool) (row raised : ℕ) : Type 0 where
  pub writing : IsWritingPass rows k made
  pub rows_are : (row ≤ rows.rows) × (raised ≤ rows.rows)
  pub some : (row ≢ 0) × (raised ≢ 0)
  pub apart : row ≢ raised
  pub zero : Among 0 k.view.holds
  pub row_held : Among row k.view.holds
  pub raised_held : Among raised k.view.holds
  pub only : HoldsOnly k.view row raised

-- and it holds row 0 and this row, and no other
pub record HoldsRoot (rows : Laid) (k : Known) (made : Bool) (row : ℕ) : Type 0 where
  pub writing : IsWritingPass rows k made
  pub low : row ≤ rows.rows
  pub some : row ≢ 0
  pub zero : Among 0 k.view.holds
  pub held : Among row k.view.holds
  pub only : HoldsOnly k.view 0 row
