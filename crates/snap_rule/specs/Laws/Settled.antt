-- Settled rows and trees, and what a table with room and without debts has.
use Rattle.std.specs.Prelude.{length, ℕ, ◌*◌, ◌<◌, ◌^◌, ◌≤◌, ◌⊎◌}
use Rattle.snap_stamp.specs.declared.side.Side.TheVariants.{Right}
use Rattle.snap_rule.specs.Debt.{DebtOk, OwesNone}
use Rattle.snap_rule.specs.Evolves.{Evolves}
use Rattle.snap_rule.specs.Kinds.Clones.{MayCut, cut}
use Rattle.snap_rule.specs.Room.{HasReason, HasRoom, StampOut}
use Rattle.snap_rule.specs.Rule.{TableOk}
use Rattle.snap_rule.specs.Settled.{IsSettled, IsSettledTree, greatest_height, least}
use Rattle.snap_rule.specs.State.{In, IsImage, IsShared, State}
use Rattle.snap_rule.specs.Tree.{Stands, Tree, depth, pairs, size}
use Rattle.snap_rule.specs.declared.debt.Debt.{Debt}

-- room after a step gives room before it
abbrev pub RoomBefore : Type 0
RoomBefore = (s s' : State) (next next' rows : ℕ) → Evolves s s' → next ≤ next'
    → HasRoom s' next' rows → HasRoom s next rows

-- a shared row of the tree is settled
abbrev pub SharedSettled : Type 0
SharedSettled = (s : State) (debts : ℕ → Debt) (n : ℕ) → DebtOk s debts → Stands n s.tree
    → IsShared s n → IsSettled s n

-- where no pass owes, the tree is settled
abbrev pub AllSettled : Type 0
AllSettled = (s : State) (debts : ℕ → Debt) → TableOk s → DebtOk s debts
    → ((j : ℕ) → OwesNone s (debts j)) → IsSettledTree s.tree

-- the least number of nodes at the depth of a settled tree is at most twice its pairs
abbrev pub SettledShallow : Type 0
SettledShallow =
    (t : Tree) → IsSettledTree t → size t ≤ greatest_height → least (depth t) ≤ 2 * length (pairs t)

-- the pairs of a tree are fewer than the nodes of a full one of its depth
abbrev pub PairsFew : Type 0
PairsFew = (t : Tree) → length (pairs t) < 2 ^ depth t

-- no more nodes stand in the tree than rows were handed out, so it is no deeper and has no more
-- pairs
abbrev pub FewStand : Type 0
FewStand = (s : State) (next : ℕ) → TableOk s → ((n : ℕ) → In n s.linked → n ≤ next)
    → (size s.tree ≤ next) × (depth s.tree ≤ next) × (length (pairs s.tree) ≤ next)

-- a reason lasts, and excludes room
abbrev pub ReasonLasts : Type 0
ReasonLasts = (s s' : State) (next next' rows : ℕ) → Evolves s s' → next ≤ next'
    → HasReason s next rows → HasReason s' next' rows × ¬ HasRoom s next rows

-- where rows are left there is room, or a row shows that there is none
abbrev pub StampFound : Type 0
StampFound =
    (s : State) (next rows : ℕ) → TableOk s → next < rows → HasRoom s next rows ⊎ StampOut s

-- what a cut shares is the tree, and it is settled or there is a reason
abbrev pub CutCause : Type 0
CutCause = (s : State) (debts : ℕ → Debt) (next rows : ℕ) → TableOk s → MayCut s
    → (HasRoom s next rows → DebtOk s debts) → ((j : ℕ) → OwesNone s (debts j))
    → IsImage (cut s) (s.link 0 Right) s.tree × (IsSettledTree s.tree ⊎ HasReason s next rows)
