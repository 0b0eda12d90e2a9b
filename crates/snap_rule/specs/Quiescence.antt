-- Quiescence: what a call of `try_get` knows as long as no write was entered since the one that it
-- counted last. No pass is in a write, each word that it loaded is still as it was, and the tree
-- below the link at which it stands is ordered and has no marks. So trouble on its way tells that a
-- write was entered.
use Rattle.std.specs.List.{AllByRecursion as Every}
use Rattle.std.specs.Prelude.{List, ℕ, ◌/◌, ◌≡◌, ◌≤◌}
use Rattle.snap_stamp.specs.Stamps.{IsUnmarked}
use Rattle.snap_stamp.specs.declared.layout.Field.{Field}
use Rattle.snap_stamp.specs.declared.layout.Field.TheVariants.{Birth, Height, Key, Left, Lock, Right, Stamp, Value}
use Rattle.snap_rule.specs.State.{In, Represents, State, WasLinked}
use Rattle.snap_rule.specs.Tree.{Between, EachRow, Tree, root}
use Rattle.snap_rule.specs.declared.quiescence.Load.{Load}
use Rattle.snap_stamp.specs.declared.side.Side.TheVariants as sides

-- the word of a row's field
abbrev pub word : State → ℕ → Field → ℕ
word s n Key = s.key n
word s n Birth = s.birth n
word s n Stamp = s.stamp n
word s n Lock = s.lock n
word s n Height = s.height n
word s n Left = s.link n sides.Left
word s n Right = s.link n sides.Right
word s n Value = s.value n

-- the word is as it was loaded
abbrev pub IsSo : State → Load → Type 0
IsSo s l = WasLinked s l.row × (word s l.row l.field ≡ l.found)

-- a call that loaded `left` as this number of ended writes, and then these words
pub record QuietOk (s : State) (ended : ℕ) (loads : List Load) : Type 0 where
  pub few : ended ≤ s.gate / 2
  pub quiet : s.gate / 2 ≡ ended → (s.writers ≡ 0) × Every (IsSo s) loads

-- from row c on the words are an ordered tree within these bounds, of rows without marks
pub record IsCalm (s : State) (low high c : ℕ) : Type 0 where
  pub part : Tree
  pub top : root part ≡ c
  pub reads : Represents s s.link part
  pub ordered : Between low high part
  pub rows : EachRow (λ r. In r s.linked × IsUnmarked (s.stamp r)) part

-- so it is as long as no write was entered since
abbrev pub CalmOk : State → (ended low high c : ℕ) → Type 0
CalmOk s ended low high c = s.gate / 2 ≡ ended → IsCalm s low high c
