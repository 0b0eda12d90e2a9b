-- Examples that show why the rule says what it says, and no less. In the midst of a rotation row 1
-- with key 10 is being lowered below row 2 with key 5: it has the shrinking mark, two links have
-- moved, and only the parent's link is left.
use Rattle.std.specs.Prelude.{None, Some, [], ◌∷◌, ◌≡◌}
use Rattle.snap_model.specs.declared.call.Call.TheVariants.{Put}
use Rattle.snap_stamp.specs.declared.side.Side.TheVariants.{Left, Right}
use Rattle.snap_rule.specs.Debt.{mark, OnPath, Owes, OwesNone}
use Rattle.snap_rule.specs.Kinds.Rotation.{MayLinkParent, parent_linked, shrinking_marked}
use Rattle.snap_rule.specs.Position.{IsPlaced}
use Rattle.snap_rule.specs.Rule.{IsLive, TableOk}
use Rattle.snap_rule.specs.State.{IsShared, State}
use Rattle.snap_rule.specs.State.Change.{lowering, plain, raising}
use Rattle.snap_rule.specs.Tree.{OnWay, Tree}
use Rattle.snap_rule.specs.Tree.Tree.{empty, node}
use Rattle.snap_rule.specs.Updates.{changed, relink}
use Rattle.snap_rule.specs.declared.debt.Debt.{Debt}

abbrev pub two_rows : Tree
two_rows = node (record { row = 1; key = 10; value = Some 0; height = 2 })
    (node (record { row = 2; key = 5; value = Some 0; height = 1 }) empty empty) empty

-- the table before `link_parent`
abbrev pub turning : State
turning = record {
  key = changed (changed (λ n. 0) 1 10) 2 5;
  birth = λ n. 0;
  stamp = changed (λ n. 0) 1 2;
  lock = λ n. 0;
  height = changed (changed (λ n. 0) 1 2) 2 1;
  value = changed (changed (λ n. 0) 1 1) 2 1;
  link = relink (relink (λ n d. 0) 0 Right 1) 2 Right 1;
  epoch = 0;
  gate = 2;
  left = 0;
  history = record { who = 0; call = Put 10 0; reply = None }
      ∷ record { who = 0; call = Put 5 0; reply = None } ∷ [];
  tree = two_rows;
  linked = 1 ∷ 2 ∷ [];
  replaced = [];
  links = relink (relink (λ n d. 0) 0 Right 1) 1 Left 2;
  pending = relink (relink (λ n d. plain) 1 Left (lowering 0)) 2 Right (raising 1);
  writers = 1;
}

-- and after it
abbrev pub after_turn : State
after_turn = parent_linked turning 0 Right 1 Left 2

-- row 1 leaves the way of key 3 by a step that keeps its stamp. So a place stays one only while its
-- stamp has no mark
pub record LeavesWay : Type 0 where
  pub table : TableOk turning
  pub may : MayLinkParent turning 0 Right 1 Left 2
  pub was : OnWay turning.tree 3 1
  pub own : ¬ IsShared turning 1
  pub same_stamp : after_turn.stamp 1 ≡ turning.stamp 1
  pub is_not : ¬ IsPlaced after_turn after_turn.history 1 3

-- another pass that lists row 1 with its mark owes it on the path of key 3 before that step, and
-- afterwards owes it beside the path. So a row that one pass is lowering must be owed by no other
abbrev pub idle_debt : Debt
idle_debt = record { to_do = Some 3; list = mark 1 2 ∷ []; turning = None }

pub record ListedLeaves : Type 0 where
  pub may : MayLinkParent turning 0 Right 1 Left 2
  pub was : Owes turning idle_debt 1 × IsLive turning 1 × OnPath turning idle_debt 1
  pub still : Owes after_turn idle_debt 1
  pub is_not : ¬ OnPath after_turn idle_debt 1

-- a pass that lists a stamp which the row has yet to reach owes nothing, and owes the row as soon
-- as it gets that stamp. So listed stamps must be of the past
abbrev pub early_debt : Debt
early_debt = record { to_do = None; list = mark 1 2 ∷ []; turning = None }

abbrev pub EarlyStamp : Type 0
EarlyStamp = (s : State) → s.stamp 1 ≡ 0
    → OwesNone s early_debt × Owes (shrinking_marked s 1) early_debt 1
    × ¬ OnPath (shrinking_marked s 1) early_debt 1
