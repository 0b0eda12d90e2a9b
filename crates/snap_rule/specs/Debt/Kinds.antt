-- What each kind of step makes of its pass's debt, and what it needs of the debt beside the kind's
-- own condition.
use Rattle.std.specs.Prelude.{None, Option, Some, [], max, ℕ, ◌≡◌, ◌≢◌, ◌⊎◌}
use Rattle.snap_stamp.specs.declared.side.Side.{Side}
use Rattle.snap_stamp.specs.declared.side.Side.TheVariants.{Left, Right}
use Rattle.snap_rule.specs.Debt.{Owes, OwesNone}
use Rattle.snap_rule.specs.Debt.Lists.{Aims, noted, or_else}
use Rattle.snap_rule.specs.Debt.Step.{IsFree}
use Rattle.snap_rule.specs.Position.{Faces}
use Rattle.snap_rule.specs.Rule.{IsLive, IsParent}
use Rattle.snap_rule.specs.Settled.{IsSettled, child_height, one_more}
use Rattle.snap_rule.specs.State.{IsShared, State}
use Rattle.snap_rule.specs.Tree.{OnWay}
use Rattle.snap_rule.specs.declared.debt.Debt.{Debt}

-- `link_leaf`: the parent may be unsettled now
abbrev pub leaf_debt : State → ℕ → ℕ → Debt
leaf_debt s parent k = record { to_do = Some k; list = noted s parent []; turning = None }

-- `store_value`: where the value goes, the row may be unsettled
abbrev pub stored_debt : State → ℕ → ℕ → Option ℕ → Debt → Debt
stored_debt s row k None v = record { to_do = Some k; list = noted s row []; turning = None }
stored_debt s row k (Some x) v = v

-- `store_height`: the row gets its right height, by which the parent may be unsettled
abbrev pub height_debt : State → ℕ → ℕ → Debt → Debt
height_debt s parent row v = record
    { to_do = or_else v.to_do (s.key row); list = noted s parent v.list; turning = v.turning }

pub record MayOweHeight (s : State) (debts : ℕ → Debt) (id parent : ℕ) (d : Side)
    (row h : ℕ) : Type 0 where
  pub parent_live : IsParent s parent d
  pub live : IsLive s row
  pub child : s.links parent d ≡ row
  pub apart : parent ≢ row
  pub is_height : h ≡ one_more (max (child_height s row Left) (child_height s row Right))
  pub path : ((debts id).to_do ≡ None)
      ⊎ Aims s (debts id) row
      ⊎ Aims s (debts id) parent
      ⊎ Owes s (debts id) parent
      ⊎ (parent ≡ 0)
  pub free : IsFree debts id parent

-- `mark_shrinking`: the row is listed with its new stamp, by which the pass takes over what others
-- owed of it. The to-do key comes to be the row's, or stays that of the child that is to be raised
abbrev pub shrink_debt : State → ℕ → ℕ → Debt → Debt
shrink_debt s' row key v =
    record { to_do = Some key; list = noted s' row v.list; turning = Some row }

pub record MayOweTurn (s : State) (debts : ℕ → Debt) (id parent : ℕ) (p : Side) (row : ℕ) (d : Side)
    (raised key : ℕ) : Type 0 where
  pub parent_live : IsParent s parent p
  pub live : IsLive s row
  pub child : s.links parent p ≡ row
  pub raised_child : s.links row d ≡ raised
  pub is_raised : raised ≢ 0
  pub to_do : (key ≡ s.key row)
      × (OwesNone s (debts id) ⊎ Aims s (debts id) row ⊎ Aims s (debts id) parent)
      ⊎ (key ≡ s.key raised) × ((debts id).to_do ≡ Some key)
  pub free : IsFree debts id row

-- `link_parent`: each of the three rows has another child now
abbrev pub raise_debt : State → ℕ → ℕ → ℕ → Debt → Debt
raise_debt s parent row raised v = record {
  to_do = Some (s.key row);
  list = noted s row (noted s raised (noted s parent v.list));
  turning = Some row;
}

pub record MayOweRaise (s : State) (debts : ℕ → Debt) (id parent row raised : ℕ) : Type 0 where
  pub turning : (debts id).turning ≡ Some row
  pub to_do : ((debts id).to_do ≡ Some (s.key row)) ⊎ ((debts id).to_do ≡ Some (s.key raised))
  pub free : IsFree debts id row × IsFree debts id raised × IsFree debts id parent

-- `clear_shrinking`: the row is listed once more, with its new stamp
abbrev pub clear_debt : State → ℕ → Debt → Debt
clear_debt s' row v = record { to_do = v.to_do; list = noted s' row v.list; turning = None }

-- `pass_up`: a settled row is taken off, and the to-do key goes up to its parent
pub record MayPassUp (s : State) (v : Debt) (parent : ℕ) (d : Side) (row : ℕ) : Type 0 where
  pub parent_live : IsParent s parent d
  pub child : s.links parent d ≡ row
  pub is_row : row ≢ 0
  pub to_do : v.to_do ≡ Some (s.key row)
  pub settled : IsSettled s row

-- `aim`: the to-do key comes to be that of a row at which nothing is lost. It is the row's already;
-- or the row is the last unshared one on the key's way; or the key is that of the row's parent
pub record AimsBeyond (s : State) (v : Debt) (row : ℕ) : Type 0 where
  pub key : ℕ
  pub side : Side
  pub to_do : v.to_do ≡ Some key
  pub place : (row ≡ 0) ⊎ OnWay s.tree key row
  pub faces : Faces s row key side
  pub ends : (s.links row side ≡ 0) ⊎ IsShared s (s.links row side)

pub record AimsAbove (s : State) (v : Debt) (row : ℕ) : Type 0 where
  pub parent : ℕ
  pub side : Side
  pub live : IsLive s parent
  pub child : s.links parent side ≡ row
  pub is_row : row ≢ 0
  pub to_do : v.to_do ≡ Some (s.key parent)

abbrev pub MayAim : State → Debt → ℕ → Type 0
MayAim s v row = Aims s v row ⊎ AimsBeyond s v row ⊎ AimsAbove s v row
