-- Kinds that add an entry to the history: a leaf is linked, a value is stored, a removal finds that
-- its key is absent.
use Rattle.std.specs.Prelude.{None, [], ℕ, ◌++◌, ◌<◌, ◌^◌, ◌∷◌, ◌≡◌, ◌≢◌, ◌⊎◌}
use Rattle.snap_model.specs.History.{call_key, call_value}
use Rattle.snap_model.specs.declared.call.Entry.{Entry}
use Rattle.snap_stamp.specs.Sides.{Toward}
use Rattle.snap_stamp.specs.declared.side.Side.{Side}
use Rattle.snap_rule.specs.Rule.{IsLive, IsParent}
use Rattle.snap_rule.specs.State.{In, State}
use Rattle.snap_rule.specs.State.Change.{plain}
use Rattle.snap_rule.specs.Tree.{OnWay, find, value_word}
use Rattle.snap_rule.specs.TreeChanges.{grown, leaf_of, with_value}
use Rattle.snap_rule.specs.Updates.{changed, relink}

-- `link_leaf`: a fresh row, filled for the call, becomes a leaf below the parent
abbrev pub leaf_linked : State → ℕ → Side → ℕ → Entry → State
leaf_linked s parent d row e = record s {
  link = relink s.link parent d row;
  links = relink (changed s.links row (s.link row)) parent d row;
  history = s.history ++ e ∷ [];
  tree = grown parent d (leaf_of row e) s.tree;
  linked = row ∷ s.linked;
}

pub record MayLinkLeaf (s : State) (parent : ℕ) (d : Side) (row : ℕ) (e : Entry) : Type 0 where
  pub writing : s.writers ≢ 0
  -- the place
  pub parent_live : IsParent s parent d
  pub no_child : s.link parent d ≡ 0
  pub no_change : s.pending parent d ≡ plain
  pub place : (parent ≡ 0)
      ⊎ OnWay s.tree (call_key e.call) parent × Toward d (call_key e.call) (s.key parent)
  -- the call
  pub is_put : call_value e.call ≢ None
  pub small : call_key e.call < 2 ^ 64
  -- the row
  pub is_row : 0 < row
  pub fresh : ¬ In row s.linked
  pub key : s.key row ≡ call_key e.call
  pub value : s.value row ≡ value_word (call_value e.call)
  pub height : s.height row ≡ 1
  pub links : (x : Side) → s.link row x ≡ 0
  pub birth : s.birth row ≡ s.epoch
  pub stamp : s.stamp row ≡ 0

-- `store_value`: the value of a live row with the call's key becomes that of the call, or none
abbrev pub value_stored : State → ℕ → Entry → State
value_stored s row e = record s {
  value = changed s.value row (value_word (call_value e.call));
  history = s.history ++ e ∷ [];
  tree = with_value row (call_value e.call) s.tree;
}

pub record MayStoreValue (s : State) (row : ℕ) (e : Entry) : Type 0 where
  pub writing : s.writers ≢ 0
  pub live : IsLive s row
  pub key : s.key row ≡ call_key e.call

-- `confirm_absent`: the removal of an absent key
abbrev pub absent_confirmed : State → Entry → State
absent_confirmed s e = record s { history = s.history ++ e ∷ [] }

pub record MayConfirmAbsent (s : State) (e : Entry) : Type 0 where
  pub removal : call_value e.call ≡ None
  pub absent : find s.tree (call_key e.call) ≡ None
