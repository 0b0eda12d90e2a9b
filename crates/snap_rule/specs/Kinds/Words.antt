-- Kinds that store a word and move no link of the tree: words of a row that isn't linked yet, a
-- lock, the header, a height.
use Rattle.std.specs.Prelude.{ℕ, ◌+◌, ◌/◌, ◌<◌, ◌≡◌, ◌≢◌, ◌≤◌}
use Rattle.snap_stamp.specs.declared.side.Side.{Side}
use Rattle.snap_rule.specs.Rule.{IsLive}
use Rattle.snap_rule.specs.State.{In, State}
use Rattle.snap_rule.specs.TreeChanges.{with_height}
use Rattle.snap_rule.specs.Updates.{changed}

-- `store_own`: a row that isn't linked gets words, for all of its fields but stamp and lock
abbrev pub own_stored : State → ℕ → (k b h v : ℕ) → (Side → ℕ) → State
own_stored s row k b h v l = record s {
  key = changed s.key row k;
  birth = changed s.birth row b;
  height = changed s.height row h;
  value = changed s.value row v;
  link = changed s.link row l;
}

pub record MayStoreOwn (s : State) (row : ℕ) : Type 0 where
  pub is_row : 0 < row
  pub fresh : ¬ In row s.linked

-- `try_lock`, `free_lock`
abbrev pub lock_stored : State → ℕ → ℕ → State
lock_stored s row x = record s { lock = changed s.lock row x }

-- `try_enter`, `count_left`, `try_close`, `open_gate`: the header's words on writes
abbrev pub header_stored : State → (gate left writers : ℕ) → State
header_stored s g a w = record s { gate = g; left = a; writers = w }

pub record MayCount (s : State) (g a w : ℕ) : Type 0 where
  pub up : s.gate / 2 ≤ g / 2
  pub entering : g / 2 ≡ s.gate / 2 → s.writers ≡ 0 → w ≡ 0
  pub count : g / 2 ≡ a + w

-- `store_height`
abbrev pub height_stored : State → ℕ → ℕ → State
height_stored s row h =
    record s { height = changed s.height row h; tree = with_height row h s.tree }

pub record MayStoreHeight (s : State) (row : ℕ) : Type 0 where
  pub writing : s.writers ≢ 0
  pub live : IsLive s row
