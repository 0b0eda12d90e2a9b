-- The state of a table: its memory, and what the rule says beside it.
pub use Rattle.snap_stamp.specs.Sides.{link_field}
use Rattle.std.specs.Prelude.{ℕ}
use Rattle.snap_rule.specs.State.{State, Beside}
use Rattle.snap_rule.specs.Updates.{changed, relink}
use Rattle.snap_stamp.specs.declared.layout.Field.{Field}
use Rattle.snap_stamp.specs.declared.layout.Field.TheVariants.{Left, Right, Key, Birth, Stamp, Lock, Height, Value}
use Rattle.snap_steps.specs.Memory.{Memory, row, field}
use Rattle.snap_stamp.specs.declared.side.Side.TheVariants as sides

-- the state whose rows have these words
abbrev pub state_with : (Field → ℕ → ℕ) → Memory → Beside → State
state_with F m g = record {
  key = F Key;
  birth = F Birth;
  stamp = F Stamp;
  lock = F Lock;
  height = F Height;
  value = F Value;
  link = λ n d. F (link_field d) n;
  epoch = m.epoch;
  gate = m.gate;
  left = m.left;
  history = g.history;
  tree = g.tree;
  linked = g.linked;
  replaced = g.replaced;
  links = g.links;
  pending = g.pending;
  writers = g.writers;
}

abbrev pub state_of : Memory → Beside → State
state_of m g = state_with (λ f n. field f (row m.rows n)) m g

-- one word of one row is another
abbrev pub with_word : State → ℕ → Field → ℕ → State
with_word s r Key x = record s { key = changed s.key r x }
with_word s r Birth x = record s { birth = changed s.birth r x }
with_word s r Stamp x = record s { stamp = changed s.stamp r x }
with_word s r Lock x = record s { lock = changed s.lock r x }
with_word s r Height x = record s { height = changed s.height r x }
with_word s r Left x = record s { link = relink s.link r sides.Left x }
with_word s r Right x = record s { link = relink s.link r sides.Right x }
with_word s r Value x = record s { value = changed s.value r x }
