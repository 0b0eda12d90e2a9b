-- How many pairs the entries of a history add to its map, and how many they take out.
use Rattle.std.specs.Prelude.{ℕ, ◌+◌, Option, Some, None}
use Rattle.snap_model.specs.declared.call.Call.{Call}
use Rattle.snap_model.specs.declared.call.Call.TheVariants.{Put, Remove}
use Rattle.snap_model.specs.declared.call.Entry.{Entry}
use Rattle.snap_steps.specs.Counting.{total}
use Rattle.snap_steps.specs.declared.view.Admitted.{Admitted}
use Rattle.snap_steps.specs.declared.view.View.{View}

-- a put of an absent key adds one
abbrev pub added_by : Call → Option ℕ → ℕ
added_by (Put k v) None = 1
added_by (Put k v) (Some w) = 0
added_by (Remove k) None = 0
added_by (Remove k) (Some w) = 0

-- a removal of a present key takes one
abbrev pub taken_by : Call → Option ℕ → ℕ
taken_by (Put k v) None = 0
taken_by (Put k v) (Some w) = 0
taken_by (Remove k) None = 0
taken_by (Remove k) (Some w) = 1

abbrev pub adds : Entry → ℕ
adds e = added_by e.call e.reply

abbrev pub takes : Entry → ℕ
takes e = taken_by e.call e.reply

-- over all entries that a view keeps: its own, and those of the numbers that it admitted
abbrev pub kept_sum : (Entry → ℕ) → View → ℕ
kept_sum f v = total f v.mine + total (λ (a : Admitted). total f a.mine) v.admitted
