-- The part of the rule on readers, and on the rows that a pass has come to.
use Rattle.std.specs.Prelude.{ℕ, List, [], ◌∷◌}
use Rattle.snap_rule.specs.State.{State as Table}
use Rattle.snap_rule.specs.Views.{ReadingOk}
use Rattle.snap_steps.specs.declared.view.View.{View}
use Rattle.snap_steps.specs.Counting.{Among}

-- rows that were linked
abbrev pub AllLinked : List ℕ → List ℕ → Type 0
AllLinked linked [] = Unit {0}
AllLinked linked (r ∷ rs) = Among r linked × AllLinked linked rs

-- the way that the pass is on
abbrev pub IsOnWay : Table → View → Type 0
IsOnWay s v = ReadingOk s v.seen v.way.reads
