-- Histories that a step extends.
use Rattle.std.specs.Prelude.{nat_lt, cond, List, length, ◌≡◌, [], ◌∷◌, ◌++◌}
use Rattle.snap_model.specs.History.{IsLegal, Begins, calls_of}
use Rattle.snap_model.specs.declared.call.Entry.{Entry}
use Rattle.snap_steps.specs.declared.view.View.{View}

abbrev pub longer : List Entry → List Entry → List Entry
longer xs ys = cond (nat_lt (length xs) (length ys)) ys xs

-- a legal history that goes on from what the pass has seen, and has no more entries of the pass
pub record Extends (v : View) (seen : List Entry) : Type 0 where
  pub goes_on : Begins v.seen seen
  pub legal : IsLegal seen
  pub own : calls_of seen v.who ≡ v.mine

-- an entry of the pass is made at the end of the whole history
pub record Enters (v : View) (log : List Entry) (e : Entry) : Type 0 where
  pub goes_on : Begins v.seen log
  pub legal : IsLegal (log ++ e ∷ [])
  pub own : calls_of log v.who ≡ v.mine
