-- Some moment: an answer of a reader stands at a history between the one that the reader had seen
-- and the present one.
use Rattle.std.specs.Prelude.{List}
use Rattle.snap_model.specs.History.{Begins}
use Rattle.snap_model.specs.declared.call.Entry.{Entry}

-- Q is true of some history that goes on from seen and begins h
pub record AtSome (seen h : List Entry) (Q : List Entry → Type 0) : Type 0 where
  pub moment : List Entry
  pub later : Begins seen moment
  pub made : Begins moment h
  pub holds : Q moment
