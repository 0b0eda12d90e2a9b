-- The words of this crate that its proofs and the crates above cite, passed on from one
-- place. Declares nothing.
pub use Rattle.snap_search.specs.Answers.{FindsBusy, Reads, ReadsAtOnce, Seeks, with_note}
pub use Rattle.snap_search.specs.Endings.{end_at, end_below, EndsOn, FindsEnd, IsAt, IsWayEnd}
pub use Rattle.snap_search.specs.Kept.{GoesUp, GoesUpTo, IsStep, IsWay, step_at, with_above, with_row, with_step}
pub use Rattle.snap_search.specs.Places.{AllFrom, Births, births_of, Comes, ComesTo, EndsAbsent, EndsAt, EndsFrom}
pub use Rattle.snap_search.specs.Places.{EndsHere, EndsOlder, EndsShared, Finds, Goes, row_at, WentFrom}
pub use Rattle.snap_search.specs.Walk.{at_top, Ends, walked, Walks}
pub use Rattle.snap_search.specs.Work.{any_work, IsPresent, IsReached, worked, Works}
pub use Rattle.snap_search.specs.declared.down.Spot.{Spot}
pub use Rattle.snap_search.specs.declared.endings.Ending.{Ending}
pub use Rattle.snap_search.specs.declared.kept.Step.{Step}
pub use Rattle.snap_search.specs.declared.kept.Way.{Way}
pub use Rattle.snap_search.specs.declared.places.Place.{Place}
pub use Rattle.snap_search.specs.declared.places.Place.TheVariants.{Below, Here, Shared}
pub use Rattle.snap_search.specs.declared.trying.Seek.{Seek}
