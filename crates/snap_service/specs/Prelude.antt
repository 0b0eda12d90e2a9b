-- The words of this crate that its proofs and the crates above cite, passed on from one
-- place. Declares nothing.
pub use Rattle.snap_service.specs.Courses.{course, cuts_among, cuts_of, front_of, fronts_of}
pub use Rattle.snap_service.specs.Courses.{kept, kept_of, setting, track, track_of}
pub use Rattle.snap_service.specs.Kits.{Admits, AdmitsAll, AreClosed, CoversAll, FitsAll, HasFinal, IsCallers, IsFinal}
pub use Rattle.snap_service.specs.Kits.{IsFrontOfWorkers, IsUncut, Joins, JoinsAll, NotedTheirs, SpeaksFor}
pub use Rattle.snap_service.specs.Runs.{CanRunAll, HasServed, IsFresh, ServesOn}
pub use Rattle.snap_service.specs.Serving.{CanRun, is_yes, LoadsPairs, map_in}
pub use Rattle.snap_service.specs.Serving.{Measured, Measures, PutAll, Serves, text_of, Wrote}
pub use Rattle.snap_service.specs.States.{AreDealt, AreNewKits, AreSeated, AreTables, clone_at, FitsSlot, free_slots}
pub use Rattle.snap_service.specs.States.{IsCloneIn, IsSeated, IsWellFormed, most_uses, new_kit, new_pass, new_session}
pub use Rattle.snap_service.specs.States.{nobody, nowhere, pass_at, pass_in_use, SessionState, slots, table_at}
pub use Rattle.snap_service.specs.States.{table_place, Tables, with_pass, with_pass_at, with_slot, with_use}
