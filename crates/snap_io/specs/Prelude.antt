-- The words of this crate that its proofs and the crates above cite, passed on from one
-- place. Declares nothing.
pub use Rattle.snap_io.specs.Causes.{Rose}
pub use Rattle.snap_io.specs.Shelves.{Changes, Files, IfTold, OnlyReads}
pub use Rattle.snap_io.specs.Sinks.{Puts}
