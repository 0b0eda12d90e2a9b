-- The words of this crate that its proofs and the crates above cite, passed on from one
-- place. Declares nothing.
pub use Rattle.snap_desk.specs.Answers.{Answered, exported_file, full_of}
pub use Rattle.snap_crew.specs.Answers.{AreOf, files_of, fulls_of, fulls_with, lines_of, lines_with, table_files}
pub use Rattle.snap_crew.specs.Endings.{AreEnded, AreWorkers, IsEnd, IsEnding}
pub use Rattle.snap_crew.specs.Endings.{IsFinished, IsTextIf, IsTrue, setting_of}
pub use Rattle.snap_desk.specs.Files.{all_files_named, answer_names, answers_in, AreBlank}
pub use Rattle.snap_desk.specs.Files.{AreFilesApart, exports_in, files_named, IsAfter, IsWrittenOr, KeepsOthers}
pub use Rattle.snap_desk.specs.Files.{names_in, replies_in}
pub use Rattle.snap_crew.specs.Jobs.{AreKits, IsCrew, IsJob, IsRunnableOn, IsTask, Sits}
pub use Rattle.snap_crew.specs.Mirrors.{Mirrors}
pub use Rattle.snap_crew.specs.Seats.{CanSit, IsReplyAt, IsSeat}
pub use Rattle.snap_crew.specs.Tasks.{AreReady, task_files}
pub use Rattle.snap_crew.specs.Works.{AreOfWorker, CanWork, FitsIf, HasFit, HasRun, HasWorked, script_commands}
pub use Rattle.snap_crew.specs.Works.{ServesAll}
pub use Rattle.snap_crew.specs.declared.crew.Job.{Job}
pub use Rattle.snap_crew.specs.declared.ending.Ending.{Ending}
pub use Rattle.snap_crew.specs.declared.seats.Seat.{Seat}
