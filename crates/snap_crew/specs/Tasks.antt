-- The files of a task: its reply files, and those that its scripts export.
use Rattle.std.specs.Prelude.{ℕ, IfSome, List, OnOk, Option, Result, map}
use Rattle.snap_desk.specs.Files.{all_files_named, answer_names, AreBlank, AreFilesApart, names_in}
use Rattle.snap_io.specs.Prelude.{Files, IfTold}
use Rattle.snap_write.specs.declared.unwritten.Unwritten.{Unwritten}
use Rattle.snap_crew.specs.{Works.script_commands, declared.scripts.Task.Task}

-- the files as a task begins: no two of its are the same, and the reply files are there and empty,
-- if they could be made
pub record AreReady (task : Task) (made : Result (Unit {0}) Unwritten)
    (files : Option Files) : Type 0 where
  pub apart : IfSome task.replies
      (λ names. AreFilesApart names.now (map script_commands task.scripts.now))
  pub blank : OnOk made (IfSome task.replies (λ names. IfTold files (AreBlank names.now)))

-- the names of all files that a task may write
abbrev pub task_files : Task → List (List ℕ)
task_files task =
    answer_names (names_in task.replies) (all_files_named (map script_commands task.scripts.now))
