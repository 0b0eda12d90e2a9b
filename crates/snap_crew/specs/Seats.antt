-- The seats of workers: as they begin, and what is left when the workers have ended.
use Rattle.std.specs.Prelude.{◌≡◌, ℕ, List, [], Option, Some, None, OnOk, slice_index_or}
use denote.Ref.{Bor}
use Rattle.snap_desk.specs.{Answers.Answered, Files.AllIn, Files.AllOthers, Files.files_named, declared.desk.Desk.Desk}
use Rattle.snap_desk.specs.Puts.{AreFor, IsCounted, IsEnded, IsNamedIf, HoldsAnswered, IsSame}
use Rattle.snap_outlet.specs.{Outlets.new_sender, Outlets.OutletId, Posts.new_post, Posts.put_at}
use Rattle.snap_prelude.specs.{Command}
use Rattle.snap_service.specs.Prelude.{SessionState}
use Rattle.snap_text.specs.LoadFiles.{Loads}
use Rattle.snap_write.specs.Outputs.{names_of}
use Rattle.snap_crew.specs.{Works.CanWork, Works.HasRun, Works.script_commands, declared.crew.Job.Job}
use Rattle.snap_crew.specs.{declared.seats.Seat.Seat}

-- the reply file of a place, where there are reply files
abbrev pub IsReplyAt : Option (Bor (List (List ℕ))) → ℕ → Option (List ℕ) → Type 0
IsReplyAt None place reply = reply ≡ None
IsReplyAt (Some names) place reply = (d : List ℕ) → reply ≡ Some (slice_index_or names.now place d)

-- the seat of this number, at which nothing was put yet
pub record IsSeat (outlet : OutletId) (names : Option (Bor (List (List ℕ)))) (i : ℕ) (job : Job)
    (seat : Seat) : Type 0 where
  pub job_is : seat.job ≡ job
  pub post_is : seat.desk.post ≡ new_post (new_sender outlet i)
  pub reply_is : IsReplyAt names i seat.desk.reply
  pub lines_are : seat.desk.lines.items ≡ []
  pub full_is : seat.desk.full ≡ 0
  pub who_is : seat.desk.who ≡ seat.job.who
  pub pieces_are : seat.desk.pieces ≡ 0

-- nothing was put at the desk yet
pub record IsBlank (d : Desk) : Type 0 where
  pub nothing_put : put_at d.post ≡ []
  pub no_lines : d.lines.items ≡ []
  pub no_full : d.full ≡ 0
  pub no_pieces : d.pieces ≡ 0

-- a worker can begin at its seat
pub record CanSit (loads : Loads) (outlet : OutletId) (seat : Seat) : Type 0 where
  pub can : CanWork loads seat.job.who seat.job.session (script_commands seat.job.script.now)
  pub outlet_is : seat.desk.post.outlet ≡ outlet
  pub who_is : seat.desk.who ≡ seat.job.who
  pub blank : IsBlank seat.desk
  pub others : AllOthers seat.desk.reply (script_commands seat.job.script.now)

-- the pieces of a worker are for its reply file and for its exports, and are counted; without a
-- reply file there are none
pub record KeepsTo (commands : List Command) (d e : Desk) : Type 0 where
  pub same : IsSame d e
  pub pieces : (names : List (List ℕ)) → IsNamedIf names d.reply → AllIn names commands
      → AreFor names (put_at e.post)
  pub none : d.reply ≡ None → put_at e.post ≡ []
  pub counted : IsCounted e

-- the commands were run, and what they came to was put out but for the last lines
pub record HasAnswered (loads : Loads) (w : ℕ) (commands : List Command) (first last : SessionState)
    (d : Desk) : Type 0 where
  pub answered : Answered
  pub ran : HasRun loads w commands answered first last
  pub put : HoldsAnswered d answered
  pub named : names_of answered.exports ≡ files_named commands

-- the commands were run, and all that they came to was put out
pub record HasPutOut (loads : Loads) (w : ℕ) (commands : List Command) (first last : SessionState)
    (d : Desk) : Type 0 where
  pub answered : Answered
  pub ran : HasRun loads w commands answered first last
  pub put : IsEnded d answered
  pub named : names_of answered.exports ≡ files_named commands

-- a worker has ended at its seat
pub record HasSat (loads : Loads) (s t : Seat) : Type 0 where
  pub tables : t.job.session.tables ≡ s.job.session.tables
  pub keeps : KeepsTo (script_commands s.job.script.now) s.desk t.desk
  pub worked : OnOk t.came
      (HasPutOut loads s.job.who (script_commands s.job.script.now) s.job.session t.job.session
      t.desk)
