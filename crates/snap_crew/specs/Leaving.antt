-- What is left when all workers have ended, and what became of the files.
use Rattle.std.specs.Prelude.{◌≡◌, ◌<◌, ◌≤◌, ◌++◌, ℕ, List, [], All, None, OnOk, Option, length, slice_index_or, vec_capacity}
use Rattle.snap_desk.specs.{Answers.Answered, Collecting.Collects, Puts.AreFor, Puts.IsNamedIf, Puts.IsPutOut}
use Rattle.snap_desk.specs.{declared.collecting.Collector.Collector, Files.AllIn, Files.files_named}
use Rattle.snap_io.specs.Shelves.{Files}
use Rattle.snap_outlet.specs.{Outlets.pieces_of, Posts.PostAt, Posts.put_at, declared.view.Parcel.Parcel}
use Rattle.snap_text.specs.LoadFiles.{Loads}
use Rattle.snap_write.specs.Outputs.{names_of}
use Rattle.snap_crew.specs.{Works.HasWorked, Works.script_commands, declared.leaving.Done.Done}
use Rattle.snap_crew.specs.{declared.leaving.Room.Room, declared.seats.Seat.Seat}

-- room for so many workers, of which nothing is used
pub record IsUnusedRoom (workers : ℕ) (room : Room) : Type 0 where
  pub posts : room.posts.items ≡ []
  pub done : room.done.items ≡ []
  pub waiting : room.waiting.items ≡ []
  pub few_posts : workers ≤ vec_capacity room.posts
  pub few_done : workers ≤ vec_capacity room.done
  pub few_waiting : workers ≤ vec_capacity room.waiting

-- what a worker leaves of its seat
abbrev pub done_of : Seat → Done
done_of s = record { receipt = s.job.session.passes; full = s.desk.full; came = s.came }

-- all that was put out at these posts has come to the collector
pub record Settles (c d : Collector) (posts : List PostAt) (old new : Option Files)
    (w0 w1 : ℕ) : Type 0 where
  pub parcels : List Parcel
  pub within : All (λ x. x.sender < c.taker.tally.senders) parcels
  pub all : (i : ℕ) (p : PostAt) → i < length posts
      → pieces_of i (c.taker.tally.taken ++ parcels) ≡ put_at (slice_index_or posts i p)
  pub collects : Collects c d parcels old new w0 w1

-- a worker's commands were run from its seat on, and all that they came to was put out at this post
pub record HasDone (loads : Loads) (s : Seat) (d : Done) (post : PostAt) : Type 0 where
  pub answered : Answered
  pub worked : HasWorked loads s.job.who (script_commands s.job.script.now) s.job.session d.receipt
      answered
  pub full : d.full ≡ answered.full
  pub put : IsPutOut s.desk.reply answered (put_at post) []
  pub named : names_of answered.exports ≡ files_named (script_commands s.job.script.now)

-- what a worker left, whether memory sufficed or not
pub record HasLeft (loads : Loads) (s : Seat) (d : Done) (post : PostAt) : Type 0 where
  pub pieces : (names : List (List ℕ)) → IsNamedIf names s.desk.reply
      → AllIn names (script_commands s.job.script.now) → AreFor names (put_at post)
  pub none : s.desk.reply ≡ None → put_at post ≡ []
  pub done : OnOk d.came (HasDone loads s d post)

-- all workers have ended, and all that they put out, with their numbers, has come to the collector
pub record RunsAll (loads : Loads) (seats : List Seat) (done : List Done) (c d : Collector)
    (old new : Option Files) (w0 w1 : ℕ) : Type 0 where
  pub posts : List PostAt
  pub parcels : List Parcel
  pub a_post_each : length posts ≡ length seats
  pub done_each : length done ≡ length seats
  pub within : All (λ x. x.sender < c.taker.tally.senders) parcels
  pub all : (i : ℕ) (p : PostAt) → i < length seats
      → pieces_of i parcels ≡ put_at (slice_index_or posts i p)
  pub left : (i : ℕ) (s : Seat) (e : Done) (p : PostAt) → i < length seats
      → HasLeft loads (slice_index_or seats i s) (slice_index_or done i e)
      (slice_index_or posts i p)
  pub collects : Collects c d parcels old new w0 w1
