use Rattle.std.proofs.Common.{◌<◌, ◌∙◌, length, slice_index_or, ap, subst, sym, arith}
use Rattle.snap_crew.specs.Prelude.{script_commands, IsJob, Job}
use Rattle.snap_outlet.specs.Posts.{put_at}
use Rattle.snap_desk.proofs.Names.{some_of}
use Rattle.snap_crew.proofs.scripts.seated.Goals as goal

pub returns : goal.returns
returns c = λ tables are.
    let jobs = c.args.jobs.items in let many = c.requires.a_job_each in
    record {
      taker = c.in_ok-outlet.ensures.taker;
      a_seat_each = c.in_ok-seats.ensures.many ∙ many;
      seats = λ i s d l.
          let lj : i < length jobs = omega (arith, l, many) in let j = some_of jobs i lj in
          let seat = c.in_ok-seats.ensures.each i j d lj in
          record {
            job = subst (λ (x : Job). IsJob c.args.task.now.loads.now tables (script_commands (slice_index_or c.args.task.now.scripts.now i s)) i x) (sym seat.job_is) (are i s j l);
            post = seat.post_is;
            reply = seat.reply_is;
            blank = record { nothing_put = ap put_at seat.post_is; no_lines = seat.lines_are; no_full = seat.full_is; no_pieces = seat.pieces_are };
            who = seat.who_is;
          };
      room = c.requires.room;
    }
