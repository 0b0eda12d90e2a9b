use Rattle.std.proofs.Common.{◌≡◌, ℕ, length, sym, ap, subst, ◌∙◌, arith, slice_index_or}
use Rattle.snap_service.proofs.Ending.{fewer_is, last_is, one_less}
use Rattle.snap_outlet.specs.Outlets.{new_sender}
use Rattle.snap_crew.specs.Prelude.{IsSeat}
use Rattle.snap_prelude.proofs.Common.{length_push}
use Rattle.snap_crew.proofs.{Beginning.mirror_next, Beginning.straight, Seating.last_sender, Seating.senders_many}
use Rattle.snap_crew.proofs.seats.open_seats.Goals as goal

pub loop-job-preserved : goal.loop-job-preserved
loop-job-preserved c =
    let v = c.loop-job.invariant in let jobs = c.args.jobs.items in let fewer = c.pop.new.self.items in let job = c.in-Some.job in
    let one = one_less jobs c.loop-job.left.items fewer job v.left c.in-Some.ensures.items in
    let last = last_sender c.args.outlet.now (length fewer) (length c.loop-job.left.items) c.loop-job.others.items c.pop-in-Some.new.self.items c.in-Some-pop.sender one v.senders c.in-Some-pop.ensures.items in
    let seat = c.in_ok-seat.seat in
    let here : c.len.result ≡ length fewer = omega (arith, c.len.ensures, c.pop.new.self.ok.0) in
    let is : IsSeat c.args.outlet.now c.args.names (length fewer) job seat =
    subst (λ (n : ℕ). IsSeat c.args.outlet.now c.args.names n job seat) here (c.in_ok-seat.ensures c.args.outlet.now (last.1 ∙ ap (new_sender c.args.outlet.now) (sym here))) in
    record {
      left = fewer_is jobs c.loop-job.left.items fewer job v.left c.in-Some.ensures.items;
      senders = last.0;
      all = omega (arith, ap length c.in_ok-push.ensures.items, length_push c.loop-job.seats.items seat, one, v.all);
      seats = λ d. mirror_next (length jobs) c.loop-job.seats.items c.push.new.self.items (λ i x. IsSeat c.args.outlet.now c.args.names i (slice_index_or jobs i d) x)
          (length c.loop-job.left.items) (length fewer) seat one v.all c.in_ok-push.ensures.items
          (record {
            job_is = is.job_is ∙ last_is jobs c.loop-job.left.items fewer job v.left c.in-Some.ensures.items d;
            post_is = is.post_is;
            reply_is = is.reply_is;
            lines_are = is.lines_are;
            full_is = is.full_is;
            who_is = is.who_is;
            pieces_are = is.pieces_are;
          }) (v.seats d);
    }

pub returns-clause-each : goal.returns-clause-each
returns-clause-each c = let v = c.loop-job.invariant in let none = c.in_default.ensures in λ i d e l.
    straight (length c.args.jobs.items) c.loop-job.seats.items c.reverse.new.self.items (λ k x. IsSeat c.args.outlet.now c.args.names k (slice_index_or c.args.jobs.items k d) x)
    (omega (arith, v.all, none.cases.0, c.loop-job.left.ok.0)) c.reverse.ensures.items (v.seats d) i e l

pub unreachable-requires : goal.unreachable-requires
unreachable-requires c =
    let v = c.loop-job.invariant in
    let one = one_less c.args.jobs.items c.loop-job.left.items c.pop.new.self.items c.in-Some.job v.left c.in-Some.ensures.items in
    omega (arith, one, ap length v.senders, senders_many c.args.outlet.now (length c.loop-job.left.items), c.in_default-pop.ensures.cases.0, c.loop-job.others.ok.0)
