use Rattle.std.proofs.Common.{ℕ, List, Option, refl, sym, ap, subst, ◌∙◌}
use Rattle.snap_outlet.specs.Posts.{new_post}
use Rattle.snap_crew.specs.Prelude.{IsReplyAt}
use Rattle.snap_crew.proofs.seats.seat_of.Goals as goal

pub returns : goal.returns
returns c = λ outlet is. let desk = c.new-desk.ensures in record {
  job_is = refl;
  post_is = desk.post ∙ c.new.ensures ∙ ap new_post is;
  reply_is = subst (λ (o : Option (List ℕ)). IsReplyAt c.args.names c.args.place o) (sym desk.reply) c.in_ok-reply.ensures;
  lines_are = desk.lines;
  full_is = desk.full;
  who_is = desk.who;
  pieces_are = desk.pieces;
}
