use Rattle.std.proofs.Common.{false}
use Rattle.snap_copy.proofs.own_child.Goals as goal

pub own_at-requires-clause-writing : goal.own_at-requires-clause-writing
own_at-requires-clause-writing g c = (false, false, c.requires.writing)

pub own_at-requires-clause-place : goal.own_at-requires-clause-place
own_at-requires-clause-place g c = let p = c.requires.place in (p.0, p.1, (c.requires.writing, p.2))

pub returns : goal.returns
returns g c = c.own_at.ensures
