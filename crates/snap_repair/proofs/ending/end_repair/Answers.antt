use Rattle.std.proofs.Common.{⊎_elim}
use Rattle.snap_repair.proofs.Lifting.{ends_repair}
use Rattle.snap_shape.proofs.Shaping.{born}
use Rattle.snap_repair.proofs.ending.end_repair.Goals as goal

pub settle_last-requires-clause-live : goal.settle_last-requires-clause-live
settle_last-requires-clause-live c = ⊎_elim (λ z. absurd (c.requires.row.1 z)) (λ o. (o.reached, born c.args.pass.now.view c.args.row.now c.requires.grip o)) c.requires.grip.own

pub settle_last-requires-clause-only : goal.settle_last-requires-clause-only
settle_last-requires-clause-only c = c.requires.only

pub returns : goal.returns
returns c = ends_repair c.args.pass.now c.settle_last.new.pass c.settle_last.ensures
