use Rattle.snap_desk.specs.Collecting.{as_piece}
use Rattle.snap_desk.proofs.Gathering.{collected_by, piece_is}
use Rattle.snap_desk.proofs.collecting.write_piece.Goals as goal

pub returns-in-Ok-clause-collected : goal.returns-in-Ok-clause-collected
returns-in-Ok-clause-collected g c = λ sender.
    collected_by c.args.written c.in-Ok.field-0 c.put.result sender _ (as_piece c.args.names.now c.args.piece.now) (g.S.Shelf.files c.args.shelf.now) (g.S.Shelf.files c.put.new.shelf) _ c.in-Ok.is
    (piece_is c.args.names.now c.args.piece.now c.is_among-makes.result c.list.result.now c.is_among-makes.ensures c.list.ensures) c.put.ensures.put c.put.ensures.part c.put.ensures.stops
