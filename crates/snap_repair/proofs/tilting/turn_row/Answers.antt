use Rattle.snap_repair.proofs.{Mending.edge_looks, Raising.lowers_after, Raising.near_looks}
use Rattle.snap_repair.proofs.tilting.turn_row.Goals as goal

pub lower_row-requires-clause-turn : goal.lower_row-requires-clause-turn
lower_row-requires-clause-turn c =
    let t = c.args.turn.now in let a = c.args.pass.now in let b = c.is_worn_out.new.pass in let s = c.is_worn_out.ensures.looks in record {
      upper = edge_looks a b t.parent t.row t.parent_side s c.requires.turn.upper;
      lower = edge_looks a b t.row t.raised t.side s c.requires.turn.lower;
      apart = c.requires.turn.apart;
    }

pub lower_row-requires-clause-aims : goal.lower_row-requires-clause-aims
lower_row-requires-clause-aims c = let t = c.args.turn.now in near_looks c.args.pass.now c.is_worn_out.new.pass t.parent.row t.row.row t.raised.row c.args.key c.is_worn_out.ensures.looks c.requires.aims

pub returns : goal.returns
returns c = lowers_after c.args.pass.now c.is_worn_out.new.pass c.lower_row.new.pass c.args.turn.now c.is_worn_out.ensures.looks c.lower_row.ensures
