use Rattle.snap_shape.proofs.rotate.Goals as goal

pub end_turn-requires-clause-begun : goal.end_turn-requires-clause-begun
end_turn-requires-clause-begun c = (c.args.pass.now, c.args.key, c.begin_turn-middle.ensures.begun)

pub returns-clause-turned : goal.returns-clause-turned
returns-clause-turned c = c.end_turn.ensures c.args.pass.now c.args.key c.begin_turn-middle.ensures.begun
