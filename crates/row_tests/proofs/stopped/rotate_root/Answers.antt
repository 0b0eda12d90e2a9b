use Rattle.row_tests.proofs.stopped.rotate_root.Goals as goal

pub begin_turn-middle-requires : goal.begin_turn-middle-requires
begin_turn-middle-requires g c = c.requires.rotates

pub end_turn-requires-clause-begun : goal.end_turn-requires-clause-begun
end_turn-requires-clause-begun g c = (c.args.pass.now, c.args.turn.now.row.key, c.begin_turn-middle.ensures.begun)

pub returns-clause-turned : goal.returns-clause-turned
returns-clause-turned g c = c.end_turn.ensures c.args.pass.now c.args.turn.now.row.key c.begin_turn-middle.ensures.begun
