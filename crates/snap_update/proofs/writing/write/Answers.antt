use Rattle.snap_prelude.specs.{call_key}
use Rattle.snap_update.proofs.{Entering.writes_after, Going.still_ready, Trying.begins, Trying.refused_going}
use Rattle.snap_update.proofs.{Trying.tries_on}
use Rattle.snap_update.proofs.writing.write.Goals as goal

pub loop-init : goal.loop-init
loop-init g c = (tt, tt, begins c.args.pass.now (call_key c.args.call.now))

pub try_write-requires-clause-ready : goal.try_write-requires-clause-ready
try_write-requires-clause-ready g c = let k = c.loop.invariant.2 in still_ready c.args.pass.now c.loop.pass (call_key c.args.call.now) k.drawn k.more c.requires.ready k.goes

pub returns-in-Made-clause-answers : goal.returns-in-Made-clause-answers
returns-in-Made-clause-answers g c = let k = c.loop.invariant.2 in writes_after c.args.pass.now c.loop.pass c.try_write.new.pass (call_key c.args.call.now) k.drawn k.more c.args.call.now c.in-Made.reply k.goes c.in-Made.ensures.tries

pub loop-preserved : goal.loop-preserved
loop-preserved g c = (tt, tt, tries_on c.args.rows.now.rows c.args.pass.now c.loop.pass c.try_write.new.pass c.args.call.now c.loop.invariant.2 c.in-Again.ensures.tries)

pub returns-in-Refused-clause-answers : goal.returns-in-Refused-clause-answers
returns-in-Refused-clause-answers g c = let h = c.in-Refused.ensures.tries in (h.0, refused_going c.args.rows.now.rows c.args.pass.now c.loop.pass c.try_write.new.pass c.args.call.now c.loop.invariant.2 (h.1, h.2))
