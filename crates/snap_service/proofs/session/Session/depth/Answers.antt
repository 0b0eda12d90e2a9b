use Rattle.std.proofs.Common.{◌∙◌}
use Rattle.snap_service.proofs.Using.{measured_done}
use Rattle.snap_service.proofs.session.Session.depth.Goals as goal

pub returns : goal.returns
returns c =
    measured_done c.args.self.now _ (c.self.view_is ∙ c.live_in-place.ensures.state) c.self.invariant c.args.slot (c.live_in-place.result.0, c.live_in-place.result.1) c.live_in-place.ensures.live
    c.index_mut-pass.result.now c.take_back.new.pass c.index_mut-pass.ensures.value c.measure-reply.new.view c.measure-reply.result c.measure-reply.ensures c.take_back.ensures
