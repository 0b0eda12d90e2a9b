use Rattle.std.proofs.Common.{ap, arith}
use Rattle.snap_service.specs.Prelude.{most_uses, SessionState}
use Rattle.snap_service.proofs.Using.{cut_done, uses_le}
use Rattle.snap_service.proofs.session.Session.snap.Goals as goal

pub clone_view-view-requires-clause-uses : goal.clone_view-view-requires-clause-uses
clone_view-view-requires-clause-uses g c = let s = c.self.invariant in let e = ap (λ (x : SessionState). most_uses x.passes) c.self.view_is in omega (arith, c.requires.uses, e, uses_le c.self.inside.passes.items c.self.inside.in_use c.index_mut-pass.result.now s.a_table_in_use c.index_mut-pass.ensures.value)

pub returns-clause-cut : goal.returns-clause-cut
returns-clause-cut g c = cut_done c.args.self.now _ c.self.view_is c.self.invariant c.index_mut-pass.result.now c.index_mut-pass.ensures.value c.clone_view-view.new.pass c.args.slot c.clone_view-view.result c.clone_view-view.ensures
