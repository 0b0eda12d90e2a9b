use Rattle.std.proofs.Common.{ap, subst, arith}
use Rattle.snap_prelude.specs.{Pairs}
use Rattle.snap_service.specs.Prelude.{LoadsPairs, most_uses, SessionState, Tables}
use Rattle.snap_text.specs.LoadFiles.{pairs_of}
use Rattle.snap_service.proofs.Using.{loaded_done, seat_here, seat_loaded, uses_le, well_set}
use Rattle.snap_service.proofs.session.Session.load.Goals as goal

pub returns : goal.returns
returns g c = loaded_done c.args.self.now _ c.self.view_is c.self.invariant c.index_mut-pass.result.now c.index_mut-pass.ensures.value c.service.inside.tables.items c.index-table.result.now (ap (λ (t : Tables). t.laid) c.service.view_is) c.index-table.ensures c.put_all.new.pass (pairs_of c.args.loads.now c.args.file.now) c.put_all.result (subst (λ (xs : Pairs). LoadsPairs c.index-table.result.now.rows xs c.index_mut-pass.result.now c.put_all.result c.put_all.new.pass) c.pairs_of-pairs.ensures.pairs c.put_all.ensures.loaded)

pub put_all-requires-clause-uses : goal.put_all-requires-clause-uses
put_all-requires-clause-uses g c = let s = c.self.invariant in let e = ap (λ (x : SessionState). most_uses x.passes) c.self.view_is in omega (arith, c.requires.uses, e, c.pairs_of-pairs.ensures.few, uses_le c.self.inside.passes.items c.self.inside.in_use c.index_mut-pass.result.now s.a_table_in_use c.index_mut-pass.ensures.value)

pub invariant_of-self : goal.invariant_of-self
invariant_of-self g c =
    let p = c.index_mut-pass.result.now in
    well_set _ c.put_all.new.pass c.self.invariant (seat_loaded _ c.index-table.result.now.rows c.pairs_of-pairs.result.now p c.put_all.result c.put_all.new.pass (seat_here _ p c.self.invariant c.index_mut-pass.ensures.value) c.put_all.ensures.loaded)
