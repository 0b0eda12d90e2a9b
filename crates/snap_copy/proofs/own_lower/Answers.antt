use Rattle.std.proofs.{Common.◌∙◌, Common.ap, lemmas.Result.MatchResult-weaker}
use Rattle.snap_copy.proofs.Lowering.{epoch_after, lacks_rows, owns_lower, place_after}
use Rattle.snap_prelude.specs.{Known}
use Rattle.snap_copy.proofs.own_lower.Goals as goal

pub own_at-requires-clause-epoch : goal.own_at-requires-clause-epoch
own_at-requires-clause-epoch g c = epoch_after c.args.pass.now c.load_epoch-epoch.new.pass c.load_epoch-epoch.result c.requires.writing c.load_epoch-epoch.ensures.pass

pub own_at-requires-clause-writing : goal.own_at-requires-clause-writing
own_at-requires-clause-writing g c = let w = c.requires.writing in (w.0, w.1, ap (λ (k : Known). k.view.stage) c.load_epoch-epoch.ensures.pass ∙ w.2)

pub own_at-requires-clause-place : goal.own_at-requires-clause-place
own_at-requires-clause-place g c = let t = c.requires.tilt in (t.1.child, t.1.some_child, place_after c.args.pass.now c.load_epoch-epoch.new.pass c.load_epoch-epoch.result t.0 c.args.parent c.args.side c.load_epoch-epoch.ensures.pass c.requires.held c.requires.live t.1)

pub returns : goal.returns
returns g c =
    let a = c.load_epoch-epoch.new.pass in let e = c.load_epoch-epoch.result in let load = c.load_epoch-epoch.ensures.pass in
    MatchResult-weaker c.own_at.result c.own_at.ensures (λ child o. owns_lower c.args.pass.now a c.own_at.new.pass e load c.args.rows.now.rows c.args.parent c.args.side child o) (λ f l. let t = c.requires.tilt in lacks_rows c.args.rows.now.rows f.rows c.args.pass.now a c.own_at.new.pass e c.args.parent t.0 c.args.side load c.requires.table.1 t.1 l)
