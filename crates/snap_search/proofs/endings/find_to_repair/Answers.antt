use Rattle.std.proofs.Common.{[], ◌∙◌, ap}
use Rattle.snap_prelude.specs.{Known}
use Rattle.snap_search.proofs.{Arriving.finds_end, Keeping.way_above, Working.again_works, Working.still_now}
use Rattle.snap_search.proofs.endings.find_to_repair.Goals as goal

pub descend-descent-requires-clause-way : goal.descend-descent-requires-clause-way
descend-descent-requires-clause-way g c = ap (λ (k : Known). k.view.way.reads) c.set_out_again.ensures

pub descend-descent-requires-clause-epoch : goal.descend-descent-requires-clause-epoch
descend-descent-requires-clause-epoch g c =
    let w = c.requires.writing in
    still_now c.args.pass.now c.load_epoch-epoch.new.pass c.set_out_again.new.pass c.load_epoch-epoch.result [] w.0 w.1 w.2 c.load_epoch-epoch.ensures.pass (again_works c.load_epoch-epoch.new.pass c.set_out_again.new.pass c.args.key c.set_out_again.ensures)

pub returns-clause-finds : goal.returns-clause-finds
returns-clause-finds g c =
    let w = c.requires.writing in let d = c.descend-descent in
    finds_end c.args.rows.now.rows d.new.pass c.args.key d.result.above d.result.spot d.ensures.above d.ensures.spot c.args.pass.now c.load_epoch-epoch.new.pass c.set_out_again.new.pass c.load_epoch-epoch.result d.result.place c.end_from.result w.0 w.1 w.2 c.load_epoch-epoch.ensures.pass c.set_out_again.ensures d.ensures.comes c.end_from.ensures

pub returns-clause-way : goal.returns-clause-way
returns-clause-way g c =
    let d = c.descend-descent in
    way_above c.args.rows.now.rows d.new.pass.view d.new.way c.keep_above.new.way d.result.place d.result.spot d.ensures.spot c.keep_above.ensures.steps d.ensures.way

pub returns-clause-stayed : goal.returns-clause-stayed
returns-clause-stayed g c = c.keep_above.ensures.stayed ∙ c.descend-descent.ensures.stayed
