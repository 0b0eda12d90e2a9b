use Rattle.std.proofs.Common.{sym, ap, ◌∙◌, subst}
use Rattle.snap_prelude.specs.{link_field}
use Rattle.snap_search.specs.{Leads.LeadsTo, Leads.stand, Prelude.Spot}
use Rattle.snap_search.proofs.search.child_of.Goals as goal

pub load_next-word-requires-clause-way : goal.load_next-word-requires-clause-way
load_next-word-requires-clause-way g c =
    let way = c.requires.way in let e = c.spot-spot.ensures in
    (way.0, stand (g.S.Search.spot c.args.search.now), way.1, (ap (λ (s : Spot). s.row) e, c.link.ensures ∙ ap (λ (s : Spot). link_field s.side) e))

pub row_of-requires : goal.row_of-requires
row_of-requires g c = let way = c.requires.way in (c.load_next-word.ensures.leads way.0 (stand (g.S.Search.spot c.args.search.now)) way.1).0

pub returns-clause-leads : goal.returns-clause-leads
returns-clause-leads g c from a =
    let s = c.args.search.now in let new = c.load_next-word.new.pass in let p = stand (g.S.Search.spot s) in
    subst (LeadsTo c.args.rows.now.rows (g.S.Search.comes s from new c.args.key) (g.S.Search.fails s from new c.args.key) p) (sym c.row_of.ensures) (c.load_next-word.ensures.leads from p a)
