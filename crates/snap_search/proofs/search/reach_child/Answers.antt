use Rattle.std.proofs.Common.{rules, ◌≡◌, ℕ, ◌%◌, refl, ap, ◌∙◌}
use Rattle.snap_prelude.specs.{link_field, Stamped, Relinked}
use Rattle.snap_search.specs.{Leads.linked, Prelude.Spot}
use Rattle.snap_search.proofs.search.reach_child.Goals as goal

pub load_next-mark-requires-clause-way : goal.load_next-mark-requires-clause-way
load_next-mark-requires-clause-way g c = let way = c.requires.way in (way.0, linked (g.S.Search.spot c.args.search.now) c.args.child, way.1, (refl, refl))

pub load_next-again-requires-clause-way : goal.load_next-again-requires-clause-way
load_next-again-requires-clause-way g c =
    let way = c.requires.way in let e = c.spot-spot.ensures in let p = g.S.Search.spot c.args.search.now in let w : ℕ = c.load_next-mark.result in
    let unmarked : w % 4 ≡ 0 = search rules in
    (way.0, Stamped p.row p.stamp p.side c.args.child w, (c.load_next-mark.ensures.leads way.0 (linked p c.args.child) way.1).0 unmarked, (ap (λ (s : Spot). s.row) e, c.link.ensures ∙ ap (λ (s : Spot). link_field s.side) e))

pub load_next-still-requires-clause-way : goal.load_next-still-requires-clause-way
load_next-still-requires-clause-way g c =
    let way = c.requires.way in let e = c.spot-spot.ensures in let p = g.S.Search.spot c.args.search.now in let w : ℕ = c.load_next-mark.result in
    let unmarked : w % 4 ≡ 0 = search rules in let same : c.load_next-again.result ≡ c.args.child = search rules in
    let first = (c.load_next-mark.ensures.leads way.0 (linked p c.args.child) way.1).0 unmarked in
    (way.0, Relinked p.row p.stamp c.args.child w, (c.load_next-again.ensures.leads way.0 (Stamped p.row p.stamp p.side c.args.child w) first).0 same, (ap (λ (s : Spot). s.row) e, refl))
