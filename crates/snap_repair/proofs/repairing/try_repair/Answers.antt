use Rattle.std.proofs.Common.{◌∙◌, ap}
use Rattle.snap_repair.proofs.{Inner.mending_on, Inner.stops_none, Inner.tries_after, Mending.mends_on}
use Rattle.snap_search.proofs.Keeping.{way_stays}
use Rattle.snap_repair.proofs.repairing.try_repair.Goals as goal

pub returns-then-is_none-clause-tries : goal.returns-then-is_none-clause-tries
returns-then-is_none-clause-tries g c =
    let a = c.args.pass.now in let b = c.next_row-end.new.pass in let s = c.next_row-end.ensures.goes in
    stops_none c.args.rows.now.rows a c.end_at_top.new.pass (mends_on a b c.end_at_top.new.pass s.mends c.end_at_top.ensures.0) (c.end_at_top.ensures.1 ∙ s.holds)

pub returns-then-is_none-clause-way : goal.returns-then-is_none-clause-way
returns-then-is_none-clause-way g c = way_stays c.args.rows.now.rows c.next_row-end.new.pass.view c.end_at_top.new.pass.view c.next_row-end.new.way c.end_at_top.ensures.0.reached c.next_row-end.ensures.way

pub returns-clause-tries : goal.returns-clause-tries
returns-clause-tries g c =
    let s = c.next_row-end.ensures.goes in
    tries_after c.args.rows.now.rows c.args.pass.now c.next_row-end.new.pass c.take_rows-why.new.pass c.take_rows-why.result s.mends s.holds c.take_rows-why.ensures

pub returns-clause-way : goal.returns-clause-way
returns-clause-way g c =
    let b = c.next_row-end.new.pass.view in let e = c.take_rows-why.new.pass.view in
    c.check_way.ensures c.args.rows.now.rows e (way_stays c.args.rows.now.rows b e c.next_row-end.new.way c.take_rows-why.ensures.mends.reached c.next_row-end.ensures.way)

pub end_at_top-requires-clause-mending : goal.end_at_top-requires-clause-mending
end_at_top-requires-clause-mending g c = mending_on c.args.pass.now c.next_row-end.new.pass c.next_row-end.ensures.goes.mends c.requires.mending

pub end_at_top-requires-clause-free : goal.end_at_top-requires-clause-free
end_at_top-requires-clause-free g c = c.next_row-end.ensures.goes.holds ∙ c.requires.free

pub end_at_top-requires-clause-to_do : goal.end_at_top-requires-clause-to_do
end_at_top-requires-clause-to_do g c = ap (λ u. u.to_do) c.next_row-end.ensures.goes.debt ∙ c.requires.to_do

pub take_rows-why-requires-clause-mending : goal.take_rows-why-requires-clause-mending
take_rows-why-requires-clause-mending g c = mending_on c.args.pass.now c.next_row-end.new.pass c.next_row-end.ensures.goes.mends c.requires.mending

pub take_rows-why-requires-clause-free : goal.take_rows-why-requires-clause-free
take_rows-why-requires-clause-free g c = c.next_row-end.ensures.goes.holds ∙ c.requires.free

pub take_rows-why-requires-clause-to_do : goal.take_rows-why-requires-clause-to_do
take_rows-why-requires-clause-to_do g c = ap (λ u. u.to_do) c.next_row-end.ensures.goes.debt ∙ c.requires.to_do
