use Rattle.std.proofs.Common.{length, sym, ap, ◌∙◌}
use Rattle.snap_service.specs.Prelude.{Tables}
use Rattle.snap_service.proofs.Opening.{all_seated, first_many, more_far, none_far}
use Rattle.snap_service.proofs.service.Service.open.Goals as goal

pub loop-init : goal.loop-init
loop-init c = none_far c.in_ok-made.made.items c.new-tables.result.items c.args.rows c.args.kits c.in_ok-made.ensures c.new-tables.ensures.items

pub deal-requires : goal.deal-requires
deal-requires c = let o = c.in_ok-table.ensures in ap length o.all ∙ first_many c.in_ok-table.table.table c.args.rows c.args.kits c.args.kits ∙ sym c.loop.invariant.many

pub loop-preserved : goal.loop-preserved
loop-preserved c = more_far c.loop.made.items c.deal.new.kits.items c.loop.tables.items c.push.new.self.items c.in_ok-table.table c.in_ok-table.passes.items c.args.rows c.args.kits c.loop.counter c.loop.invariant c.in_ok-table.ensures c.in_ok-deal.ensures c.in_ok-push.ensures.items

pub returns-clause-seated : goal.returns-clause-seated
returns-clause-seated c =
    let tables : Tables = record { names = c.in_ok-copies.field-0.items; laid = c.loop.tables.items; rows = c.args.rows; kits = c.args.kits } in
    all_seated tables c.loop.made.items c.args.kits (record { many = c.loop.invariant.many; each = c.loop.invariant.each })
