use Rattle.std.proofs.Common.{◌+◌, sym, subst}
use Rattle.snap_io.specs.Causes.{Rose}
use Rattle.snap_plan.specs.Reading.{IsRead}
use Rattle.snap_plan.specs.Stops.{IsUnread}
use Rattle.snap_plan.proofs.Inputs.{HasRead, read_more, read_names, read_whole, unread_stops}
use Rattle.snap_plan.proofs.Stopping.{if_err, read_on, rose_behind}
use Rattle.snap_plan.proofs.reading.read_all.Goals as goal

pub returns-in_err-input-clause-stops : goal.returns-in_err-input-clause-stops
returns-in_err-input-clause-stops g c =
    let files = g.S.Shelf.files c.args.shelf.now in
    let stop = c.in_err-input.field-0.0 in
    let was = c.loop-name.invariant in
    let rose = Rose (g.S.Shelf.read_faults c.loop-name.shelf) (g.S.Shelf.read_faults c.read_input.new.shelf) in
    if_err _ _ stop c.from_residual.ensures.1
    (unread_stops files c.args.most c.args.names.now c.loop-name.name-index c.loop-name.inputs.items c.name-item.result rose _ stop was.read c.loop-name-test.true c.name-item.is
    (λ risen. rose_behind _ _ _ was.only_reads.later risen) (subst (λ fs. IsUnread c.name-item.result fs rose stop) was.only_reads.same_files c.in_err-input.ensures.stops))

pub loop-name-preserved : goal.loop-name-preserved
loop-name-preserved g c =
    let files = g.S.Shelf.files c.args.shelf.now in
    let was = c.loop-name.invariant in
    let told = c.in_ok-input.ensures in
    let read = subst (λ fs. IsRead c.args.most fs c.name-item.result c.in_ok-input.input.1) was.only_reads.same_files told.bytes in
    record {
      read = subst (HasRead files c.args.most c.args.names.now (c.loop-name.name-index + 1)) (sym c.in_ok-add.ensures)
          (read_more files c.args.most c.args.names.now c.loop-name.name-index c.loop-name.inputs.items c.name-item.result c.in_ok-input.input was.read c.loop-name-test.true c.name-item.is told.named read);
      only_reads = read_on was.only_reads told.only_reads;
    }

pub returns-clause-inputs : goal.returns-clause-inputs
returns-clause-inputs g c =
    read_whole (g.S.Shelf.files c.args.shelf.now) c.args.most c.args.names.now c.loop-name.name-index c.loop-name.inputs.items c.loop-name.invariant.read c.loop-name-test.false

pub returns-clause-names : goal.returns-clause-names
returns-clause-names g c =
    read_names (g.S.Shelf.files c.args.shelf.now) c.args.most c.args.names.now c.loop-name.name-index c.loop-name.inputs.items c.loop-name.invariant.read c.loop-name-test.false
