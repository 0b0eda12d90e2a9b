use Rattle.snap_text.proofs.grammar.read_command.Goals as goal

pub returns-in-Use : goal.returns-in-Use
returns-in-Use c = rw c.in-Use.is (c.read_use.ensures c.args.clones.now)

pub returns-in-Put : goal.returns-in-Put
returns-in-Put c = rw c.in-Put.is (c.read_put.ensures c.args.clones.now)

pub returns-in-Remove : goal.returns-in-Remove
returns-in-Remove c = rw c.in-Remove.is (c.read_remove.ensures c.args.clones.now)

pub returns-in-Get : goal.returns-in-Get
returns-in-Get c = rw c.in-Get.is (c.read_get.ensures c.args.clones.now)

pub returns-in-Clone : goal.returns-in-Clone
returns-in-Clone c = rw c.in-Clone.is c.read_clone.ensures

pub returns-in-Drop : goal.returns-in-Drop
returns-in-Drop c = rw c.in-Drop.is c.read_drop.ensures

pub returns-in-Count : goal.returns-in-Count
returns-in-Count c = rw c.in-Count.is c.read_count.ensures

pub returns-in-Export : goal.returns-in-Export
returns-in-Export c = rw c.in-Export.is c.read_export.ensures

pub returns-in-Load : goal.returns-in-Load
returns-in-Load c = rw c.in-Load.is (c.read_load.ensures c.args.clones.now)
