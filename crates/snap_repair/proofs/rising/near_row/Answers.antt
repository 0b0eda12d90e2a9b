use Rattle.snap_repair.proofs.GoingUp.{left_way, may_end_up}
use Rattle.snap_repair.proofs.rising.near_row.Goals as goal

pub returns-clause-way : goal.returns-clause-way
returns-clause-way c = left_way c.args.rows.now.rows c.extend_to.new.pass.view c.extend_to.new.way c.go_up.new.self c.go_up.result c.go_up.ensures.goes c.extend_to.ensures.way

pub returns-clause-row : goal.returns-clause-row
returns-clause-row c = may_end_up c.args.rows.now.rows c.extend_to.new.pass.view c.args.key c.extend_to.new.way c.go_up.new.self c.go_up.result c.go_up.ensures.goes c.extend_to.ensures.way
