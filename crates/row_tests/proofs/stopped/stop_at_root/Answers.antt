use Rattle.std.proofs.Common.{rules}
use Rattle.row_tests.proofs.Freeing.{holds_root}
use Rattle.row_tests.proofs.stopped.stop_at_root.Goals as goal
use Rattle.row_tests.specs.Stopping.{MayUnlinkRoot}

pub free_root-requires : goal.free_root-requires
free_root-requires g c =
    let a = c.remove.new.pass in let b = c.take_root.new.pass in let e = c.expect-edge.result in
    let may : MayUnlinkRoot c.args.rows.now a b e = search rules in
    holds_root c.args.rows.now a b c.unlink_slowly.new.pass e e.parent.row e.child.row e.child.row c.remove.ensures.writing.stage may c.unlink_slowly.ensures.unlinked.keeps
