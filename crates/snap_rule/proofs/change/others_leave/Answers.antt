use Rattle.snap_rule.proofs.LeftAlone.{own_apart as the_own_apart, lock_apart as the_lock_apart, header_apart as the_header_apart, leaf_apart as the_leaf_apart, store_apart as the_store_apart, copy_apart as the_copy_apart, unlink_apart as the_unlink_apart, splice_apart as the_splice_apart, shrink_apart as the_shrink_apart, lower_apart as the_lower_apart, lift_apart as the_lift_apart, raise_apart as the_raise_apart, clear_apart as the_clear_apart, height_apart as the_height_apart}
use Rattle.snap_rule.proofs.change.others_leave.Goals as goal

pub returns : goal.returns
returns c = λ s n ok. record { own = the_own_apart s n; lock = the_lock_apart s n; header = the_header_apart s n; leaf = the_leaf_apart s n; store = the_store_apart s n; copy = the_copy_apart s n; unlink = λ parent d row. the_unlink_apart s n parent d row ok.tree ok.changes; splice = the_splice_apart s n; shrink = the_shrink_apart s n; lower = the_lower_apart s n; lift = the_lift_apart s n; raise = the_raise_apart s n; clear = the_clear_apart s n; height = the_height_apart s n }
