use Rattle.snap_rule.proofs.LeftAlone.{own_leaves, take_leaves, free_leaves, header_leaves, leaf_leaves, store_leaves, copy_leaves, unlink_leaves, splice_leaves, shrink_leaves, lower_leaves, lift_leaves, raise_leaves, clear_leaves, height_leaves, absent_leaves}
use Rattle.snap_rule.proofs.passes.held_leave.Goals as goal

pub returns : goal.returns
returns c = λ s who ok. record { own = own_leaves s who; take = take_leaves s who; free = free_leaves s who; header = header_leaves s who; leaf = leaf_leaves s who; store = store_leaves s who; copy = copy_leaves s who; unlink = unlink_leaves s who ok.tree ok.changes; splice = splice_leaves s who; shrink = shrink_leaves s who; lower = lower_leaves s who; lift = lift_leaves s who; raise = raise_leaves s who; clear = clear_leaves s who; height = height_leaves s who; absent = absent_leaves s who }
