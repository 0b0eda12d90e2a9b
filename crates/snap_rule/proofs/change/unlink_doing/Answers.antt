use Rattle.snap_rule.proofs.InChange.{unlink_doing as the_unlink_doing}
use Rattle.snap_rule.proofs.change.unlink_doing.Goals as goal

pub returns : goal.returns
returns c = λ s parent d row ok may. the_unlink_doing s parent d row ok.tree ok.changes may
