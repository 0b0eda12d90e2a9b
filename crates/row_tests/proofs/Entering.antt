-- A write that was entered.
use Rattle.std.proofs.Common.{false, ap, ◌∙◌}
use Rattle.snap_epoch.specs.Waits.{HasEntered}
use Rattle.snap_repair.specs.Answers.{IsMending}
use Rattle.snap_prelude.specs.{Known}
use Rattle.snap_table.specs.Calls.{IsIdle}

pub entered_mending : (a b : Known) → IsIdle a.view → HasEntered a b → IsMending b.view
entered_mending a b idle h = record { writing = (false, false, ap (λ (k : Known). k.view.stage) h.is); whole = ap (λ (k : Known). k.view.doing) h.is ∙ idle.whole }
