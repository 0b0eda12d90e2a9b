use Rattle.std.proofs.Common.{◌≡◌, sym, subst}
use Rattle.snap_prelude.specs.{Cloned, image, root}
use Rattle.snap_view.proofs.Within.{within_itself}
use Rattle.snap_view.proofs.table_view.TableView.low_depth.Goals as goal

pub returns-clause-depth : goal.returns-clause-depth
returns-clause-depth g c =
    let top = sym (subst (λ (k : Cloned). c.root-row.result ≡ root (image k)) c.self.view_is c.root-row.ensures.root) in
    c.depth_at.ensures.depth (image c.args.self.now) (within_itself (image c.args.self.now)) top
