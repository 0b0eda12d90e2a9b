use Rattle.std.proofs.Common.{◌≡◌, sym, subst}
use Rattle.snap_prelude.specs.{Cloned, image, root, Tree}
use Rattle.snap_view.proofs.{Looking.first_ahead, Within.within_itself}
use Rattle.snap_view.proofs.table_view.TableView.rows_from.Goals as goal

pub returns-clause-ahead : goal.returns-clause-ahead
returns-clause-ahead g c =
    let t : Tree = image c.args.self.now in
    let top = sym (subst (λ (k : Cloned). c.root-row.result ≡ root (image k)) c.self.view_is c.root-row.ensures.root) in
    first_ahead c.args.side c.args.from t c.none-ahead.result c.look_down.new.ahead c.none-ahead.ensures.rows c.none-ahead.ensures.lost (c.look_down.ensures.ahead t (within_itself t) top)
