use Rattle.std.proofs.Common.{◌≡◌, ◌^◌, ◌<◌, Bool, IsTrue, sym, subst, arith}
use Rattle.snap_prelude.specs.{Cloned, image, IsSettledTree, root, size, Tree}
use Rattle.snap_view.proofs.{Balances.found_tells, Within.within_itself}
use Rattle.snap_view.proofs.table_view.TableView.is_settled.Goals as goal

pub returns-clause-settled : goal.returns-clause-settled
returns-clause-settled g c =
    let t : Tree = image c.args.self.now in let seat : Cloned = c.self.inside.seat in let w = c.self.invariant.weighed in
    let few : size (image seat) < 2 ^ 32 = omega (arith, w.few, w.low, c.self.invariant.at.1, c.count-all.ensures, c.count-all.type_inv) in
    let small : size t < 2 ^ 32 = subst (λ (k : Cloned). size (image k) < 2 ^ 32) c.self.view_is few in
    let top : root t ≡ c.root-row.result = sym (subst (λ (k : Cloned). c.root-row.result ≡ root (image k)) c.self.view_is c.root-row.ensures.root) in
    subst (λ (b : Bool). (IsTrue b → IsSettledTree t) × (IsSettledTree t → IsTrue b)) (sym c.is_some.ensures) (found_tells t c.settled_height.result small (c.settled_height.ensures.height t (within_itself t) top))
