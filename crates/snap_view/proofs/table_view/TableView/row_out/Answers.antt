use Rattle.std.proofs.Common.{◌≡◌, ◌≢◌, ◌≤◌, ◌<◌, ◌∙◌, ℕ, false, true, refl, sym, ap, subst, arith}
use Rattle.snap_prelude.specs.{Cloned, image, IsWeighed, StampOut}
use Rattle.snap_view.proofs.Balances.{out_low, out_row}
use Rattle.snap_view.proofs.table_view.TableView.row_out.Goals as goal

-- where the row is
bounds : (seat now : Cloned) (x : ℕ) → seat ≡ now → now.balance ≡ StampOut x → IsWeighed seat.rows seat.next (image seat) seat.balance → (0 < out_row now.balance) × (out_row now.balance ≤ now.next) × (now.next ≤ now.rows)
bounds seat now x is e w = out_low now.rows now.next (image now) now.balance x e (subst (λ (k : Cloned). IsWeighed k.rows k.next (image k) k.balance) is w)

pub loop-number-init : goal.loop-number-init
loop-number-init c = (refl, omega arith, (bounds c.self.inside.seat c.args.self.now c.requires.0 c.self.view_is c.requires.1 c.self.invariant.weighed).0)

pub is_out-requires : goal.is_out-requires
is_out-requires c =
    let b = bounds c.self.inside.seat c.args.self.now c.requires.0 c.self.view_is c.requires.1 c.self.invariant.weighed in
    let i = c.loop-number.invariant in omega (arith, c.of.ensures, i.2, b.1, b.2, ap (λ (k : Cloned). k.rows) i.0)

pub overflow_add-number : goal.overflow_add-number
overflow_add-number c =
    let b = bounds c.self.inside.seat c.args.self.now c.requires.0 c.self.view_is c.requires.1 c.self.invariant.weighed in
    let i = c.loop-number.invariant in let next = ap (λ (k : Cloned). k.next) c.self.view_is in
    let other : c.loop-number.number ≢ out_row c.args.self.now.balance = λ e.
    let same : c.requires.0 ≡ c.of.result = sym (c.of.ensures ∙ e ∙ ap out_row c.requires.1) in
    let is : false ≡ true = sym c.loop-number-test.true ∙ c.is_out.ensures.cause (ap (λ (k : Cloned). k.balance) i.0 ∙ c.requires.1 ∙ ap StampOut same) in cc in
    omega (arith, other, i.2, b.1, next, c.next-last.ensures, c.next-last.type_inv)

pub returns-clause-row : goal.returns-clause-row
returns-clause-row c =
    let b = bounds c.self.inside.seat c.args.self.now c.requires.0 c.self.view_is c.requires.1 c.self.invariant.weighed in
    let i = c.loop-number.invariant in (omega (arith, c.of-2.ensures, i.1), omega (arith, c.of-2.ensures, i.2, b.1))
