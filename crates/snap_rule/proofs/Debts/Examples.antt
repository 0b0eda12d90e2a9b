-- Why two clauses on debts are needed.
use Rattle.std.proofs.Common.{◌≡◌, ℕ, ◌+◌, inl, inr, Some, refl, ap, ◌∙◌, subst, arith}
use Rattle.snap_rule.specs.Debt.{mark}
use Rattle.snap_rule.specs.Tree.{OnWay}
use Rattle.snap_rule.specs.declared.debt.Mark.{Mark}
use Rattle.snap_rule.specs.Examples.{ListedLeaves, EarlyStamp, turning, after_turn}
use Rattle.snap_rule.proofs.Examples.{leaves_way}
use Rattle.snap_rule.proofs.Trees.{way_stands}

pub listed_leaves : ListedLeaves
listed_leaves =
    let w = leaves_way in
    record {
      may = w.may;
      was = (inl refl, record { stands = way_stands turning.tree 3 1 w.was; own = w.own }, record { key = 3; to_do = refl; way = w.was });
      still = inl refl;
      is_not = λ p. w.is_not (inr (inl ((λ u. w.own (record { is_row = u.is_row; older = u.older })), subst (λ (k : ℕ). OnWay after_turn.tree k 1) (three p.key p.to_do) p.way)));
    }
  where
    three : (k : ℕ) → Some 3 ≡ Some k → k ≡ 3
    three k e = cc e

pub early_stamp : EarlyStamp
early_stamp s e = (
  (λ n h. elim h [ inl y ↦ (let q : s.stamp n ≡ 0 = ap s.stamp (ap (λ (m : Mark). m.row) y) ∙ e in let r : s.stamp n ≡ 2 = ap (λ (m : Mark). m.stamp) y in omega arith) | inr y ↦ y ]),
  inl (ap (λ (x : ℕ). mark 1 (x + 2)) e),
  λ p. cc (p.to_do),
)
