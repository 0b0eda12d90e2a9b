-- The tree that no pass owes.
use Rattle.std.proofs.Common.{◌≡◌, ◌≢◌, ℕ, zero, suc, ◌<◌, ◌⊎◌, inl, inr, Option, Some, None, refl, ap, sym, ◌∙◌, arith}
use native.Mathlib.Decide.{dec_lt}
use mathlib.Core.Logic.{dite}
use Rattle.snap_rule.specs.Tree.{Tree, root, Stands, value_word}
use Rattle.snap_stamp.specs.declared.side.Side.TheVariants.{Left, Right}
use Rattle.snap_rule.specs.Tree.Tree.{empty, node}
use Rattle.snap_rule.specs.State.{State, IsImage, Represents}
use Rattle.snap_rule.specs.Rule.{TableOk}
use Rattle.snap_rule.specs.Kinds.Clones.{cut, MayCut}
use Rattle.snap_rule.specs.Debt.{OwesNone, DebtOk}
use Rattle.snap_rule.specs.Settled.{height_at, child_height, IsSettled, top_height, HasValue, IsFull, IsSettledTree}
use Rattle.snap_rule.specs.Room.{HasReason, HasRoom}
use Rattle.snap_rule.specs.declared.debt.Debt.{Debt}
use Rattle.snap_rule.proofs.Evolving.Telling.{cut_image}
use Rattle.snap_rule.proofs.Debts.{balanced_same}
use Rattle.snap_rule.proofs.Debts.Room.{stamp_found}

-- where no pass owes, the tree is settled
module _ (s : State) where
  top_at : (t : Tree) (c : ℕ) → Represents s s.links t → c ≡ root t → height_at s.height c ≡ top_height t
  top_at empty c v e = ap (height_at s.height) e
  top_at (node m a b) c v e = ap (height_at s.height) e ∙ positive m.row v.0.is_row ∙ v.0.height
    where
      positive : (r : ℕ) → 0 < r → height_at s.height r ≡ s.height r
      positive zero p = absurd (omega (arith, p))
      positive (suc r) p = refl

  full : (t : Tree) (c : ℕ) → c ≡ root t → c ≢ 0 → IsFull t
  full empty c e z = z e
  full (node m a b) c e z = tt

  has_value : (o : Option ℕ) (x : ℕ) → x ≡ value_word o → x ≢ 0 → HasValue o
  has_value None x e z = z e
  has_value (Some v) x e z = tt

  settled_tree : (t : Tree) → Represents s s.links t → ((n : ℕ) → Stands n t → IsSettled s n) → IsSettledTree t
  settled_tree empty v f = tt
  settled_tree (node m a b) v f =
      let q = f m.row (inl refl) in
      let x : child_height s m.row Left ≡ top_height a = top_at a (s.links m.row Left) v.3 v.1 in
      let y : child_height s m.row Right ≡ top_height b = top_at b (s.links m.row Right) v.4 v.2 in (
        balanced_same (s.height m.row) (child_height s m.row Left) (child_height s m.row Right) m.height (top_height a) (top_height b) (sym v.0.height) (sym x) (sym y) q.0,
        elim q.1 [ inl z ↦ inl (has_value m.value (s.value m.row) v.0.value z) | inr z ↦ inr (full a (s.links m.row Left) v.1 z.0, full b (s.links m.row Right) v.2 z.1) ],
        settled_tree a v.3 (λ n h. f n (inr (inl h))),
        settled_tree b v.4 (λ n h. f n (inr (inr h))),
      )

pub all_settled : (s : State) (debts : ℕ → Debt) → TableOk s → DebtOk s debts → ((j : ℕ) → OwesNone s (debts j)) → IsSettledTree s.tree
all_settled s debts ok debt none = settled_tree s s.tree ok.tree.reads (λ n h. elim (debt.settled n h) [ inl a ↦ a | inr o ↦ absurd (none o.pass n o.owes) ])

pub cut_cause : (s : State) (debts : ℕ → Debt) (next rows : ℕ) → TableOk s → MayCut s → (HasRoom s next rows → DebtOk s debts)
    → ((j : ℕ) → OwesNone s (debts j))
    → IsImage (cut s) (s.link 0 Right) s.tree × (IsSettledTree s.tree ⊎ HasReason s next rows)
cut_cause s debts next rows ok may debt none = (
  cut_image s ok.tree ok.links ok.changes may,
  dite (dec_lt next rows)
      (λ l. elim (stamp_found s next rows ok l) [ inl r ↦ inl (all_settled s debts ok (debt r) none) | inr o ↦ inr (inr o) ])
      (λ z. inr (inl (let w : ¬ next < rows = z in omega arith))),
)
