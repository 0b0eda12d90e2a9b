-- Which trees are settled, by the heights below their tops, and the row that keeps a clone from it.
use Rattle.std.proofs.Common.{◌≡◌, ◌≢◌, ℕ, zero, suc, ◌+◌, ◌*◌, ◌^◌, ◌<◌, ◌≤◌, ◌⊎◌, inl, inr, Option, Some, None, IsTrue, is_some, refl, sym, ap, subst, arith}
use Rattle.std.proofs.lemmas.Grind.{pow_more}
use Rattle.snap_prelude.proofs.Common.{dec_lt, depth_size, dite, least_more, least_size}
use Rattle.snap_prelude.specs.{ArePlaced, Balance, depth, empty, HasValue, IsBalanced, IsCaused, IsFull, IsSettledTree}
use Rattle.snap_prelude.specs.{IsSubtree, IsWeighed, least, node, root, RowCopy, RowsOut, Settled, size, StampOut, Tree}
use Rattle.snap_view.specs.{Balances.IsHeightOf, Tops.HasTop, Tops.HasTree}
use Rattle.snap_view.proofs.Within.{within_below, within_each}

-- a row that is known to keep the clone from being settled
abbrev pub out_row : Balance → ℕ
out_row Settled = 0
out_row RowsOut = 0
out_row (StampOut row) = row

-- a deep settled tree has many nodes
least_power : (k d : ℕ) → 2 * k + 1 ≤ d → 2 ^ k ≤ least d
least_power zero zero l = absurd (omega arith)
least_power zero (suc zero) l = omega arith
least_power zero (suc (suc d)) l = omega arith
least_power (suc k) zero l = absurd (omega arith)
least_power (suc k) (suc zero) l = absurd (omega arith)
least_power (suc k) (suc (suc d)) l = omega (arith, least_power k d (omega arith), least_more d, pow_more 2 k)

pub few_levels : (t : Tree) → IsSettledTree t → size t < 2 ^ 32 → depth t ≤ 64
few_levels t h small = dite (dec_lt 64 (depth t))
    (λ l. absurd (omega (arith, least_power 32 (depth t) (omega arith), least_size t h (omega (arith, depth_size t)))))
    (λ nl. omega arith)

-- a tree with this top
module _ (t : Tree) (levels : ℕ) (copy : RowCopy) (top : HasTop t copy) where
  -- without a level left
  pub too_deep : levels ≡ 0 → IsHeightOf t levels None
  too_deep none h = omega (arith, none, ap depth top.is)

  settled_node : IsSettledTree t → IsSettledTree (node top.top top.left top.right)
  settled_node h = subst IsSettledTree top.is h

  pub left_deep : (below : ℕ) → levels ≡ below + 1 → IsHeightOf top.left below None → IsHeightOf t levels None
  left_deep below is deep h = omega (arith, is, deep (settled_node h).2, ap depth top.is)

  pub right_deep : (below : ℕ) → levels ≡ below + 1 → IsHeightOf top.right below None → IsHeightOf t levels None
  right_deep below is deep h = omega (arith, is, deep (settled_node h).3, ap depth top.is)

  module _ (below left right : ℕ) (on_left : IsHeightOf top.left below (Some left)) (on_right : IsHeightOf top.right below (Some right)) where
    full : (u : Tree) (r : ℕ) → r ≡ root u → r ≢ 0 → IsFull u
    full empty r e z = z e
    full (node m a b) r e z = tt

    pub is_height : IsBalanced copy.height left right → HasValue copy.value ⊎ (copy.left ≢ 0) × (copy.right ≢ 0) → IsHeightOf t levels (Some copy.height)
    is_height balanced needed = subst (λ (u : Tree). IsHeightOf u levels (Some copy.height)) (sym top.is) (
      (
        record { sum = omega (arith, balanced.sum, top.copied.height, on_left.1, on_right.1); left_low = omega (arith, balanced.left_low, on_left.1, on_right.1); right_low = omega (arith, balanced.right_low, on_left.1, on_right.1) },
        elim needed [
          | inl v ↦ inl (subst HasValue top.copied.value v)
          | inr z ↦ inr (full top.left copy.left top.copied.left z.0, full top.right copy.right top.copied.right z.1)
        ],
        on_left.0,
        on_right.0,
      ),
      top.copied.height,
    )

    pub unbalanced : (IsBalanced copy.height left right → ⊥) → IsHeightOf t levels None
    unbalanced not h = let q = (settled_node h).0 in absurd (not (record { sum = omega (arith, q.sum, top.copied.height, on_left.1, on_right.1); left_low = omega (arith, q.left_low, on_left.1, on_right.1); right_low = omega (arith, q.right_low, on_left.1, on_right.1) }))

    pub needless : (rows : ℕ) → ArePlaced rows t → ((HasValue copy.value ⊎ (copy.left ≢ 0) × (copy.right ≢ 0)) → ⊥) → IsHeightOf t levels None
    needless rows placed not h =
        let p = subst (ArePlaced rows) top.is placed in
        absurd (not (elim (settled_node h).1 [
          | inl v ↦ inl (subst HasValue (sym top.copied.value) v)
          | inr f ↦ inr (there top.left copy.left top.copied.left p.1 f.0, there top.right copy.right top.copied.right p.2 f.1)
        ]))
      where
        there : (u : Tree) (r : ℕ) → r ≡ root u → ArePlaced rows u → IsFull u → r ≢ 0
        there empty r e q f z = f
        there (node m a b) r e q f z = omega (arith, e, q.0.0, z)

-- what is so of each tree within a whole one that stands at this row
abbrev pub HeightAt : Tree → (row levels : ℕ) → Option ℕ → Type 0
HeightAt whole row levels o = (t : Tree) → IsSubtree t whole → root t ≡ row → IsHeightOf t levels o

abbrev pub TopAt : Tree → ℕ → RowCopy → Type 0
TopAt whole row copy = (t : Tree) → IsSubtree t whole → root t ≡ row → HasTop t copy

module _ (whole t : Tree) (copy : RowCopy) (within : IsSubtree t whole) (top : HasTop t copy) where
  abbrev below_top : IsSubtree top.left whole × IsSubtree top.right whole
  below_top = within_below whole top.top top.left top.right (subst (λ (z : Tree). IsSubtree z whole) top.is within)

  unfoldable pub has_left : HasTree whole copy.left
  has_left = record { tree = top.left; within = below_top.0; at = sym top.copied.left }

  unfoldable pub has_right : HasTree whole copy.right
  has_right = record { tree = top.right; within = below_top.1; at = sym top.copied.right }

module _ (whole : Tree) (row levels : ℕ) (copy : RowCopy) (tops : TopAt whole row copy) where
  pub none_deep : levels ≡ 0 → HeightAt whole row levels None
  none_deep none t w at = too_deep t levels copy (tops t w at) none

  module _ (below : ℕ) (is : levels ≡ below + 1) where
    pub none_left : HeightAt whole copy.left below None → HeightAt whole row levels None
    unfolding has_left
    none_left h t w at = let top = tops t w at in let b = has_left whole t copy w top in left_deep t levels copy top below is (h top.left b.within b.at)

    pub none_right : HeightAt whole copy.right below None → HeightAt whole row levels None
    unfolding has_right
    none_right h t w at = let top = tops t w at in let b = has_right whole t copy w top in right_deep t levels copy top below is (h top.right b.within b.at)

    module _ (left right : ℕ) (on_left : HeightAt whole copy.left below (Some left)) (on_right : HeightAt whole copy.right below (Some right)) where
      pub some_height : IsBalanced copy.height left right → HasValue copy.value ⊎ (copy.left ≢ 0) × (copy.right ≢ 0) → HeightAt whole row levels (Some copy.height)
      unfolding has_left has_right
      some_height balanced needed t w at =
          let top = tops t w at in let a = has_left whole t copy w top in let b = has_right whole t copy w top in
          is_height t levels copy top below left right (on_left top.left a.within a.at) (on_right top.right b.within b.at) balanced needed

      pub none_balanced : (IsBalanced copy.height left right → ⊥) → HeightAt whole row levels None
      unfolding has_left has_right
      none_balanced not t w at =
          let top = tops t w at in let a = has_left whole t copy w top in let b = has_right whole t copy w top in
          unbalanced t levels copy top below left right (on_left top.left a.within a.at) (on_right top.right b.within b.at) not

      pub none_needed : (rows : ℕ) → ArePlaced rows whole → (HasValue copy.value ⊎ (copy.left ≢ 0) × (copy.right ≢ 0) → ⊥) → HeightAt whole row levels None
      unfolding has_left has_right
      none_needed rows placed not t w at =
          let top = tops t w at in let a = has_left whole t copy w top in let b = has_right whole t copy w top in
          needless t levels copy top below left right (on_left top.left a.within a.at) (on_right top.right b.within b.at) rows (within_each (λ r. (0 < r) × (r ≤ rows)) whole t w placed) not

-- whether a height was found tells whether the tree is settled
pub found_tells : (t : Tree) (o : Option ℕ) → size t < 2 ^ 32 → IsHeightOf t 64 o → (IsTrue (is_some o) → IsSettledTree t) × (IsSettledTree t → IsTrue (is_some o))
found_tells t (Some h) small at = (λ _. at.0, λ _. refl)
found_tells t None small at = (λ e. absurd (cc), λ h. absurd (omega (arith, at h, few_levels t h small)))

-- the row that keeps a clone from being settled was handed out
pub out_low : (rows next : ℕ) (t : Tree) (b : Balance) (x : ℕ) → b ≡ StampOut x → IsWeighed rows next t b → (0 < out_row b) × (out_row b ≤ next) × (next ≤ rows)
out_low rows next t b x e w = let h = subst (IsCaused rows next t) e w.caused in let is : out_row b ≡ x = ap out_row e in (omega (arith, is, h.0), omega (arith, is, h.1), w.low)
