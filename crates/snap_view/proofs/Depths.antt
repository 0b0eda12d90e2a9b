-- The depth of a tree by those below its top.
use Rattle.std.proofs.Common.{◌≡◌, ℕ, ◌+◌, ◌≤◌, max, Option, Some, None, ap, arith}
use Rattle.snap_prelude.specs.{depth, IsSubtree, root, RowCopy, Tree}
use Rattle.snap_view.specs.Tops.{HasTree, IsDepthOf}
use Rattle.snap_view.proofs.Balances.{TopAt, has_left, has_right}

-- what is so of each tree within a whole one that stands at this row
abbrev pub DepthAt : Tree → (row levels : ℕ) → Option ℕ → Type 0
DepthAt whole row levels o = (t : Tree) → IsSubtree t whole → root t ≡ row → IsDepthOf t levels o

module _ (whole : Tree) (row levels : ℕ) (copy : RowCopy) (tops : TopAt whole row copy) where
  module _ (below : ℕ) (is : levels ≡ below + 1) where
    pub left_deep : DepthAt whole copy.left below None → DepthAt whole row levels None
    unfolding has_left
    left_deep h t w at = let top = tops t w at in let b = has_left whole t copy w top in omega (arith, is, h top.left b.within b.at, ap depth top.is)

    pub right_deep : DepthAt whole copy.right below None → DepthAt whole row levels None
    unfolding has_right
    right_deep h t w at = let top = tops t w at in let b = has_right whole t copy w top in omega (arith, is, h top.right b.within b.at, ap depth top.is)

    module _ (left right : ℕ) (on_left : DepthAt whole copy.left below (Some left)) (on_right : DepthAt whole copy.right below (Some right)) where
      pub low_depth : HasTree whole row → max left right + 1 ≤ levels
      unfolding has_left has_right
      low_depth r =
          let top = tops r.tree r.within r.at in let a = has_left whole r.tree copy r.within top in let b = has_right whole r.tree copy r.within top in
          omega (arith, is, (on_left top.left a.within a.at).1, (on_right top.right b.within b.at).1)

      pub some_depth : (d : ℕ) → d ≡ max left right + 1 → DepthAt whole row levels (Some d)
      unfolding has_left has_right
      some_depth d e t w at =
          let top = tops t w at in let a = has_left whole t copy w top in let b = has_right whole t copy w top in
          let l = on_left top.left a.within a.at in let r = on_right top.right b.within b.at in
          (omega (arith, e, l.0, r.0, ap depth top.is), omega (arith, e, is, l.1, r.1))
