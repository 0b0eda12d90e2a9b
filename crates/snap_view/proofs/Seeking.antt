-- The way down a clone's tree.
use Rattle.std.proofs.Common.{◌≡◌, ◌≢◌, ℕ, ◌+◌, ◌<◌, ◌≤◌, ◌^◌, Bool, true, false, Option, Some, None, refl, sym, ap, ◌∙◌, subst, arith, if◌then◌else◌}
use Rattle.snap_prelude.specs.{after, at, Between, Cloned, depth, find, image, IsCloneOf, IsSubtree}
use Rattle.snap_prelude.specs.{Left, Node, node, Pairs, Right, root, RowCopy, Side, size, Tree}
use Rattle.snap_prelude.proofs.Common.{child, depth_size, find_at, find_here}
use Rattle.snap_view.specs.Nearest.{reaches, IsNearest, turn, on, nearer_or, if_reached, nearest_row, levels}
use Rattle.snap_view.specs.{Tops.HasTop, Tops.HasTree, Tops.IsTopOf, Tops.rows_read, declared.way.WayDown.WayDown}
use Rattle.snap_view.proofs.{Levels.levels_within, Nearing.nearest_is, Nearing.same_nearest}
use Rattle.snap_view.proofs.Within.{within_itself, within_below, levels_below, levels_are, next_tree, next_within, next_root, next_depth, next_find}

-- the row below a copy on the way to the row nearest to `from`
abbrev pub next_row : Side → ℕ → RowCopy → ℕ
next_row side from copy = on (turn side from copy.key) copy.left copy.right

-- the top of each tree that stands at this row
abbrev pub TopsAt : Tree → ℕ → Option RowCopy → Type 0
TopsAt t row here = (u : Tree) → IsSubtree u t → root u ≡ row → IsTopOf u here

-- the search for the key goes on in a tree of which this is the top
pub record Seeks (t : Tree) (key : ℕ) (here : Option RowCopy) (before now : ℕ) : Type 0 where
  pub tree : Tree
  pub within : IsSubtree tree t
  pub top : IsTopOf tree here
  pub same : find tree key ≡ find t key
  pub cost : now + depth tree ≤ before + depth t + rows_read here

-- the way to the row nearest to `from` goes on in a tree of which this is the top, and has passed so many rows
pub record Descends (t : Tree) (side : Side) (from : ℕ) (here : Option RowCopy) (way : WayDown) (before now : ℕ) : Type 0 where
  pub tree : Tree
  pub within : IsSubtree tree t
  pub top : IsTopOf tree here
  pub same : nearest_row side from t ≡ nearer_or (nearest_row side from tree) way.row
  pub passed : ℕ
  pub all : passed + levels side from tree ≡ levels side from t
  pub counted : way.levels ≡ passed
  pub cost : now ≡ before + passed + rows_read here

pub seeks_from : (t : Tree) (key : ℕ) (here : Option RowCopy) (before now : ℕ) → IsTopOf t here → now ≡ before + rows_read here → Seeks t key here before now
seeks_from t key here before now top read = record { tree = t; within = within_itself t; top = top; same = refl; cost = omega (arith, read) }

pub descends_from : (t : Tree) (side : Side) (from : ℕ) (here : Option RowCopy) (before now : ℕ) → IsTopOf t here → now ≡ before + rows_read here → Descends t side from here (record { row = None; levels = 0 }) before now
descends_from t side from here before now top read = record {
  tree = t;
  within = within_itself t;
  top = top;
  same = go (nearest_row side from t);
  passed = 0;
  all = omega arith;
  counted = omega arith;
  cost = omega (arith, read);
}
  where
    go : (o : Option (ℕ × Option ℕ)) → o ≡ nearer_or o None
    go None = refl
    go (Some p) = refl

-- below a tree with this top
module _ (t u : Tree) (within : IsSubtree u t) (copy : RowCopy) (top : HasTop u copy) (side : Side) (from : ℕ) where
  node_within : IsSubtree (node top.top top.left top.right) t
  node_within = subst (λ (z : Tree). IsSubtree z t) top.is within

  pub below_within : IsSubtree (next_tree side from top.top top.left top.right) t
  below_within = next_within t top.top top.left top.right side from node_within

  pub below_root : root (next_tree side from top.top top.left top.right) ≡ next_row side from copy
  below_root = next_root top.top top.left top.right copy side from top.copied

  pub has_next : HasTree t (next_row side from copy)
  has_next = record { tree = next_tree side from top.top top.left top.right; within = below_within; at = below_root }

  -- the row on the far side
  pub has_far : HasTree t (on side copy.left copy.right)
  has_far = go side (within_below t top.top top.left top.right node_within)
    where
      go : (d : Side) → IsSubtree top.left t × IsSubtree top.right t → HasTree t (on d copy.left copy.right)
      go Left w = record { tree = top.left; within = w.0; at = sym top.copied.left }
      go Right w = record { tree = top.right; within = w.1; at = sym top.copied.right }

  pub next_fewer : (low high : ℕ) (next : Option RowCopy) → Between low high t → TopsAt t (next_row side from copy) next → levels_below t next < levels_below t (Some copy)
  next_fewer low high next h tops =
      let below : Tree = next_tree side from top.top top.left top.right in
      omega (arith, levels_are low high t u (Some copy) h within top, ap depth top.is, levels_are low high t below next h below_within (tops below below_within below_root), next_depth top.top top.left top.right side from)

pub seeks_on : (t : Tree) (key : ℕ) (copy : RowCopy) (before now : ℕ) (next : Option RowCopy) (after_it : ℕ) → Seeks t key (Some copy) before now → copy.key ≢ key → TopsAt t (next_row Right key copy) next → after_it ≡ now + rows_read next → Seeks t key next before after_it
seeks_on t key copy before now next after_it s ne tops read =
    let h = s.top in let n : Node = h.top in let below : Tree = next_tree Right key n h.left h.right in
    let at = below_within t s.tree s.within copy h Right key in
    let other : n.key ≢ key = λ e. ne (h.copied.key ∙ e) in record {
      tree = below;
      within = at;
      top = tops below at (below_root t s.tree s.within copy h Right key);
      same = sym (next_find n h.left h.right key other) ∙ sym (ap (λ (z : Tree). find z key) h.is) ∙ s.same;
      cost = omega (arith, s.cost, ap depth h.is, next_depth n h.left h.right Right key, read);
    }

pub seeks_found : (t : Tree) (key : ℕ) (copy : RowCopy) (before now : ℕ) → Seeks t key (Some copy) before now → copy.key ≡ key → (copy.value ≡ find t key) × (now ≤ before + depth t)
seeks_found t key copy before now s e =
    let h = s.top in (h.copied.value ∙ sym (find_here h.top h.left h.right key (sym h.copied.key ∙ e)) ∙ sym (ap (λ (z : Tree). find z key) h.is) ∙ s.same, omega (arith, s.cost, ap depth h.is))

pub seeks_none : (t : Tree) (key before now : ℕ) → Seeks t key None before now → (None ≡ find t key) × (now ≤ before + depth t)
seeks_none t key before now s = (ap (λ (z : Tree). find z key) (sym s.top) ∙ s.same, omega (arith, s.cost))

pub descends_on : (t : Tree) (side : Side) (from : ℕ) (copy : RowCopy) (way way' : WayDown) (before now : ℕ) (next : Option RowCopy) (after_it : ℕ) → Descends t side from (Some copy) way before now
    → way'.row ≡ (if reaches side from copy.key then Some (copy.key, copy.value) else way.row) → way'.levels ≡ way.levels + 1
    → TopsAt t (next_row side from copy) next → after_it ≡ now + rows_read next → Descends t side from next way' before after_it
descends_on t side from copy way way' before now next after_it s row counts tops read =
    let h = s.top in let n : Node = h.top in let below : Tree = next_tree side from n h.left h.right in
    let at = below_within t s.tree s.within copy h side from in record {
      tree = below;
      within = at;
      top = tops below at (below_root t s.tree s.within copy h side from);
      same = s.same ∙ ap (λ (z : Tree). nearer_or (nearest_row side from z) way.row) h.is
          ∙ ap (λ (o : Option (ℕ × Option ℕ)). nearer_or (nearer_or o (if_reached side from (n.key, n.value))) way.row) (sym (rows_on (turn side from n.key) h.left h.right))
          ∙ or_assoc (nearest_row side from below) (if_reached side from (n.key, n.value)) way.row ∙ ap (nearer_or (nearest_row side from below)) (sym (row ∙ better h.copied.key h.copied.value));
      passed = s.passed + 1;
      all = omega (arith, s.all, ap (levels side from) h.is, levels_on (turn side from n.key) h.left h.right);
      counted = omega (arith, s.counted, counts);
      cost = omega (arith, s.cost, read);
    }
  where
    rows_on : (d : Side) (a b : Tree) → nearest_row side from (child d a b) ≡ on d (nearest_row side from a) (nearest_row side from b)
    rows_on Left a b = refl
    rows_on Right a b = refl

    levels_on : (d : Side) (a b : Tree) → levels side from (child d a b) ≡ on d (levels side from a) (levels side from b)
    levels_on Left a b = refl
    levels_on Right a b = refl

    or_assoc : (x y z : Option (ℕ × Option ℕ)) → nearer_or (nearer_or x y) z ≡ nearer_or x (nearer_or y z)
    or_assoc None y z = refl
    or_assoc (Some p) y z = refl

    better : {k : ℕ} {v : Option ℕ} → copy.key ≡ k → copy.value ≡ v → (if reaches side from copy.key then Some (copy.key, copy.value) else way.row) ≡ nearer_or (if_reached side from (k, v)) way.row
    better {k} {v} e f = (λ i. if reaches side from (e i) then Some (e i, f i) else way.row) ∙ go (reaches side from k)
      where
        go : (b : Bool) → (if b then Some (k, v) else way.row) ≡ nearer_or (if b then Some (k, v) else None) way.row
        go true = refl
        go false = refl

pub descends_end : (t : Tree) (side : Side) (from : ℕ) (way : WayDown) (before now : ℕ) → Descends t side from None way before now → record { row : way.row ≡ nearest_row side from t; counts : way.levels ≡ levels side from t; cost : now ≡ before + levels side from t }
descends_end t side from way before now s =
    let ends : levels side from s.tree ≡ 0 = ap (levels side from) s.top in record {
      row = sym (s.same ∙ ap (λ (z : Tree). nearer_or (nearest_row side from z) way.row) s.top);
      counts = omega (arith, s.all, s.counted, ends);
      cost = omega (arith, s.all, s.cost, ends);
    }

-- no more rows were passed than the tree has
pub descends_low : (t : Tree) (side : Side) (from : ℕ) (copy : RowCopy) (way : WayDown) (before now : ℕ) → Descends t side from (Some copy) way before now → way.levels + 1 ≤ size t
descends_low t side from copy way before now s = omega (arith, s.all, s.counted, ap (levels side from) s.top.is, levels_within side from t, depth_size t)

-- what the tree tells of the map
pub value_told : (c : Cloned) (key : ℕ) → IsCloneOf c.base (image c) → find (image c) key ≡ at (after c.base) key
value_told c key h = find_at 0 (2 ^ 64) key (image c) h.ordered ∙ ap (λ (m : Pairs). at m key) h.tells

pub nearest_told : (c : Cloned) (side : Side) (from : ℕ) (row : Option (ℕ × Option ℕ)) → IsCloneOf c.base (image c) → row ≡ nearest_row side from (image c) → IsNearest (at (after c.base)) side from row
nearest_told c side from row h e = subst (IsNearest (at (after c.base)) side from) (sym e) (same_nearest (find (image c)) (at (after c.base)) side from (nearest_row side from (image c)) (λ k. value_told c k h) (nearest_is side from 0 (2 ^ 64) (image c) h.ordered))
