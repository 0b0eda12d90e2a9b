-- The rows that lie ahead from a key on in an ordered tree: the last of them is the nearest, and behind it the way goes
-- on below it.
use Rattle.std.proofs.Common.{◌≡◌, ℕ, ◌+◌, ◌<◌, ◌≤◌, ◌⊎◌, Bool, true, false, cond, inl, inr, List, [], ◌∷◌, ◌++◌, length, Option, Some, None, max, refl, sym, ap, ◌∙◌, subst, arith, length-append, append_assoc}
use Rattle.snap_prelude.proofs.Common.{child, le-leb, lt-leb}
use Rattle.snap_prelude.specs.{Between, depth, empty, IsSubtree, Left, Node}
use Rattle.snap_prelude.specs.{node, other, Right, root, Side, Toward, Tree}
use Rattle.snap_view.specs.{Ahead.AddsAhead, Ahead.rows_ahead, Nearest.IsBehind, Nearest.nearer_or, Nearest.nearest_row}
use Rattle.snap_view.specs.{Nearest.on, Nearest.reaches, Nearest.turn, declared.ahead.Ahead.Ahead}
use Rattle.snap_view.specs.{declared.ahead.RowsAhead.RowsAhead}
use Rattle.snap_view.proofs.Within.{within_itself}

abbrev pub own : Side → Node → Tree → Tree → Ahead
own side n a b = record { key = n.key; value = n.value; beyond = on side (root a) (root b) }

-- no more than levels
pub few_ahead : (side : Side) (from : ℕ) (t : Tree) → length (rows_ahead side from t) ≤ depth t
few_ahead side from empty = omega arith
few_ahead side from (node n a b) = go (reaches side from n.key) (turn side from n.key) (few_ahead side from a) (few_ahead side from b)
  where
    go : (r : Bool) (d : Side) → length (rows_ahead side from a) ≤ depth a → length (rows_ahead side from b) ≤ depth b → length (cond r (own side n a b ∷ []) [] ++ on d (rows_ahead side from a) (rows_ahead side from b)) ≤ max (depth a) (depth b) + 1
    go true Left l r = omega arith
    go true Right l r = omega arith
    go false Left l r = omega arith
    go false Right l r = omega arith

pub none_ahead : (side : Side) (from : ℕ) (t : Tree) → rows_ahead side from t ≡ [] → nearest_row side from t ≡ None
none_ahead side from empty e = refl
none_ahead side from (node n a b) e = go (reaches side from n.key) refl (none_ahead side from a) (none_ahead side from b) e
  where
    below : (d : Side) → (rows_ahead side from a ≡ [] → nearest_row side from a ≡ None) → (rows_ahead side from b ≡ [] → nearest_row side from b ≡ None) → on d (rows_ahead side from a) (rows_ahead side from b) ≡ [] → on d (nearest_row side from a) (nearest_row side from b) ≡ None
    below Left l r z = l z
    below Right l r z = r z

    go : (r : Bool) → reaches side from n.key ≡ r → (rows_ahead side from a ≡ [] → nearest_row side from a ≡ None) → (rows_ahead side from b ≡ [] → nearest_row side from b ≡ None)
        → rows_ahead side from (node n a b) ≡ [] → nearest_row side from (node n a b) ≡ None
    go true is l r z = absurd (let q = rw is at z in cc q)
    go false is l r z = rw is (ap (λ (o : Option (ℕ × Option ℕ)). nearer_or o None) (below side l r (rw is at z)))

-- the last of the rows ahead, which is the nearest, and what lies ahead behind it
pub record Popped (side : Side) (from low high : ℕ) (t : Tree) (xs : List Ahead) (x : Ahead) : Type 0 where
  pub row : nearest_row side from t ≡ Some (x.key, x.value)
  pub low_key : low ≤ x.key
  pub high_key : x.key < high
  pub tree : Tree
  pub within : IsSubtree tree t
  pub at : root tree ≡ x.beyond
  pub same : (next : ℕ) → IsBehind side x.key (Some next) → rows_ahead side next t ≡ xs ++ rows_ahead side next tree

abbrev Pops : Side → (from low high : ℕ) → Tree → Type 0
Pops side from low high t = (xs : List Ahead) (x : Ahead) → rows_ahead side from t ≡ xs ++ (x ∷ []) → Popped side from low high t xs x

-- whether a row lies ahead behind another
away : (side : Side) (key next : ℕ) → IsBehind side key (Some next) → reaches side next key ≡ false
away Left key next b = lt-leb key next (omega (arith, b))
away Right key next b = lt-leb next key (omega (arith, b.0))

before_it : (side : Side) (key n next : ℕ) → Toward (other side) key n → IsBehind side key (Some next) → reaches side next n ≡ true
before_it Left key n next l b = le-leb n next (omega (arith, l, b))
before_it Right key n next l b = le-leb next n (omega (arith, l, b.0))

past_it : (side : Side) (key n next : ℕ) → Toward side key n → IsBehind side key (Some next) → reaches side next n ≡ false
past_it Left key n next l b = lt-leb n next (omega (arith, l, b))
past_it Right key n next l b = lt-leb next n (omega (arith, l, b.0))

module _ (side : Side) (from low high : ℕ) (n : Node) (a b : Tree) (between : Between low high (node n a b)) where
  none_on : (d : Side) → on d (rows_ahead side from a) (rows_ahead side from b) ≡ [] → on d (nearest_row side from a) (nearest_row side from b) ≡ None
  none_on Left e = none_ahead side from a e
  none_on Right e = none_ahead side from b e

  child_root : (d : Side) → root (child d a b) ≡ on d (root a) (root b)
  child_root Left = refl
  child_root Right = refl

  child_ahead : (d : Side) (next : ℕ) → on d (rows_ahead side next a) (rows_ahead side next b) ≡ rows_ahead side next (child d a b)
  child_ahead Left next = refl
  child_ahead Right next = refl

  child_within : (d : Side) → IsSubtree (child d a b) (node n a b)
  child_within Left = inr (inl (within_itself a))
  child_within Right = inr (inr (within_itself b))

  -- the same below the node, on one side
  record Below (d : Side) (xs : List Ahead) (x : Ahead) : Type 0 where
    row : on d (nearest_row side from a) (nearest_row side from b) ≡ Some (x.key, x.value)
    low_key : low ≤ x.key
    high_key : x.key < high
    toward : Toward d x.key n.key
    tree : Tree
    within : IsSubtree tree (node n a b)
    at : root tree ≡ x.beyond
    same : (next : ℕ) → IsBehind side x.key (Some next) → on d (rows_ahead side next a) (rows_ahead side next b) ≡ xs ++ rows_ahead side next tree

  below : (d : Side) → Pops side from low n.key a → Pops side from (n.key + 1) high b → (xs : List Ahead) (x : Ahead) → on d (rows_ahead side from a) (rows_ahead side from b) ≡ xs ++ (x ∷ []) → Below d xs x
  below Left l r xs x e = let p = l xs x e in record { row = p.row; low_key = p.low_key; high_key = omega (arith, p.high_key, between.1); toward = p.high_key; tree = p.tree; within = inr (inl p.within); at = p.at; same = p.same }
  below Right l r xs x e = let p = r xs x e in record { row = p.row; low_key = omega (arith, p.low_key, between.0); high_key = p.high_key; toward = omega (arith, p.low_key); tree = p.tree; within = inr (inr p.within); at = p.at; same = p.same }

  pops_node : (r : Bool) → reaches side from n.key ≡ r → Pops side from low n.key a → Pops side from (n.key + 1) high b → Pops side from low high (node n a b)
  pops_node true is l r [] x e =
      let first : own side n a b ≡ x = let q = rw is at e in cc q in
      let rest : on (other side) (rows_ahead side from a) (rows_ahead side from b) ≡ [] = let q = rw is at e in cc q in
      subst (λ (y : Ahead). Popped side from low high (node n a b) [] y) first (record {
        row = rw is (ap (λ (o : Option (ℕ × Option ℕ)). nearer_or o (Some (n.key, n.value))) (none_on (other side) rest));
        low_key = between.0;
        high_key = between.1;
        tree = child side a b;
        within = child_within side;
        at = child_root side;
        same = λ next b. let gone : reaches side next n.key ≡ false = away side n.key next b in rw gone (child_ahead side next);
      })
  pops_node true is l r (y ∷ ys) x e =
      let first : own side n a b ≡ y = let q = rw is at e in cc q in
      let rest : on (other side) (rows_ahead side from a) (rows_ahead side from b) ≡ ys ++ (x ∷ []) = let q = rw is at e in cc q in
      let p = below (other side) l r ys x rest in record {
        row = rw is (ap (λ (o : Option (ℕ × Option ℕ)). nearer_or o (Some (n.key, n.value))) p.row);
        low_key = p.low_key;
        high_key = p.high_key;
        tree = p.tree;
        within = p.within;
        at = p.at;
        same = λ next b. let still : reaches side next n.key ≡ true = before_it side x.key n.key next p.toward b in rw still (λ i. first i ∷ p.same next b i);
      }
  pops_node false is l r xs x e =
      let rest : on side (rows_ahead side from a) (rows_ahead side from b) ≡ xs ++ (x ∷ []) = rw is at e in
      let p = below side l r xs x rest in record {
        row = rw is (ap (λ (o : Option (ℕ × Option ℕ)). nearer_or o None) p.row);
        low_key = p.low_key;
        high_key = p.high_key;
        tree = p.tree;
        within = p.within;
        at = p.at;
        same = λ next b. let gone : reaches side next n.key ≡ false = past_it side x.key n.key next p.toward b in rw gone (p.same next b);
      }

pub pops : (side : Side) (from low high : ℕ) (t : Tree) → Between low high t → Pops side from low high t
pops side from low high empty h [] x e = absurd (cc e)
pops side from low high empty h (y ∷ ys) x e = absurd (cc e)
pops side from low high (node n a b) h xs x e = pops_node side from low high n a b h (reaches side from n.key) refl (pops side from low n.key a h.2) (pops side from (n.key + 1) high b h.3) xs x e

-- ways down that follow one another
pub leads_none : (ahead : RowsAhead) → AddsAhead ahead ahead []
leads_none ahead = record { kept = λ e. (e, sym (ended ahead.rows.items)); lost = λ e. inl e }
  where
    ended : (xs : List Ahead) → xs ++ [] ≡ xs
    ended [] = refl
    ended (x ∷ xs) = ap (λ (l : List Ahead). x ∷ l) (ended xs)

pub leads_on : (a b c : RowsAhead) (xs ys : List Ahead) → AddsAhead a b xs → AddsAhead b c ys → AddsAhead a c (xs ++ ys)
leads_on a b c xs ys f g = record {
  kept = λ e. let h = g.kept e in let i = f.kept h.0 in (i.0, h.1 ∙ ap (λ (l : List Ahead). l ++ ys) i.1 ∙ append_assoc a.rows.items xs ys);
  lost = λ e. go b.lost refl (g.lost e);
}
  where
    many : length (xs ++ ys) ≡ length xs + length ys
    many = length-append xs ys

    go : (r : Bool) → b.lost ≡ r → (b.lost ≡ true) ⊎ (64 < length b.rows.items + length ys) → (a.lost ≡ true) ⊎ (64 < length a.rows.items + length (xs ++ ys))
    go true is h = elim (f.lost is) [
      | inl l ↦ inl l
      | inr m ↦ inr (omega (arith, m, many))
    ]
    go false is (inl l) = absurd (let z : false ≡ true = sym is ∙ l in cc z)
    go false is (inr m) = let i = f.kept is in inr (omega (arith, m, many, ap (λ (l : List Ahead). length l) i.1, length-append a.rows.items xs))
