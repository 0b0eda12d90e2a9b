-- A way down that notes the rows ahead, and the steps from one of them to the next.
use Rattle.std.proofs.Common.{◌≡◌, ℕ, ◌+◌, ◌<◌, ◌^◌, ◌⊎◌, true, false, inl, inr, List, [], ◌∷◌, ◌++◌, length, Option, Some, None, refl, sym, ap, ◌∙◌, subst, arith, append_assoc, length-append}
use Rattle.snap_prelude.specs.{after, at, Cloned, depth, image, IsCloneOf, IsCopyOf}
use Rattle.snap_prelude.specs.{IsSubtree, Left, Node, Right, root, RowCopy, Side, Tree}
use Rattle.snap_prelude.proofs.Common.{child}
use Rattle.snap_view.specs.{Ahead.AddsAhead, Ahead.AreAhead, Ahead.AreAheadOf, Ahead.if_ahead, Ahead.met}
use Rattle.snap_view.specs.{Ahead.rows_ahead, Nearest.IsBehind, Nearest.IsNearest, Nearest.on, Nearest.turn}
use Rattle.snap_view.specs.{Tops.HasTree, Tops.IsTopOf, declared.ahead.Ahead.Ahead, declared.ahead.RowsAhead.RowsAhead}
use Rattle.snap_view.proofs.AheadRows.{Popped, few_ahead, leads_none, leads_on, none_ahead, own, pops}
use Rattle.snap_view.proofs.Seeking.{TopsAt, below_root, below_within, nearest_told, next_row}
use Rattle.snap_view.proofs.Within.{next_tree}

-- the way down from the top of u goes on in a tree of which this is the top, and has noted the rows ahead on it
pub record Meets (t u : Tree) (side : Side) (from : ℕ) (here : Option RowCopy) (old now : RowsAhead) : Type 0 where
  pub tree : Tree
  pub within : IsSubtree tree t
  pub top : IsTopOf tree here
  pub passed : List Ahead
  pub all : rows_ahead side from u ≡ passed ++ rows_ahead side from tree
  pub leads : AddsAhead old now passed

-- from each tree at this row
abbrev pub MeetsAt : Tree → ℕ → Side → ℕ → Option RowCopy → RowsAhead → RowsAhead → Type 0
MeetsAt t row side from here old now = (u : Tree) → IsSubtree u t → root u ≡ row → Meets t u side from here old now

pub meets_from : (t : Tree) (row : ℕ) (side : Side) (from : ℕ) (here : Option RowCopy) (ahead : RowsAhead) → TopsAt t row here → MeetsAt t row side from here ahead ahead
meets_from t row side from here ahead tops u w z = record { tree = u; within = w; top = tops u w z; passed = []; all = refl; leads = leads_none ahead }

met_is : (side : Side) (from : ℕ) (n : Node) (a b : Tree) (copy : RowCopy) → IsCopyOf n a b copy → if_ahead side from (own side n a b) ≡ met side from copy
met_is side from n a b copy c = sym (λ i. if_ahead side from (record { key = c.key i; value = c.value i; beyond = on side (c.left i) (c.right i) }))

pub meets_on : (t : Tree) (row : ℕ) (side : Side) (from : ℕ) (copy : RowCopy) (next : Option RowCopy) (old now new : RowsAhead) → MeetsAt t row side from (Some copy) old now → AddsAhead now new (met side from copy) → TopsAt t (next_row side from copy) next → MeetsAt t row side from next old new
meets_on t row side from copy next old now new meets leads tops u w z =
    let s = meets u w z in let h = s.top in let n : Node = h.top in let below : Tree = next_tree side from n h.left h.right in
    let within = below_within t s.tree s.within copy h side from in record {
      tree = below;
      within = within;
      top = tops below within (below_root t s.tree s.within copy h side from);
      passed = s.passed ++ met side from copy;
      all = s.all ∙ ap (λ (x : Tree). s.passed ++ rows_ahead side from x) h.is
          ∙ ap (λ (l : List Ahead). s.passed ++ (l ++ on (turn side from n.key) (rows_ahead side from h.left) (rows_ahead side from h.right))) (met_is side from n h.left h.right copy h.copied)
          ∙ ap (λ (l : List Ahead). s.passed ++ (met side from copy ++ l)) (below_ahead (turn side from n.key) h.left h.right)
          ∙ sym (append_assoc s.passed (met side from copy) (rows_ahead side from below));
      leads = leads_on old now new s.passed (met side from copy) s.leads leads;
    }
  where
    below_ahead : (d : Side) (a b : Tree) → on d (rows_ahead side from a) (rows_ahead side from b) ≡ rows_ahead side from (child d a b)
    below_ahead Left a b = refl
    below_ahead Right a b = refl

pub meets_end : (t : Tree) (row : ℕ) (side : Side) (from : ℕ) (old now : RowsAhead) → MeetsAt t row side from None old now → (u : Tree) → IsSubtree u t → root u ≡ row → AddsAhead old now (rows_ahead side from u)
meets_end t row side from old now meets u w z = let s = meets u w z in subst (AddsAhead old now) (sym (s.all ∙ ap (λ (x : Tree). s.passed ++ rows_ahead side from x) s.top ∙ ended s.passed)) s.leads
  where
    ended : (xs : List Ahead) → xs ++ [] ≡ xs
    ended [] = refl
    ended (x ∷ xs) = ap (λ (l : List Ahead). x ∷ l) (ended xs)

-- rows that lead on behind others, where all of these lie ahead
pub are_ahead : (side : Side) (from : ℕ) (t : Tree) (old new : RowsAhead) (more : List Ahead) → old.lost ≡ false → rows_ahead side from t ≡ old.rows.items ++ more → AddsAhead old new more → AreAhead side from t new
are_ahead side from t old new more kept is leads = record {
  kept = λ e. (leads.kept e).1 ∙ sym is;
  lost = λ e. many (leads.lost e);
}
  where
    many : (old.lost ≡ true) ⊎ (64 < length old.rows.items + length more) → 64 < depth t
    many (inl l) = absurd (let z : false ≡ true = sym kept ∙ l in cc z)
    many (inr m) = omega (arith, m, few_ahead side from t, ap (λ (l : List Ahead). length l) is, length-append old.rows.items more)

behind_same : (side : Side) (key : ℕ) (a b : Option ℕ) → IsBehind side key a → IsBehind side key b → a ≡ b
behind_same Left key None None h i = refl
behind_same Left key None (Some b) h i = absurd (omega (arith, h, i))
behind_same Left key (Some a) None h i = absurd (omega (arith, h, i))
behind_same Left key (Some a) (Some b) h i = ap Some (omega (arith, h, i))
behind_same Right key None None h i = refl
behind_same Right key None (Some b) h i = absurd (omega (arith, h, i.0, i.1))
behind_same Right key (Some a) None h i = absurd (omega (arith, h.0, h.1, i))
behind_same Right key (Some a) (Some b) h i = ap Some (omega (arith, h.0, i.0))

-- what lies ahead behind a row, by one next key
pub are_passed : (side : Side) (t : Tree) (key : ℕ) (next : Option ℕ) (ahead : RowsAhead) → IsBehind side key next → AreAheadOf side next t ahead → (other : Option ℕ) → IsBehind side key other → AreAheadOf side other t ahead
are_passed side t key next ahead b are other o = subst (λ (n : Option ℕ). AreAheadOf side n t ahead) (behind_same side key next other b o) are

-- the nearest row is the last of the rows ahead
module _ (c : Cloned) (clone : IsCloneOf c.base (image c)) (side : Side) (from : ℕ) (old : RowsAhead) (are : AreAhead side from (image c) old) (kept : old.lost ≡ false) where
  pub none_left : old.rows.items ≡ [] → IsNearest (at (after c.base)) side from None
  none_left e = nearest_told c side from None clone (sym (none_ahead side from (image c) (sym (are.kept kept) ∙ e)))

  module _ (xs : List Ahead) (x : Ahead) (popped : old.rows.items ≡ xs ++ (x ∷ [])) where
    abbrev last : Popped side from 0 (2 ^ 64) (image c) xs x
    last = pops side from 0 (2 ^ 64) (image c) clone.ordered xs x (sym (are.kept kept) ∙ popped)

    pub last_nearest : IsNearest (at (after c.base)) side from (Some (x.key, x.value))
    last_nearest = nearest_told c side from (Some (x.key, x.value)) clone (sym last.row)

    pub has_beyond : HasTree (image c) x.beyond
    has_beyond = record { tree = last.tree; within = last.within; at = last.at }

    pub behind_last : (next : ℕ) (rest new : RowsAhead) → rest.lost ≡ false → rest.rows.items ≡ xs → IsBehind side x.key (Some next)
        → ((u : Tree) → IsSubtree u (image c) → root u ≡ x.beyond → AddsAhead rest new (rows_ahead side next u)) → AreAhead side next (image c) new
    behind_last next rest new lost is b leads = are_ahead side next (image c) rest new (rows_ahead side next last.tree) lost (last.same next b ∙ ap (λ (l : List Ahead). l ++ rows_ahead side next last.tree) (sym is)) (leads last.tree last.within last.at)

-- a first way down
pub first_ahead : (side : Side) (from : ℕ) (t : Tree) (none new : RowsAhead) → none.rows.items ≡ [] → none.lost ≡ false → AddsAhead none new (rows_ahead side from t) → AreAhead side from t new
first_ahead side from t none new empty kept leads = are_ahead side from t none new (rows_ahead side from t) kept (ap (λ (l : List Ahead). l ++ rows_ahead side from t) (sym empty)) leads

-- a list of which none can be taken
pub empty_of : (xs : List Ahead) → (0 < length xs → false ≡ true) → xs ≡ []
empty_of [] f = refl
empty_of (x ∷ xs) f = absurd (let e : false ≡ true = f (omega arith) in cc e)
