-- How many nodes a tree has: no more than the numbers of its rows go up to, and fewer than a full tree of its depth.
use Rattle.std.proofs.Common.{◌≡◌, ℕ, suc, ◌+◌, ◌^◌, ◌<◌, ◌≤◌, ◌++◌, inl, inr, false, true, List, [], ◌∷◌, length, length-append, Option, Some, None, eqb, eqb-true, ne_eqb, Bool, ◌||◌, max, subst, refl, sym, ap, ◌∙◌, arith}
use Rattle.std.proofs.Math.Pow.{pow_mono}
use Rattle.std.proofs.lemmas.Grind.{pow_more}
use Rattle.std.proofs.lemmas.List.Folds.{list_any-append}
use Rattle.std.proofs.lemmas.Map.Steps.{length-le_from_distinct_below}
use Rattle.std.specs.List.{AllByRecursion, IsDistinct, list_any}
use Rattle.snap_rule.specs.Rule.{TableOk}
use Rattle.snap_rule.specs.State.{State, In, Represents}
use Rattle.snap_rule.specs.Tree.{Tree, Between, Stands, depth, size, entry, pairs}
use Rattle.snap_rule.specs.Tree.Tree.{empty, node}
use Rattle.snap_rule.proofs.Trees.{row_positive}
use Rattle.snap_rule.proofs.Trees.Unique.{left_key, right_key, sides_apart}
use Rattle.snap_stamp.specs.declared.side.Side.{Side}

pub depth_size : (t : Tree) → depth t ≤ size t
depth_size empty = omega arith
depth_size (node n a b) = omega (arith, depth_size a, depth_size b)

pub pairs_size : (t : Tree) → length (pairs t) ≤ size t
pairs_size empty = omega arith
pairs_size (node n a b) = rw (length-append, length-append) (omega (arith, pairs_size a, pairs_size b, entry_few n.key n.value))
  where
    entry_few : (k : ℕ) (o : Option ℕ) → length (entry k o) ≤ 1
    entry_few k None = omega arith
    entry_few k (Some v) = omega arith

pub size_full : (t : Tree) → size t < 2 ^ depth t
size_full empty = omega arith
size_full (node n a b) =
    let m : ℕ = max (depth a) (depth b) in
    omega (arith, size_full a, size_full b, pow_mono {i = depth a} {j = m} (omega arith), pow_mono {i = depth b} {j = m} (omega arith), pow_more 2 m)

-- the rows of a tree
abbrev rows_in : Tree → List ℕ
rows_in empty = []
rows_in (node n a b) = n.row ∷ (rows_in a ++ rows_in b)

rows_size : (t : Tree) → length (rows_in t) ≡ size t
rows_size empty = refl
rows_size (node n a b) = omega (arith, length-append (rows_in a) (rows_in b), rows_size a, rows_size b)

all_append : (P : ℕ → Type 0) (xs ys : List ℕ) → AllByRecursion P xs → AllByRecursion P ys → AllByRecursion P (xs ++ ys)
all_append P [] ys h i = i
all_append P (x ∷ xs) ys h i = (h.0, all_append P xs ys h.1 i)

all_rows : (P : ℕ → Type 0) (t : Tree) → ((n : ℕ) → Stands n t → P n) → AllByRecursion P (rows_in t)
all_rows P empty f = tt
all_rows P (node m a b) f = (f m.row (inl refl), all_append P (rows_in a) (rows_in b) (all_rows P a (λ n h. f n (inr (inl h)))) (all_rows P b (λ n h. f n (inr (inr h)))))

distinct_join : (xs ys : List ℕ) → IsDistinct eqb xs → IsDistinct eqb ys → AllByRecursion (λ x. AllByRecursion (λ y. eqb x y ≡ false) ys) xs → IsDistinct eqb (xs ++ ys)
unfolding IsDistinct
distinct_join [] ys d e h = e
distinct_join (x ∷ xs) ys d e h = (all_append (λ y. eqb x y ≡ false) xs ys d.0 h.0, distinct_join xs ys d.1 e h.1)

stands_listed : (q : ℕ) (t : Tree) → list_any (eqb q) (rows_in t) ≡ true → Stands q t
stands_listed q empty h = absurd (cc h)
stands_listed q (node m a b) h = here (eqb q m.row) (eqb-true q m.row) (sym (ap (λ x. eqb q m.row || x) (list_any-append (eqb q) (rows_in a) (rows_in b))) ∙ h) (λ e. stands_listed q a e) (λ e. stands_listed q b e)
  where
    below : (x y : Bool) → (x ≡ true → Stands q a) → (y ≡ true → Stands q b) → x || y ≡ true → Stands q (node m a b)
    below true y f g e = inr (inl (f refl))
    below false y f g e = inr (inr (g e))

    here : (x : Bool) → (x ≡ true → q ≡ m.row) → x || (list_any (eqb q) (rows_in a) || list_any (eqb q) (rows_in b)) ≡ true
        → (list_any (eqb q) (rows_in a) ≡ true → Stands q a) → (list_any (eqb q) (rows_in b) ≡ true → Stands q b) → Stands q (node m a b)
    here true f e g k = inl (f refl)
    here false f e g k = below (list_any (eqb q) (rows_in a)) (list_any (eqb q) (rows_in b)) g k e

module _ (s : State) (l : ℕ → Side → ℕ) where
  distinct_rows : (low high : ℕ) (t : Tree) → Between low high t → Represents s l t → IsDistinct eqb (rows_in t)
  unfolding IsDistinct
  distinct_rows low high empty o r = tt
  distinct_rows low high (node m a b) o r = (
    all_append (λ y. eqb m.row y ≡ false) (rows_in a) (rows_in b)
        (all_rows (λ y. eqb m.row y ≡ false) a (λ n h. ne_eqb m.row n (λ e. let k = left_key s l low high m a b n o r h in omega (arith, k, ap s.key e))))
        (all_rows (λ y. eqb m.row y ≡ false) b (λ n h. ne_eqb m.row n (λ e. let k = right_key s l low high m a b n o r h in omega (arith, k, ap s.key e)))),
    distinct_join (rows_in a) (rows_in b) (distinct_rows low m.key a o.2 r.3) (distinct_rows (m.key + 1) high b o.3 r.4)
        (all_rows (λ x. AllByRecursion (λ y. eqb x y ≡ false) (rows_in b)) a (λ n h. all_rows (λ y. eqb n y ≡ false) b (λ k i. ne_eqb n k (λ e. sides_apart s l low high m a b k o r (subst (λ (z : ℕ). Stands z a) e h) i)))),
  )

  pub size_low : (low high : ℕ) (t : Tree) (next : ℕ) → Between low high t → Represents s l t → ((n : ℕ) → Stands n t → n ≤ next) → size t ≤ next
  unfolding IsDistinct
  size_low low high t next o r h =
      let all : List ℕ = 0 ∷ rows_in t in
      let distinct : IsDistinct eqb all = (all_rows (λ y. eqb 0 y ≡ false) t (λ n i. ne_eqb 0 n (λ e. omega (arith, e, row_positive s l t n r i))), distinct_rows low high t o r) in
      omega (arith, rows_size t, length-le_from_distinct_below all (suc next) distinct (λ q i. within q (eqb q 0) (eqb-true q 0) i))
    where
      within : (q : ℕ) (x : Bool) → (x ≡ true → q ≡ 0) → x || list_any (eqb q) (rows_in t) ≡ true → q < suc next
      within q true f e = omega (arith, f refl)
      within q false f e = omega (arith, h q (stands_listed q t e))

-- no more rows stand in the tree than were handed out
pub few_stand : (s : State) (next : ℕ) → TableOk s → ((n : ℕ) → In n s.linked → n ≤ next) → size s.tree ≤ next
few_stand s next ok low = size_low s s.links 0 (2 ^ 64) s.tree next ok.tree.ordered ok.tree.reads (λ n h. low n (ok.tree.rows n h).0)
