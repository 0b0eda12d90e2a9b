-- How many nodes stand on the ways down a tree.
use Rattle.std.proofs.Common.{◌≡◌, ℕ, ◌+◌, ◌<◌, ◌≤◌, ◌^◌, max, true, false, leb, Option, Some, None, refl, sym, ap, ◌∙◌, subst, arith}
use Rattle.snap_prelude.proofs.Common.{dec_lt, dite, le-leb, lt-leb}
use Rattle.snap_prelude.specs.{Between, depth, empty, find, Left, Node, node, Right, Side, Tree}
use Rattle.snap_view.specs.Nearest.{IsNearest, IsBehindRow, turn, on, nearer_or, nearest_row, levels}
use Rattle.snap_view.proofs.Nearing.{LiesIn, nearest_in, nearest_is}
use Rattle.snap_view.proofs.Passing.{keys_ahead, fewer_ahead}

-- no more than on the longest
pub levels_within : (side : Side) (from : ℕ) (t : Tree) → levels side from t ≤ depth t
levels_within side from empty = omega arith
levels_within side from (node n a b) = go (turn side from n.key) (levels_within side from a) (levels_within side from b)
  where
    go : (d : Side) → levels side from a ≤ depth a → levels side from b ≤ depth b → on d (levels side from a) (levels side from b) + 1 ≤ max (depth a) (depth b) + 1
    go Left l r = omega arith
    go Right l r = omega arith

to_left : (n : Node) (a b : Tree) (k : ℕ) → k ≤ n.key → levels Right k (node n a b) ≡ levels Right k a + 1
to_left n a b k l = let g : leb k n.key ≡ true = le-leb k n.key l in rw g refl

to_right : (n : Node) (a b : Tree) (k : ℕ) → n.key < k → levels Right k (node n a b) ≡ levels Right k b + 1
to_right n a b k l = let g : leb k n.key ≡ false = lt-leb k n.key l in rw g refl

-- and on one way as many
pub record Deepest (low high : ℕ) (t : Tree) : Type 0 where
  pub from : ℕ
  pub above : low ≤ from
  pub below : from < high
  pub is : levels Right from t ≡ depth t

pub deepest : (low high : ℕ) (t : Tree) → Between low high t → 0 < depth t → Deepest low high t
deepest low high empty h some = absurd (omega arith)
deepest low high (node n a b) h some = dite (dec_lt (depth a) (depth b))
    (λ l. right l (deepest (n.key + 1) high b h.3 (omega arith)))
    (λ nl. dite (dec_lt 0 (depth a)) (λ s. left (omega arith) (deepest low n.key a h.2 s)) (λ z. record { from = n.key; above = h.0; below = h.1; is = here (omega arith) (omega arith) }))
  where
    right : depth a < depth b → Deepest (n.key + 1) high b → Deepest low high (node n a b)
    right l d = record { from = d.from; above = omega (arith, d.above, h.0); below = d.below; is = to_right n a b d.from (omega (arith, d.above)) ∙ omega (arith, d.is) }

    left : depth b ≤ depth a → Deepest low n.key a → Deepest low high (node n a b)
    left l d = record { from = d.from; above = d.above; below = omega (arith, d.below, h.1); is = to_left n a b d.from (omega (arith, d.below)) ∙ omega (arith, d.is) }

    here : depth a ≤ 0 → depth b ≤ 0 → levels Right n.key (node n a b) ≡ depth (node n a b)
    here x y = to_left n a b n.key (omega arith) ∙ omega (arith, levels_within Right n.key a)

-- the way to a key is that to each key up to the next row's
abbrev UpTo : ℕ → Option (ℕ × Option ℕ) → Type 0
UpTo k None = Unit {0}
UpTo k (Some p) = k ≤ p.0

same_way : (from k low high : ℕ) (t : Tree) → Between low high t → from ≤ k → UpTo k (nearest_row Right from t) → levels Right k t ≡ levels Right from t
same_way from k low high empty h l u = refl
same_way from k low high (node n a b) h l u = dite (dec_lt n.key from)
    (λ r. let g : leb from n.key ≡ false = lt-leb from n.key r in to_right n a b k (omega arith) ∙ ap (λ (x : ℕ). x + 1) (same_way from k (n.key + 1) high b h.3 l (below (nearest_row Right from b) (rw g at u))) ∙ sym (to_right n a b from r))
    (λ nr. let g : leb from n.key ≡ true = le-leb from n.key (omega arith) in
    let v = kept (nearest_row Right from a) (nearest_in Right from low n.key a h.2) (rw g at u) in
    to_left n a b k v.0 ∙ ap (λ (x : ℕ). x + 1) (same_way from k low n.key a h.2 l v.1) ∙ sym (to_left n a b from (omega arith)))
  where
    below : (o : Option (ℕ × Option ℕ)) → UpTo k (nearer_or o None) → UpTo k o
    below None w = tt
    below (Some p) w = w

    kept : (o : Option (ℕ × Option ℕ)) → LiesIn low n.key o → UpTo k (nearer_or o (Some (n.key, n.value))) → (k ≤ n.key) × UpTo k o
    kept None i w = (w, tt)
    kept (Some p) i w = (omega (arith, i.1), w)

-- the ways to all keys before the next one were gone, and the longest of them has so many nodes
abbrev pub Before : Option ℕ → ℕ → Type 0
Before None k = Unit {0}
Before (Some next) k = k < next

abbrev pub FitsKey : Option ℕ → Type 0
FitsKey None = Unit {0}
FitsKey (Some next) = next < 2 ^ 64

past_fits : (row : Option (ℕ × Option ℕ)) (next : Option ℕ) → IsBehindRow row next → FitsKey next
past_fits None next e = subst FitsKey (sym e) tt
past_fits (Some p) None e = tt
past_fits (Some p) (Some next) e = e.1

pub record HasSounded (t : Tree) (next : Option ℕ) (best : ℕ) : Type 0 where
  pub fits : FitsKey next
  pub least : best ≤ depth t
  pub each : (k : ℕ) → k < 2 ^ 64 → Before next k → levels Right k t ≤ best

pub sounded_none : (t : Tree) → HasSounded t (Some 0) 0
sounded_none t = record { fits = omega arith; least = omega arith; each = λ k l b. absurd (omega arith) }

pub sounded_on : (t : Tree) → Between 0 (2 ^ 64) t → (from best level : ℕ) (row : Option (ℕ × Option ℕ)) (next : Option ℕ) → HasSounded t (Some from) best → row ≡ nearest_row Right from t → level ≡ levels Right from t → IsBehindRow row next → HasSounded t next (max best level)
sounded_on t h from best level row next s is counts past = record {
  fits = past_fits row next past;
  least = omega (arith, s.least, counts, levels_within Right from t);
  each = λ k l b. dite (dec_lt k from) (λ u. omega (arith, s.each k l u)) (λ nu. omega (arith, counts, same_way from k 0 (2 ^ 64) t h (omega arith) (subst (UpTo k) is (go row next past k l b))));
}
  where
    go : (o : Option (ℕ × Option ℕ)) (n : Option ℕ) → IsBehindRow o n → (k : ℕ) → k < 2 ^ 64 → Before n k → UpTo k o
    go None n e k l b = tt
    go (Some p) None e k l b = omega arith
    go (Some p) (Some m) e k l b = omega (arith, e.0)

pub sounded_all : (t : Tree) → Between 0 (2 ^ 64) t → (best : ℕ) → HasSounded t None best → best ≡ depth t
sounded_all t h best s = dite (dec_lt 0 (depth t))
    (λ some. let d = deepest 0 (2 ^ 64) t h some in omega (arith, s.least, s.each d.from d.below tt, d.is))
    (λ none. omega (arith, s.least))

pub sounds_fewer : (t : Tree) → Between 0 (2 ^ 64) t → (from : ℕ) (row : Option (ℕ × Option ℕ)) (next : Option ℕ) → from < 2 ^ 64 → row ≡ nearest_row Right from t → IsBehindRow row next → keys_ahead Right next < keys_ahead Right (Some from)
sounds_fewer t h from None next fits is past = rw past (omega arith)
sounds_fewer t h from (Some p) next fits is past = fewer_ahead (find t) Right from p.0 p.1 next fits (subst (IsNearest (find t) Right from) (sym is) (nearest_is Right from 0 (2 ^ 64) t h)) past
