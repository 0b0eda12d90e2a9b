-- The row of a tree that is nearest to a key, on one side of it.
use Rattle.std.proofs.Common.{◌≡◌, ℕ, ◌+◌, ◌<◌, ◌≤◌, Bool, true, false, cond, Option, Some, None, inl, inr, ◌⊎◌, refl, sym, ◌∙◌, arith}
use Rattle.snap_prelude.proofs.Common.{child, dec_lt, dite, find_here, find_toward, le-leb, lt-leb}
use Rattle.snap_prelude.specs.{Between, empty, find, Left, Node, node, other, Right, Side, Toward, Tree}
use Rattle.snap_view.specs.Nearest.{Reaches, reaches, IsNearest, turn, on, nearer_or, nearest_row}

-- a key is `from` or lies on that side of it, or lies on the other
pub reaches_tells : (side : Side) (from key : ℕ) → ((reaches side from key ≡ true) × Reaches side from key) ⊎ ((reaches side from key ≡ false) × Toward (other side) key from)
reaches_tells Left from key = dite (dec_lt from key) (λ l. inr (lt-leb key from l, l)) (λ nl. inl (le-leb key from (omega arith), omega arith))
reaches_tells Right from key = dite (dec_lt key from) (λ l. inr (lt-leb from key l, l)) (λ nl. inl (le-leb from key (omega arith), omega arith))

-- how keys lie to one another, by their sides
turned : (side : Side) (a b : ℕ) → Toward side a b → Toward (other side) b a
turned Left a b l = l
turned Right a b l = l

before_it : (side : Side) (k a n : ℕ) → Toward (other side) a n → Toward side a k → Toward (other side) k n
before_it Left k a n l h = omega arith
before_it Right k a n l h = omega arith

past_it : (side : Side) (n from k : ℕ) → Toward (other side) n from → Reaches side from k → Toward side k n
past_it Left n from k l h = omega arith
past_it Right n from k l h = omega arith

-- the row lies where its tree does
abbrev pub LiesIn : ℕ → ℕ → Option (ℕ × Option ℕ) → Type 0
LiesIn low high None = Unit {0}
LiesIn low high (Some p) = (low ≤ p.0) × (p.0 < high)

wider : (low low' high high' : ℕ) (o : Option (ℕ × Option ℕ)) → low' ≤ low → high ≤ high' → LiesIn low high o → LiesIn low' high' o
wider low low' high high' None l h i = tt
wider low low' high high' (Some p) l h i = (omega (arith, i.0), omega (arith, i.1))

pub nearest_in : (side : Side) (from low high : ℕ) (t : Tree) → Between low high t → LiesIn low high (nearest_row side from t)
nearest_in side from low high empty h = tt
nearest_in side from low high (node n a b) h = go (on (turn side from n.key) (nearest_row side from a) (nearest_row side from b)) (on_side (turn side from n.key) (nearest_in side from low n.key a h.2) (nearest_in side from (n.key + 1) high b h.3)) (reaches side from n.key)
  where
    on_side : (d : Side) → LiesIn low n.key (nearest_row side from a) → LiesIn (n.key + 1) high (nearest_row side from b) → LiesIn low high (on d (nearest_row side from a) (nearest_row side from b))
    on_side Left l r = wider low low n.key high (nearest_row side from a) (omega arith) (omega (arith, h.1)) l
    on_side Right l r = wider (n.key + 1) low high high (nearest_row side from b) (omega (arith, h.0)) (omega arith) r

    go : (o : Option (ℕ × Option ℕ)) → LiesIn low high o → (r : Bool) → LiesIn low high (nearer_or o (cond r (Some (n.key, n.value)) None))
    go (Some p) i r = i
    go None i true = (h.0, h.1)
    go None i false = tt

-- a row below a node lies on its side
abbrev pub Stays : ℕ → Side → Option (ℕ × Option ℕ) → Type 0
Stays key d None = Unit {0}
Stays key d (Some p) = Toward d p.0 key

stays_left : (key low : ℕ) (o : Option (ℕ × Option ℕ)) → LiesIn low key o → Stays key Left o
stays_left key low None i = tt
stays_left key low (Some p) i = i.1

stays_right : (key high : ℕ) (o : Option (ℕ × Option ℕ)) → LiesIn (key + 1) high o → Stays key Right o
stays_right key high None i = tt
stays_right key high (Some p) i = omega (arith, i.0)

pub row_stays : (side : Side) (from low high : ℕ) (n : Node) (a b : Tree) → Between low high (node n a b) → (d : Side) → Stays n.key d (on d (nearest_row side from a) (nearest_row side from b))
row_stays side from low high n a b h Left = stays_left n.key low (nearest_row side from a) (nearest_in side from low n.key a h.2)
row_stays side from low high n a b h Right = stays_right n.key high (nearest_row side from b) (nearest_in side from (n.key + 1) high b h.3)

-- it is nearest
pub nearest_is : (side : Side) (from low high : ℕ) (t : Tree) → Between low high t → IsNearest (find t) side from (nearest_row side from t)
nearest_is side from low high empty h = λ k l. refl
nearest_is side from low high (node n a b) h = let left = nearest_is side from low n.key a h.2 in let right = nearest_is side from (n.key + 1) high b h.3 in elim (reaches_tells side from n.key) [
  | inl r ↦ rw r.0 (reached r.1 (on (other side) (nearest_row side from a) (nearest_row side from b)) (below (other side) left right) (row_stays side from low high n a b h (other side)))
  | inr r ↦ rw r.0 (not_reached r.1 (on side (nearest_row side from a) (nearest_row side from b)) (below side left right))
]
  where
    below : (d : Side) → IsNearest (find a) side from (nearest_row side from a) → IsNearest (find b) side from (nearest_row side from b) → IsNearest (find (child d a b)) side from (on d (nearest_row side from a) (nearest_row side from b))
    below Left l r = l
    below Right l r = r

    reached : Reaches side from n.key → (o : Option (ℕ × Option ℕ)) → IsNearest (find (child (other side) a b)) side from o → Stays n.key (other side) o → IsNearest (find (node n a b)) side from (nearer_or o (Some (n.key, n.value)))
    reached r None near s = record {
      lies = r;
      is = find_here n a b n.key refl;
      nearer = λ k l t. find_toward (other side) n a b k (turned side n.key k t) ∙ near k l;
    }
    reached r (Some p) near s = record {
      lies = near.lies;
      is = find_toward (other side) n a b p.0 s ∙ near.is;
      nearer = λ k l t. find_toward (other side) n a b k (before_it side k p.0 n.key s t) ∙ near.nearer k l t;
    }

    not_reached : Toward (other side) n.key from → (o : Option (ℕ × Option ℕ)) → IsNearest (find (child side a b)) side from o → IsNearest (find (node n a b)) side from (nearer_or o None)
    not_reached r None near = λ k l. find_toward side n a b k (past_it side n.key from k r l) ∙ near k l
    not_reached r (Some p) near = record {
      lies = near.lies;
      is = find_toward side n a b p.0 (past_it side n.key from p.0 r near.lies) ∙ near.is;
      nearer = λ k l t. find_toward side n a b k (past_it side n.key from k r l) ∙ near.nearer k l t;
    }

-- what has the same at each key has the same nearest
pub same_nearest : (f g : ℕ → Option ℕ) (side : Side) (from : ℕ) (o : Option (ℕ × Option ℕ)) → ((k : ℕ) → f k ≡ g k) → IsNearest f side from o → IsNearest g side from o
same_nearest f g side from None same near = λ k l. sym (same k) ∙ near k l
same_nearest f g side from (Some p) same near = record { lies = near.lies; is = sym (same p.0) ∙ near.is; nearer = λ k l t. sym (same k) ∙ near.nearer k l t }
