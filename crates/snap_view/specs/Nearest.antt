-- The row nearest to a key, on one side of it.
use Rattle.std.specs.Prelude.{◌≡◌, ℕ, ◌+◌, ◌<◌, ◌≤◌, ◌^◌, Bool, nat_le, Option, Some, None, if◌then◌else◌}
use Rattle.snap_prelude.specs.{empty, Left, node, other, Right, Side, Toward, Tree}

-- the key is `from`, or lies on that side of it
abbrev pub Reaches : Side → ℕ → ℕ → Type 0
Reaches Left from key = key ≤ from
Reaches Right from key = from ≤ key

abbrev pub reaches : Side → ℕ → ℕ → Bool
reaches Left from key = nat_le key from
reaches Right from key = nat_le from key

-- every key of 64 bits lies so
abbrev pub ReachesAll : Side → ℕ → Type 0
ReachesAll side from = (k : ℕ) → k < 2 ^ 64 → Reaches side from k

-- the key lies so and has this value or none, and the keys that lie nearer have none
pub record IsNearestAt (has : ℕ → Option ℕ) (side : Side) (from key : ℕ)
    (value : Option ℕ) : Type 0 where
  pub lies : Reaches side from key
  pub is : has key ≡ value
  pub nearer : (k : ℕ) → Reaches side from k → Toward side key k → has k ≡ None

-- that key, or that no key lies so and has a value
abbrev pub IsNearest : (ℕ → Option ℕ) → Side → ℕ → Option (ℕ × Option ℕ) → Type 0
IsNearest has side from None = (k : ℕ) → Reaches side from k → has k ≡ None
IsNearest has side from (Some p) = IsNearestAt has side from p.0 p.1

-- the same of the keys with a value, of 64 bits
abbrev pub IsNearestPair : (ℕ → Option ℕ) → Side → ℕ → Option (ℕ × ℕ) → Type 0
IsNearestPair has side from None = (k : ℕ) → k < 2 ^ 64 → Reaches side from k → has k ≡ None
IsNearestPair has side from (Some p) = IsNearestAt has side from p.0 (Some p.1)

-- the next key on that side, or that there is none of 64 bits
abbrev pub IsBehind : Side → ℕ → Option ℕ → Type 0
IsBehind Left key None = key ≡ 0
IsBehind Left key (Some k) = key ≡ k + 1
IsBehind Right key None = key + 1 ≡ 2 ^ 64
IsBehind Right key (Some k) = (k ≡ key + 1) × (k < 2 ^ 64)

-- the next key behind a row's, or none where there is no row
abbrev pub IsBehindRow : Option (ℕ × Option ℕ) → Option ℕ → Type 0
IsBehindRow None next = next ≡ None
IsBehindRow (Some p) next = IsBehind Right p.0 next

-- the way down a tree to the node nearest to `from` goes on from a node with this key on this side
abbrev pub turn : Side → ℕ → ℕ → Side
turn side from key = if reaches side from key then other side else side

abbrev pub on : {A : Type 0} → Side → A → A → A
on Left a b = a
on Right a b = b

abbrev pub nearer_or : Option (ℕ × Option ℕ) → Option (ℕ × Option ℕ) → Option (ℕ × Option ℕ)
nearer_or None p = p
nearer_or (Some q) p = Some q

abbrev pub if_reached : Side → ℕ → ℕ × Option ℕ → Option (ℕ × Option ℕ)
if_reached side from p = if reaches side from p.0 then Some p else None

-- that node's key and value
abbrev pub nearest_row : Side → ℕ → Tree → Option (ℕ × Option ℕ)
nearest_row side from empty = None
nearest_row side from (node n a b) = nearer_or
    (on (turn side from n.key) (nearest_row side from a) (nearest_row side from b))
    (if_reached side from (n.key, n.value))

-- how many nodes stand on that way
abbrev pub levels : Side → ℕ → Tree → ℕ
levels side from empty = 0
levels side from (node n a b) =
    on (turn side from n.key) (levels side from a) (levels side from b) + 1
