-- Where a search stands, and where the words that it loads lead.
use Rattle.std.specs.Prelude.{◌≡◌, ◌≢◌, ℕ, ◌%◌, ◌≤◌, Option, None}
use Rattle.snap_prelude.specs.{Confirmed, Known, Linked, Matched, NoLink, Point}
use Rattle.snap_prelude.specs.{Relinked, Stamped, Standing, value_of}
use Rattle.snap_search.specs.declared.down.Spot.{Spot}

abbrev pub stand : Spot → Point
stand s = Standing s.row s.stamp s.side

abbrev pub no_link : Spot → Point
no_link s = NoLink s.row s.stamp s.side

abbrev pub linked : Spot → ℕ → Point
linked s child = Linked s.row s.stamp s.side child

-- a search that comes to points in this way has come to this one, since some moment
abbrev pub IsOnWay : (Known → Known → ℕ → Point → Type 0) → Known → ℕ → Point → Type 0
IsOnWay comes now key point = (from : Known) × comes from now key point

-- the next word of a search brings it to a point, or a check fails
abbrev pub LeadsTo : ℕ → (Point → Type 0) → Type 0 → Point → ℕ → Type 0
LeadsTo rows comes fails (Standing n v d) x =
    (x ≤ rows) × (x ≡ 0 → comes (NoLink n v d)) × (x ≢ 0 → comes (Linked n v d x))
LeadsTo rows comes fails (Linked n v d c) x =
    (x % 4 ≡ 0 → comes (Stamped n v d c x)) × (x % 4 ≢ 0 → fails)
LeadsTo rows comes fails (Stamped n v d c w) x =
    (x ≡ c → comes (Relinked n v c w)) × (x ≢ c → fails)
LeadsTo rows comes fails (Relinked n v c w) x = (x ≡ v → comes (Confirmed c w)) × (x ≢ v → fails)
LeadsTo rows comes fails elsewhere x = Unit {0}

-- its last word ends it with an answer, or a check fails
abbrev pub LeadsLast : (Option ℕ → Type 0) → Type 0 → Point → ℕ → Type 0
LeadsLast ends misses (NoLink n v d) x = (x ≡ v → ends None) × (x ≢ v → misses)
LeadsLast ends misses (Matched c) x = ends (value_of x)
LeadsLast ends misses elsewhere x = Unit {0}
