-- What a search that may begin again has behind it on its step down from a spot.
use Rattle.std.specs.Prelude.{◌≡◌, ℕ, [], ◌∷◌}
use Rattle.snap_prelude.specs.{Among, Confirmed, ConfirmedNone, Known, Linked, Matched, NoLink, On}
use Rattle.snap_prelude.specs.{Point, Relinked, Stamped, Standing, View}
use Rattle.snap_search.specs.{Leads.stand, Walk.at_top, Walk.Walks, declared.down.Spot.Spot}

-- it has reached the child, from the spot
abbrev pub HasCome : Spot → View → ℕ → ℕ → Type 0
HasCome s v key child = (v.way.place ≡ On key (stand s)) × Among child v.trail.reached

-- and all checks have led to it
abbrev pub IsLed : Spot → View → ℕ → ℕ → Type 0
IsLed s v key child = HasCome s v key child × (v.way.confirmed ≡ child ∷ [])

-- what is known at a point
abbrev pub IsFrom : Spot → View → ℕ → Point → Type 0
IsFrom s v key (Standing n w d) = Standing n w d ≡ stand s
IsFrom s v key (NoLink n w d) = v.way.place ≡ On key (stand s)
IsFrom s v key (Linked n w d c) = HasCome s v key c
IsFrom s v key (Stamped n w d c x) = HasCome s v key c
IsFrom s v key (Relinked n w c x) = HasCome s v key c
IsFrom s v key (Confirmed c x) = IsLed s v key c
IsFrom s v key ConfirmedNone = Unit {0}
IsFrom s v key (Matched c) = IsLed s v key c

-- it has come to a point, and has seen no more
pub record Came (s : Spot) (old new : Known) (key : ℕ) (point : Point) : Type 0 where
  pub walks : Walks old new (On key point)
  pub seen : new.view.seen ≡ old.view.seen
  pub from : IsFrom s new.view key point

-- a check has failed
pub record Strays (old new : Known) (key : ℕ) : Type 0 where
  pub walks : Walks old new (at_top key)
  pub seen : new.view.seen ≡ old.view.seen

-- it has passed the key of the child, and goes on below it
pub record Passes (s : Spot) (old new : Known) (key child : ℕ) (next : Spot) : Type 0 where
  pub row : next.row ≡ child
  pub walks : Walks old new (On key (stand next))
  pub seen : new.view.seen ≡ old.view.seen
  pub led : IsLed s new.view key child
