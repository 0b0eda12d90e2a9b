-- Functions of a row, and of a row and a side, that are changed at one place.
use Rattle.std.specs.Prelude.{if◌then◌else◌, ℕ, ◌==◌}
use Rattle.snap_stamp.specs.declared.side.Side.{Side}
use Rattle.snap_stamp.specs.declared.side.Side.TheVariants.{Left, Right}

-- f, but v at r
abbrev pub changed : {A : Type 0} → (ℕ → A) → ℕ → A → ℕ → A
changed f r v x = if x == r then v else f x

-- g, but v on one side
abbrev pub on_side : {A : Type 0} → (Side → A) → Side → A → Side → A
on_side g Left v Left = v
on_side g Left v Right = g Right
on_side g Right v Left = g Left
on_side g Right v Right = v

-- f, but v at r on side d
abbrev pub relink : {A : Type 0} → (ℕ → Side → A) → ℕ → Side → A → ℕ → Side → A
relink f r d v = changed f r (on_side (f r) d v)
