-- The two sides of a row.
use Rattle.std.specs.Prelude.{ℕ, ◌<◌}
use Rattle.snap_stamp.specs.declared.layout.Field.{Field}
use Rattle.snap_stamp.specs.declared.layout.Field.TheVariants as fields
use Rattle.snap_stamp.specs.declared.side.Side.{Side}
use Rattle.snap_stamp.specs.declared.side.Side.TheVariants.{Left, Right}

abbrev pub other : Side → Side
other Left = Right
other Right = Left

-- k lies on this side of the key
abbrev pub Toward : Side → ℕ → ℕ → Type 0
Toward Left k key = k < key
Toward Right k key = key < k

-- the field with the link on this side
abbrev pub link_field : Side → Field
link_field Left = fields.Left
link_field Right = fields.Right
