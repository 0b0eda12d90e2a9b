-- What a pass finds out of a held row before it repairs it.
use Rattle.std.specs.Prelude.{◌≢◌, ◌≡◌, ◌⊎◌, ◌≤◌, ◌+◌, ℕ, max}
use Rattle.snap_repair.specs.declared.look.Look.{Look}
use Rattle.snap_prelude.specs.{HasHeight, Height, IsBalanced, IsKnown, IsOlder, link_field, one_more, Side, Value, View}
use Rattle.snap_stamp.specs.declared.layout.Field.TheVariants.{Left, Right}

-- the link leads to another row, or to none
abbrev pub LeadsPast : View → ℕ → Side → ℕ → Type 0
LeadsPast v p d r = (x : ℕ) × (x ≢ r) × IsKnown v.words.knows p (link_field d) x

-- the value, the links and the height of the row, and the heights below it
pub record HasLook (rows : ℕ) (v : View) (r : ℕ) (l : Look) : Type 0 where
  pub value : IsKnown v.words.knows r Value l.value
  pub left : IsKnown v.words.knows r Left l.left
  pub right : IsKnown v.words.knows r Right l.right
  pub height : IsKnown v.words.knows r Height l.height
  pub left_height : HasHeight v r Side.Left l.left_height
  pub right_height : HasHeight v r Side.Right l.right_height
  pub low : (l.left ≤ rows) × (l.right ≤ rows)
  pub none : (l.left ≡ 0 → l.left_height ≡ 0) × (l.right ≡ 0 → l.right_height ≡ 0)

-- no value, and at most one child
abbrev pub Routes : Look → Type 0
Routes l = (l.value ≡ 0) × ((l.left ≡ 0) ⊎ (l.right ≡ 0))

abbrev pub only_of : Look → ℕ → Type 0
only_of l c = ((l.left ≡ 0) × (c ≡ l.right)) ⊎ ((l.right ≡ 0) × (c ≡ l.left))

-- the stored height on a side, and the child there
abbrev pub height_on : Look → Side → ℕ
height_on l Side.Left = l.left_height
height_on l Side.Right = l.right_height

abbrev pub child_on : Look → Side → ℕ
child_on l Side.Left = l.left
child_on l Side.Right = l.right

-- one side is higher by two at least
abbrev pub LeansTo : Look → Side → Type 0
LeansTo l Side.Left = l.right_height + 2 ≤ l.left_height
LeansTo l Side.Right = l.left_height + 2 ≤ l.right_height

-- the height over the two
abbrev pub height_over : Look → ℕ
height_over l = one_more (max l.left_height l.right_height)

-- the heights differ by one at most
abbrev pub IsEven : Look → Type 0
IsEven l = (l.left_height ≤ l.right_height + 1) × (l.right_height ≤ l.left_height + 1)

abbrev pub LooksSettled : Look → Type 0
LooksSettled l = IsBalanced l.height l.left_height l.right_height × (Routes l → ⊥)

-- the link leads to no row, or to one of an earlier epoch
abbrev pub EndsBelow : View → ℕ → Side → Type 0
EndsBelow v r d = IsKnown v.words.knows r (link_field d) 0
    ⊎ ((child : ℕ) × IsKnown v.words.knows r (link_field d) child × IsOlder v child)
