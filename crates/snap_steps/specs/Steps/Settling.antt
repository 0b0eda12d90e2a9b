-- The steps of repair beside unlinking and rotations: heights, and where the to-do key moves.
use Rattle.std.specs.Prelude.{◌≡◌, ◌≢◌, ◌⊎◌, ℕ, ◌+◌, [], ◌∷◌, List, None, Some, max}
use Rattle.atomic_table.specs.Table.{Step}
use Rattle.snap_rule.specs.Debt.{IsListed, no_debt}
use Rattle.snap_rule.specs.Debt.Lists.{or_else, taken}
use Rattle.snap_rule.specs.Settled.{IsBalanced, one_more}
use Rattle.snap_rule.specs.declared.reader.Point.TheVariants.{Standing, NoLink}
use Rattle.snap_rule.specs.declared.reader.Reading.TheVariants.{On}
use Rattle.snap_stamp.specs.declared.layout.Field.TheVariants.{Height, Left, Right, Stamp, Value}
use Rattle.snap_stamp.specs.declared.side.Side.{Side}
use Rattle.snap_stamp.specs.declared.side.Side.TheVariants as sides
use Rattle.snap_steps.specs.Counting.{Among}
use Rattle.snap_steps.specs.Facts.{IsKnown, IsBorn, forgotten, fact, heights_forgotten, word_in}
use Rattle.snap_steps.specs.States.{link_field}
use Rattle.snap_steps.specs.Steps.Changes.{AimsAt}
use Rattle.snap_steps.specs.Steps.Copies.{IsOlder}
use Rattle.snap_steps.specs.Steps.Debts.{listing, aimed_at, KnowsReason}
use Rattle.snap_steps.specs.Steps.Fields.{read}
use Rattle.snap_steps.specs.Steps.Told.{Sat, Has}
use Rattle.snap_steps.specs.Steps.Unlinking.{IsPair}
use Rattle.snap_steps.specs.declared.view.ChildHeight.{ChildHeight}
use Rattle.snap_steps.specs.declared.view.View.{View}

abbrev pub child_at : ℕ → Side → ℕ → ChildHeight
child_at r d h = record { row = r; side = d; height = h }

-- this height was loaded below the row
abbrev pub IsBelow : List ChildHeight → ℕ → Side → ℕ → Type 0
IsBelow [] r d h = ⊥
IsBelow (x ∷ xs) r d h = ((x.row ≡ r) × (x.side ≡ d) × (x.height ≡ h)) ⊎ IsBelow xs r d h

-- the height below a held row, 0 for no child
abbrev pub HasHeight : View → ℕ → Side → ℕ → Type 0
HasHeight v r d h = (IsKnown v.words.knows r (link_field d) 0 × (h ≡ 0)) ⊎ IsBelow v.heights r d h

-- the height of a held row's child was loaded
abbrev pub height_read : View → ℕ → Side → ℕ → ℕ → View
height_read v r d child h = record (read v child Height h) { heights = child_at r d h ∷ v.heights }

abbrev pub height_loaded : ℕ → Side → ℕ → Step (Unit {0}) → Sat → ℕ → Sat → Type 0
height_loaded r d child st m h n = Has m n (height_read m.0 r d child h)

-- the heights below a row, and the right height over them
pub record IsRightHeight (v : View) (r h : ℕ) : Type 0 where
  pub left : ℕ
  pub right : ℕ
  pub has_left : HasHeight v r sides.Left left
  pub has_right : HasHeight v r sides.Right right
  pub sum : h ≡ one_more (max left right)

-- the row is listed with the stamp that it is known to have
pub record IsNoted (v : View) (r : ℕ) : Type 0 where
  pub stamp : ℕ
  pub still : IsKnown v.words.knows r Stamp stamp
  pub listed : IsListed r stamp v.debt.list

-- what the debt has to be for a height below the parent
abbrev pub AimsByHeight : View → ℕ → ℕ → Type 0
AimsByHeight v parent r = KnowsReason v
    ⊎ (v.debt.to_do ≡ None)
    ⊎ AimsAt v r
    ⊎ AimsAt v parent
    ⊎ IsNoted v parent
    ⊎ (parent ≡ 0)

-- the row has a new height, by which the parent may be unsettled
abbrev pub heightened : View → ℕ → ℕ → ℕ → ℕ → View
heightened v parent r key h = record v {
  trail = record v.trail { steps = v.trail.steps + 1 };
  words = record v.words { knows = fact r Height h ∷ forgotten v.words.knows r Height };
  heights = heights_forgotten v.heights parent;
  debt = record {
    to_do = or_else v.debt.to_do key;
    list = listing parent
        (word_in v.words.knows parent Stamp) v.debt.list;
    turning = v.debt.turning;
  };
}

abbrev pub StoresHeight : ℕ → ℕ → ℕ → Step (Unit {0}) → Sat → ℕ → Sat → Type 0
StoresHeight parent r key st m n n' = Has m n' (heightened m.0 parent r key st.first)

-- what is known of the row shows that it is settled
pub record IsSeenSettled (v : View) (r : ℕ) : Type 0 where
  pub height : ℕ
  pub left : ℕ
  pub right : ℕ
  pub is_height : IsKnown v.words.knows r Height height
  pub has_left : HasHeight v r sides.Left left
  pub has_right : HasHeight v r sides.Right right
  pub balanced : IsBalanced height left right
  pub full : ((x : ℕ) × (x ≢ 0) × IsKnown v.words.knows r Value x)
      ⊎ ((a : ℕ) × (b : ℕ) × (a ≢ 0) × (b ≢ 0) × IsKnown v.words.knows r Left a
      × IsKnown v.words.knows r Right b)

-- the settled row is taken off the list, and the to-do key goes up
abbrev pub passed_up : View → ℕ → ℕ → ℕ → View
passed_up v parent key r = record v {
  trail = record v.trail { steps = v.trail.steps + 1 };
  debt = aimed_at parent key (taken r v.debt.list);
}

-- the last listed row is settled: nothing is left to do
abbrev pub settled_last : View → View
settled_last v = record v { trail = record v.trail { steps = v.trail.steps + 1 }; debt = no_debt }

-- the row is the last one of this epoch on the way of the to-do key: the way found it so, and it
-- still has the stamp
pub record IsLastOn (v : View) (r : ℕ) : Type 0 where
  pub key : ℕ
  pub to_do : v.debt.to_do ≡ Some key
  pub stamp : ℕ
  pub side : Side
  pub still : IsKnown v.words.knows r Stamp stamp
  pub at : ((v.way.reads ≡ On key (NoLink r stamp side))
      × IsKnown v.words.knows r (link_field side) 0)
      ⊎ ((v.way.place ≡ On key (Standing r stamp side))
      × ((IsKnown v.words.knows r (link_field side) 0)
      ⊎ ((child : ℕ) × IsKnown v.words.knows r (link_field side) child × IsOlder v child)))

-- the row's parent is held, and the to-do key is its key
pub record IsBelowAim (v : View) (r : ℕ) : Type 0 where
  pub parent : ℕ
  pub side : Side
  pub pair : IsPair v parent side r
  pub aims : AimsAt v parent

-- the to-do key may come to be that of the row: nothing that is owed is left behind
abbrev pub MayAimAt : View → ℕ → Type 0
MayAimAt v r = AimsAt v r ⊎ IsLastOn v r ⊎ IsBelowAim v r

-- row 0, or a live row
abbrev pub IsHeldRow : View → ℕ → Type 0
IsHeldRow v r = Among r v.holds × ((r ≡ 0) ⊎ ((Among r v.trail.reached) × IsBorn v r))

-- the to-do key is that of the row. At row 0 nothing is left to do
abbrev pub aimed_view : View → ℕ → ℕ → ℕ → View
aimed_view v r key x = record (read v r Stamp x) { debt = aimed_at r key v.debt.list }

-- `pass_up` and `settle_last` load the row's height and `aim` its stamp, and each tells of the debt
abbrev pub up_passed : ℕ → ℕ → ℕ → Step (Unit {0}) → Sat → ℕ → Sat → Type 0
up_passed parent key r st m x n = Has m n (passed_up m.0 parent key r)

abbrev pub last_settled : Step (Unit {0}) → Sat → ℕ → Sat → Type 0
last_settled st m x n = Has m n (settled_last m.0)

abbrev pub row_aimed : ℕ → ℕ → Step (Unit {0}) → Sat → ℕ → Sat → Type 0
row_aimed r key st m x n = Has m n (aimed_view m.0 r key x)
