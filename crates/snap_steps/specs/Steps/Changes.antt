-- The steps of a rotation.
use Rattle.std.specs.Prelude.{◌≡◌, ◌≢◌, ◌⊎◌, ℕ, ◌+◌, ◌∷◌, Some}
use Rattle.atomic_table.specs.Table.{Step}
use Rattle.snap_rule.specs.declared.change.Doing.TheVariants.{Shrunk}
use Rattle.snap_stamp.specs.declared.layout.Field.TheVariants.{Key, Stamp}
use Rattle.snap_stamp.specs.declared.side.Side.{Side}
use Rattle.snap_steps.specs.declared.view.View.{View}
use Rattle.snap_steps.specs.Counting.{Among}
use Rattle.snap_rule.specs.Debt.{no_debt}
use Rattle.snap_steps.specs.Steps.Debts.{listing, KnowsReason}
use Rattle.snap_steps.specs.States.{link_field}
use Rattle.snap_steps.specs.Facts.{IsKnown, IsBorn, forgotten, fact}
use Rattle.snap_steps.specs.Steps.Told.{Sat, Has}
use Rattle.snap_stamp.specs.declared.side.Side.TheVariants as sides
use Rattle.snap_steps.specs.Memory.{row}

-- a row, its parent and its child that is to be raised: all held, born and joined so
pub record IsTurn (v : View) (parent : ℕ) (p : Side) (r : ℕ) (d : Side) (raised : ℕ) : Type 0 where
  pub held_parent : Among parent v.holds
  pub held : Among r v.holds
  pub held_raised : Among raised v.holds
  pub parent_born : ((parent ≡ 0) × (p ≡ sides.Right))
      ⊎ ((Among parent v.trail.reached) × IsBorn v parent)
  pub reached : Among r v.trail.reached
  pub born : IsBorn v r
  pub raised_reached : Among raised v.trail.reached
  pub raised_born : IsBorn v raised
  pub child : IsKnown v.words.knows parent (link_field p) r
  pub raised_child : IsKnown v.words.knows r (link_field d) raised
  pub apart : (raised ≢ r) × (parent ≢ r) × (parent ≢ raised)

-- the to-do key is that of a row, which isn't row 0
pub record AimsAt (v : View) (r : ℕ) : Type 0 where
  pub is_row : r ≢ 0
  pub key : ℕ
  pub is_key : IsKnown v.words.knows r Key key
  pub to_do : v.debt.to_do ≡ Some key

-- the to-do key once the row is marked: the row's key, or the raised row's where it is that already
abbrev pub TurnsFor : View → ℕ → ℕ → ℕ → ℕ → Type 0
TurnsFor v parent r raised key =
    IsKnown v.words.knows r Key key
    × ((v.debt ≡ no_debt) ⊎ KnowsReason v ⊎ AimsAt v r ⊎ AimsAt v parent)
    ⊎ IsKnown v.words.knows raised Key key × (KnowsReason v ⊎ (v.debt.to_do ≡ Some key))

-- the row has the shrinking mark
abbrev pub shrunk : View → ℕ → Side → ℕ → Side → ℕ → ℕ → ℕ → View
shrunk v parent p r d raised x key = record v {
  trail = record v.trail { steps = v.trail.steps + 1 };
  debt = record { to_do = Some key; list = listing r x v.debt.list; turning = Some r };
  doing = Shrunk parent p r d raised;
  words = record v.words
      { knows = fact r Stamp x ∷ forgotten v.words.knows r Stamp };
}

abbrev pub shrinking_stored : ℕ → Side → ℕ → Side → ℕ → ℕ → Step (Unit {0}) → Sat → ℕ → Sat → Type 0
shrinking_stored parent p row d raised key st m r n =
    Has m n (shrunk m.0 parent p row d raised st.first key)
