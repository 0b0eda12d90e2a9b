-- The steps of a rotation after the first: each makes of its pass's view what the change in it
-- says.
use Rattle.std.specs.Prelude.{◌≡◌, ◌≢◌, ◌⊎◌, ℕ, ◌+◌, ◌∷◌, Some, None}
use Rattle.atomic_table.specs.Table.{Step}
use Rattle.snap_rule.specs.Debt.{IsListed}
use Rattle.snap_rule.specs.declared.change.Doing.TheVariants.{Nothing, Shrunk, Lowered, Lifted, Turned}
use Rattle.snap_stamp.specs.Sides.{other}
use Rattle.snap_stamp.specs.declared.layout.Field.TheVariants.{Key, Stamp}
use Rattle.snap_stamp.specs.declared.side.Side.{Side}
use Rattle.snap_steps.specs.Facts.{IsKnown, forgotten, fact, heights_forgotten, word_in}
use Rattle.snap_steps.specs.States.{link_field}
use Rattle.snap_steps.specs.Steps.Debts.{listing}
use Rattle.snap_steps.specs.Steps.Told.{Sat, Has}
use Rattle.snap_steps.specs.declared.view.View.{View}

-- the row's link leads to the subtree between the two
abbrev pub lowered : View → ℕ → Side → ℕ → Side → ℕ → ℕ → View
lowered v parent p r d raised middle = record v {
  trail = record v.trail { steps = v.trail.steps + 1 };
  doing = Lowered parent p r d raised;
  words = record v.words
      { knows = fact r (link_field d) middle ∷ forgotten v.words.knows r (link_field d) };
}

-- the raised row's link leads to the row
abbrev pub lifted : View → ℕ → Side → ℕ → Side → ℕ → View
lifted v parent p r d raised = record v {
  trail = record v.trail { steps = v.trail.steps + 1 };
  doing = Lifted parent p r d raised;
  words = record v.words {
    knows = fact raised (link_field (other d)) r
        ∷ forgotten v.words.knows raised (link_field (other d));
  };
}

-- the parent's link leads to the raised row: each of the three rows has another child
abbrev pub link_turned : View → ℕ → Side → ℕ → ℕ → ℕ → View
link_turned v parent p r raised key = record v {
  trail = record v.trail { steps = v.trail.steps + 1 };
  doing = Turned r;
  words = record v.words
      { knows = fact parent (link_field p) raised ∷ forgotten v.words.knows parent (link_field p) };
  heights = heights_forgotten (heights_forgotten (heights_forgotten v.heights parent) r) raised;
  debt = record {
    to_do = Some key;
    list = listing r (word_in v.words.knows r Stamp)
        (listing raised (word_in v.words.knows raised Stamp)
        (listing parent (word_in v.words.knows parent Stamp) v.debt.list));
    turning = Some r;
  };
}

-- a row's stamp is known
abbrev pub HasStamp : View → ℕ → Type 0
HasStamp v n = (x : ℕ) × IsKnown v.words.knows n Stamp x

-- those of the three rows are, but for that of row 0
abbrev pub HasStamps : View → ℕ → ℕ → ℕ → Type 0
HasStamps v parent r raised = ((parent ≡ 0) ⊎ HasStamp v parent) × HasStamp v r × HasStamp v raised

-- the parent is listed with any stamp that is known of it
abbrev pub turn_stored : Step (Unit {0}) → Sat → ℕ → Sat → Type 0
turn_stored st m n n' = (parent row raised key : ℕ) (p d : Side)
    → m.0.doing ≡ Lifted parent p row d raised → IsKnown m.0.words.knows row Key key
    → Has m n' (link_turned m.0 parent p row raised key)
    × ((x : ℕ) → parent ≢ 0 → IsKnown m.0.words.knows parent Stamp x
    → IsListed parent x (link_turned m.0 parent p row raised key).debt.list)

-- the row's shrinking mark is cleared
abbrev pub cleared : View → ℕ → ℕ → View
cleared v r x = record v {
  trail = record v.trail { steps = v.trail.steps + 1 };
  doing = Nothing;
  words = record v.words { knows = fact r Stamp x ∷ forgotten v.words.knows r Stamp };
  debt = record { to_do = v.debt.to_do; list = listing r x v.debt.list; turning = None };
}

abbrev pub lowered_stored : Step (Unit {0}) → Sat → ℕ → Sat → Type 0
lowered_stored st m n n' = (parent row raised : ℕ) (p d : Side)
    → m.0.doing ≡ Shrunk parent p row d raised
    → Has m n' (lowered m.0 parent p row d raised st.first)

abbrev pub lifted_stored : Step (Unit {0}) → Sat → ℕ → Sat → Type 0
lifted_stored st m n n' = (parent row raised : ℕ) (p d : Side)
    → m.0.doing ≡ Lowered parent p row d raised → Has m n' (lifted m.0 parent p row d raised)

-- the pass has been lowering the row, so it has a to-do key
abbrev pub cleared_stored : Step (Unit {0}) → Sat → ℕ → Sat → Type 0
cleared_stored st m n n' = (row : ℕ) → m.0.doing ≡ Turned row
    → Has m n' (cleared m.0 row st.first) × (m.0.debt.turning ≡ Some row)
