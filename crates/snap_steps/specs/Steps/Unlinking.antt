-- The two steps by which a row without a value and with one child at most leaves its tree.
use Rattle.std.specs.Prelude.{◌≡◌, ◌≢◌, ◌⊎◌, ℕ, ◌+◌, ◌∷◌}
use Rattle.atomic_table.specs.Table.{Step}
use Rattle.snap_rule.specs.Debt.{no_debt}
use Rattle.snap_rule.specs.Debt.Lists.{taken}
use Rattle.snap_rule.specs.declared.change.Doing.TheVariants.{Nothing, Unlinked}
use Rattle.snap_stamp.specs.declared.layout.Field.TheVariants.{Key, Stamp, Left, Right, Value}
use Rattle.snap_stamp.specs.declared.side.Side.{Side}
use Rattle.snap_stamp.specs.declared.side.Side.TheVariants as sides
use Rattle.snap_steps.specs.Counting.{Among}
use Rattle.snap_steps.specs.Facts.{IsKnown, IsBorn, forgotten, fact, heights_forgotten, word_in}
use Rattle.snap_steps.specs.States.{link_field}
use Rattle.snap_steps.specs.Steps.Changes.{AimsAt}
use Rattle.snap_steps.specs.Steps.Debts.{listing, aimed_at, KnowsReason}
use Rattle.snap_steps.specs.Steps.Told.{Sat, Has}
use Rattle.snap_steps.specs.declared.view.View.{View}

-- row 0 on its right side, or a row that is known to be live
abbrev pub IsUpper : View → ℕ → Side → Type 0
IsUpper v parent p =
    ((parent ≡ 0) × (p ≡ sides.Right)) ⊎ ((Among parent v.trail.reached) × IsBorn v parent)

-- a row and its parent: both held, live and joined so
pub record IsPair (v : View) (parent : ℕ) (p : Side) (r : ℕ) : Type 0 where
  pub held_parent : Among parent v.holds
  pub held : Among r v.holds
  pub upper : IsUpper v parent p
  pub reached : Among r v.trail.reached
  pub born : IsBorn v r
  pub child : IsKnown v.words.knows parent (link_field p) r
  pub apart : parent ≢ r

-- the row has no value, and at most this one child
pub record IsRouting (v : View) (r only : ℕ) : Type 0 where
  pub no_value : IsKnown v.words.knows r Value 0
  pub one : (IsKnown v.words.knows r Left 0 × IsKnown v.words.knows r Right only)
      ⊎ (IsKnown v.words.knows r Right 0 × IsKnown v.words.knows r Left only)

-- the key of the parent, which row 0 has none
abbrev pub HasKey : View → ℕ → ℕ → Type 0
HasKey v parent key = (parent ≡ 0) ⊎ IsKnown v.words.knows parent Key key

-- nothing is owed but on the paths of the row or of its parent, or there is a reason
abbrev pub AimsNear : View → ℕ → ℕ → Type 0
AimsNear v parent r = (v.debt ≡ no_debt) ⊎ KnowsReason v ⊎ AimsAt v r ⊎ AimsAt v parent

-- the row has the unlinked mark. It is owed no more, and its parent is
abbrev pub unlinked : View → ℕ → Side → ℕ → ℕ → ℕ → ℕ → View
unlinked v parent p r only key x = record v {
  trail = record v.trail { steps = v.trail.steps + 1 };
  doing = Unlinked parent p r only;
  words = record v.words { knows = fact r Stamp x ∷ forgotten v.words.knows r Stamp };
  heights = heights_forgotten (heights_forgotten v.heights parent) r;
  debt = aimed_at parent key
      (taken r (listing parent (word_in v.words.knows parent Stamp) v.debt.list));
}

-- the parent's link leads past it
abbrev pub row_spliced : View → ℕ → Side → ℕ → View
row_spliced v parent p only = record v {
  trail = record v.trail { steps = v.trail.steps + 1 };
  doing = Nothing;
  words = record v.words
      { knows = fact parent (link_field p) only ∷ forgotten v.words.knows parent (link_field p) };
}

abbrev pub unlinked_stored : ℕ → Side → ℕ → ℕ → ℕ → Step (Unit {0}) → Sat → ℕ → Sat → Type 0
unlinked_stored parent p r only key st m n n' = Has m n' (unlinked m.0 parent p r only key st.first)

abbrev pub splice_stored : Step (Unit {0}) → Sat → ℕ → Sat → Type 0
splice_stored st m r n = (parent row only : ℕ) (p : Side) → m.0.doing ≡ Unlinked parent p row only
    → Has m n (row_spliced m.0 parent p only)
