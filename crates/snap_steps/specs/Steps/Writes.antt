-- The steps that make the entry of a write, and the step that counts it.
use Rattle.std.specs.Prelude.{zero, suc, ℕ, Option, true, false, List, [], ◌∷◌, ◌++◌, ◌≡◌, ◌⊎◌, None, Some}
use Rattle.atomic_table.specs.Table.{Step}
use Rattle.snap_model.specs.declared.call.Call.{Call}
use Rattle.snap_model.specs.declared.call.Call.TheVariants.{Put, Remove}
use Rattle.snap_model.specs.declared.call.Entry.{Entry}
use Rattle.snap_rule.specs.Tree.{value_of}
use Rattle.snap_rule.specs.declared.reader.Point.TheVariants.{Standing, NoLink}
use Rattle.snap_rule.specs.declared.reader.Reading.TheVariants.{Resting, On}
use Rattle.snap_stamp.specs.Layout.{word_at}
use Rattle.snap_stamp.specs.declared.layout.Field.{Field}
use Rattle.snap_stamp.specs.declared.layout.Field.TheVariants.{Value, Key, Birth, Height, Left, Right, Stamp}
use Rattle.snap_stamp.specs.declared.side.Side.{Side}
use Rattle.snap_steps.specs.declared.view.View.{View}
use Rattle.snap_steps.specs.declared.view.Stage.TheVariants.{Writing}
use Rattle.snap_model.specs.History.{call_key}
use Rattle.snap_rule.specs.declared.debt.Debt.{Debt}
use Rattle.snap_steps.specs.Steps.Debts.{listing}
use Rattle.snap_steps.specs.Facts.{forgotten, fact, IsKnown, IsBorn, forgotten_row, word_in}
use Rattle.snap_steps.specs.Counting.{removed, Among}
use Rattle.snap_steps.specs.States.{link_field}
use Rattle.snap_steps.specs.Steps.Told.{Sat, Has}
use Rattle.snap_steps.specs.Histories.{Enters}
use Rattle.snap_model.specs.declared.call.Call.TheVariants as calls
use Rattle.snap_steps.specs.Memory.{field}

-- the word n in a row's value word: a put, or a removal where it is 0
abbrev pub call_of : ℕ → ℕ → Call
call_of key zero = Remove key
call_of key (suc v) = Put key v

abbrev pub entry_of : ℕ → Call → Option ℕ → Entry
entry_of who call reply = record { who = who; call = call; reply = reply }

-- the debt of a write that puts a leaf below the parent, and of one that stores a value word
abbrev pub leaf_debt_in : View → ℕ → ℕ → Debt
leaf_debt_in v key parent = record {
  to_do = Some key;
  list = listing parent (word_in v.words.knows parent Stamp) [];
  turning = None;
}

abbrev pub value_debt : View → ℕ → ℕ → ℕ → Debt
value_debt v key r zero = leaf_debt_in v key r
value_debt v key r (suc x) = v.debt

-- the value word of a held row was written, and the entry of the write made
abbrev pub stored : View → List Entry → Entry → ℕ → ℕ → View
stored v log e r n = record v {
  heights = [];
  debt = value_debt v (call_key e.call) r n;
  way = record v.way { reads = Resting };
  seen = log ++ e ∷ [];
  mine = v.mine ++ e ∷ [];
  stage = Writing true false;
  words = record v.words
      { knows = fact r Value n ∷ forgotten v.words.knows r Value };
}

-- the entry of the write was made by a step that wrote nothing
abbrev pub made_entry : View → List Entry → Entry → View
made_entry v log e = record v {
  heights = [];
  way = record v.way { reads = Resting };
  seen = log ++ e ∷ [];
  mine = v.mine ++ e ∷ [];
  stage = Writing true false;
}

-- what was stored in the row makes it a leaf of this epoch
pub record IsLeaf (v : View) (r a_key a_value : ℕ) : Type 0 where
  pub own : Among r v.fresh.own
  pub key : IsKnown v.fresh.wrote r Key a_key
  pub value : IsKnown v.fresh.wrote r Value (suc a_value)
  pub height : IsKnown v.fresh.wrote r Height 1
  pub left : IsKnown v.fresh.wrote r Left 0
  pub right : IsKnown v.fresh.wrote r Right 0
  pub birth : ℕ
  pub is_birth : IsKnown v.fresh.wrote r Birth birth
  pub now : Among birth v.words.present

-- the way of the key ends below the held row: its stamp is as the pass found it, and its link is 0
pub record IsLeafPlace (v : View) (key parent : ℕ) (f : Field) : Type 0 where
  pub held : Among parent v.holds
  pub stamp : ℕ
  pub side : Side
  pub way : (v.way.reads ≡ On key (Standing parent stamp side))
      ⊎ (v.way.reads ≡ On key (NoLink parent stamp side))
  pub by_side : f ≡ link_field side
  pub still : IsKnown v.words.knows parent Stamp stamp
  pub none : IsKnown v.words.knows parent f 0
  pub live : (parent ≡ 0) ⊎ IsBorn v parent

-- a row of the pass was linked below a held one and is reached, and the entry of the write made
abbrev pub hung : View → List Entry → Entry → ℕ → Field → ℕ → View
hung v log e parent f r = record v {
  heights = [];
  trail = record v.trail { reached = r ∷ v.trail.reached };
  debt = leaf_debt_in v (call_key e.call) parent;
  way = record v.way { reads = Resting };
  seen = log ++ e ∷ [];
  mine = v.mine ++ e ∷ [];
  stage = Writing true false;
  fresh = record v.fresh
      { own = removed r v.fresh.own; wrote = forgotten_row v.fresh.wrote r };
  words = record v.words { knows = fact parent f r ∷ forgotten v.words.knows parent f };
}

abbrev pub counted_one : View → View
counted_one v = record v { stage = Writing true true }

abbrev pub StoresValue : Step (Unit {0}) → Sat → ℕ → Sat → Type 0
StoresValue st m r n = (row : ℕ) → st.word ≡ word_at row Value
    → (key : ℕ) × ((x : ℕ) → IsKnown m.0.words.knows row Key x → x ≡ key)
    × ((x : ℕ) → IsKnown m.0.words.knows row Value x → r ≡ x) × (log : List Entry)
    × Enters m.0 log (entry_of m.0.who (call_of key st.first) (value_of r))
    × Has m n (stored m.0 log (entry_of m.0.who (call_of key st.first) (value_of r)) row st.first)

-- a removal of the key found nothing
abbrev pub ConfirmsAbsent : ℕ → Step (Unit {0}) → Sat → ℕ → Sat → Type 0
ConfirmsAbsent key st m r n = (log : List Entry)
    × Enters m.0 log (entry_of m.0.who (Remove key) None)
    × Has m n (made_entry m.0 log (entry_of m.0.who (Remove key) None))

-- a row with the key and the value was linked below the parent
abbrev pub leaf_hung : ℕ → ℕ → ℕ → Field → Step (Unit {0}) → Sat → ℕ → Sat → Type 0
leaf_hung key value parent field st m r n = (log : List Entry)
    × Enters m.0 log (entry_of m.0.who (calls.Put key value) None)
    × Has m n (hung m.0 log (entry_of m.0.who (calls.Put key value) None) parent field st.first)

abbrev pub done_counted : Step (Unit {0}) → Sat → ℕ → Sat → Type 0
done_counted st m r n = Has m n (counted_one m.0)
