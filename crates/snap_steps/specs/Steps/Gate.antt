-- Entering a write and leaving it, closing the gate, cutting and opening it again.
use Rattle.std.specs.Prelude.{◌≡◌, ◌+◌, false, ℕ, [], List, length, ◌∷◌, ◌++◌}
use Rattle.atomic_table.specs.Table.{Step}
use Rattle.snap_model.specs.declared.call.Entry.{Entry}
use Rattle.snap_rule.specs.declared.reader.Reading.TheVariants.{Resting}
use Rattle.snap_rule.specs.Debt.{no_debt}
use Rattle.snap_steps.specs.declared.view.Part.{Part}
use Rattle.snap_steps.specs.declared.view.Balance.{Balance}
use Rattle.snap_steps.specs.declared.view.View.{View}
use Rattle.snap_steps.specs.declared.view.Stage.TheVariants.{Writing, Closing, Idle}
use Rattle.snap_steps.specs.Stages.{after_cut}
use Rattle.snap_steps.specs.Memory.{gate_at}
use Rattle.snap_steps.specs.Steps.Header.{word_noted}
use Rattle.snap_steps.specs.declared.view.WordNote.TheVariants.{Gate}
use Rattle.snap_steps.specs.Steps.Told.{Sat, Tried, Has}
use Rattle.snap_steps.specs.Histories.{Extends}
use Rattle.snap_steps.specs.Ending.{KnowsCuts}
use Rattle.snap_steps.specs.Clones.{parts_of, IsCloneOf, ArePlaced, IsWeighed}
use Rattle.snap_rule.specs.Tree.{Tree}

-- a write begins without a debt, and without a place: its own search has to find one
abbrev pub entered : View → View
entered v = record v {
  stage = Writing false false;
  uses = v.uses
      + 1;
  way = record v.way { reads = Resting; place = Resting };
  fresh = record v.fresh { copies = [] };
  debt = no_debt;
}

abbrev pub closed : View → ℕ → View
closed v gate = record v { stage = Closing gate false false; uses = v.uses + 1 }

abbrev pub idled : View → View
idled v = record v { stage = Idle; words = record v.words { present = [] }; debt = no_debt }

-- the closing pass has cut a clone with this history and tree, where so many rows were handed out,
-- and has seen all
abbrev pub cut_with : View → List Entry → List Part → (drawn : ℕ) → Balance → View
cut_with v seen parts drawn balance =
    record v {
      seen = seen;
      way = record v.way { reads = Resting };
      stage = after_cut v.stage;
      cuts = v.cuts ++ length seen ∷ [];
      base =
          record {
            history = seen;
            parts = parts;
            noted = length v.noted.notes;
            drawn = drawn;
            balance = balance;
          };
    }

abbrev pub cut_made : View → List Entry → Tree → (drawn : ℕ) → Balance → View
cut_made v seen image drawn balance = cut_with v seen (parts_of image) drawn balance

abbrev pub entering_tried : Step (Unit {0}) → Sat → ℕ → Sat → Type 0
entering_tried st m r n =
    (st.word ≡ gate_at) × Tried st m r n (entered m.0) (word_noted m.0 (Gate r))

abbrev pub closing_tried : Step (Unit {0}) → Sat → ℕ → Sat → Type 0
closing_tried st m r n =
    (st.word ≡ gate_at) × Tried st m r n (closed m.0 st.second) (word_noted m.0 (Gate r))

abbrev pub ended : Step (Unit {0}) → Sat → ℕ → Sat → Type 0
ended st m r n = Has m n (idled m.0)

abbrev pub cut_told : Step (Unit {0}) → Sat → ℕ → Sat → Type 0
cut_told st m r n = (seen : List Entry)
    × (image : Tree) × (drawn : ℕ)
    × (balance : Balance) × Extends m.0 seen
    × IsCloneOf seen image
    × ArePlaced m.0.rows image
    × IsWeighed m.0.rows drawn image balance
    × Has m n (cut_made m.0 seen image drawn balance)
    × KnowsCuts m.0
