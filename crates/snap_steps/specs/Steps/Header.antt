-- Loads of the header. Each tells which word it loaded, so that a note is of that word and of no
-- other.
use Rattle.std.specs.Prelude.{[], ◌∷◌, ◌++◌, List, ℕ, ◌≡◌, ◌≤◌, max}
use Rattle.atomic_table.specs.Table.{Step}
use Rattle.snap_steps.specs.declared.view.View.{View}
use Rattle.snap_steps.specs.declared.view.WordNote.{WordNote}
use Rattle.snap_steps.specs.Stages.{with_epoch, after_left}
use Rattle.snap_steps.specs.declared.view.WordNote.TheVariants.{Next, Gate, Done}
use Rattle.snap_steps.specs.Steps.Told.{Sat, Has}
use Rattle.snap_steps.specs.Counting.{Among}
use Rattle.snap_steps.specs.Memory.{next_at, gate_at, left_at, epoch_at}
use Rattle.snap_steps.specs.declared.view.WordNote.TheVariants as notes

-- the greatest note of `next` so far, and that of `epoch`
abbrev pub handed_after : ℕ → WordNote → ℕ
handed_after h (Next n) = max h n
handed_after h (Gate g) = h
handed_after h (notes.Left a) = h
handed_after h (Done d) = h
handed_after h (notes.Epoch e) = h
handed_after h (notes.Birth k b) = h
handed_after h notes.Trouble = h

abbrev pub epochs_after : ℕ → WordNote → ℕ
epochs_after h (Next n) = h
epochs_after h (Gate g) = h
epochs_after h (notes.Left a) = h
epochs_after h (Done d) = h
epochs_after h (notes.Epoch e) = max h e
epochs_after h (notes.Birth k b) = h
epochs_after h notes.Trouble = h

abbrev pub word_noted : View → WordNote → View
word_noted v n = record v {
  noted = record v.noted {
    notes = v.noted.notes ++ n ∷ [];
    handed = handed_after v.noted.handed n;
    epochs = epochs_after v.noted.epochs n;
  };
}

-- several notes more, in their order
abbrev pub all_handed : ℕ → List WordNote → ℕ
all_handed h [] = h
all_handed h (n ∷ ns) = all_handed (handed_after h n) ns

abbrev pub all_epochs : ℕ → List WordNote → ℕ
all_epochs h [] = h
all_epochs h (n ∷ ns) = all_epochs (epochs_after h n) ns

abbrev pub all_noted : View → List WordNote → View
all_noted v l = record v {
  noted = record v.noted {
    notes = v.noted.notes
        ++ l;
    handed = all_handed v.noted.handed l;
    epochs = all_epochs v.noted.epochs l;
  };
}

-- the epoch was loaded
abbrev pub epoch_noted : View → ℕ → View
epoch_noted v n =
    let u : View = word_noted v (notes.Epoch n) in
    record u { words = record u.words { present = with_epoch v.stage n v.words.present } }

abbrev pub left_seen : View → ℕ → View
left_seen v r = record (word_noted v (notes.Left r)) { stage = after_left v.stage r }

abbrev pub next_loaded : Step (Unit {0}) → Sat → ℕ → Sat → Type 0
next_loaded st m r n =
    (st.word ≡ next_at) × Has m n (word_noted m.0 (Next r)) × (r ≤ m.0.rows) × (m.0.base.drawn ≤ r)

abbrev pub gate_loaded : Step (Unit {0}) → Sat → ℕ → Sat → Type 0
gate_loaded st m r n = (st.word ≡ gate_at) × Has m n (word_noted m.0 (Gate r))

abbrev pub left_loaded : Step (Unit {0}) → Sat → ℕ → Sat → Type 0
left_loaded st m r n = (st.word ≡ left_at) × Has m n (left_seen m.0 r)

abbrev pub epoch_loaded : Step (Unit {0}) → Sat → ℕ → Sat → Type 0
epoch_loaded st m r n = (st.word ≡ epoch_at)
    × Has m n (epoch_noted m.0 r)
    × ((e : ℕ) → Among e m.0.words.present → r ≡ e)
