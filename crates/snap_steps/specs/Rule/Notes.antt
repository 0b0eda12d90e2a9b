-- The part of the rule on notes: what was noted of a word that never falls is at most that word,
-- and so is what the cut of a clone found.
use Rattle.std.specs.Prelude.{ℕ, ◌≤◌, List, [], ◌∷◌}
use Rattle.snap_steps.specs.declared.view.WordNote.{WordNote}
use Rattle.snap_steps.specs.declared.view.WordNote.TheVariants.{Next, Epoch}
use Rattle.snap_steps.specs.declared.view.View.{View}

-- a note of a word that never falls is at most that word
abbrev pub IsTrueNote : ℕ → ℕ → WordNote → Type 0
IsTrueNote next epoch (Next n) = n ≤ next
IsTrueNote next epoch (Epoch e) = e ≤ epoch
IsTrueNote next epoch _ = Unit {0}

abbrev pub AreTrueNotes : ℕ → ℕ → List WordNote → Type 0
AreTrueNotes next epoch [] = Unit {0}
AreTrueNotes next epoch (n ∷ ns) = IsTrueNote next epoch n × AreTrueNotes next epoch ns

-- so are the greatest of these that the seat, or one that was joined to it, noted, and the rows
-- that were handed out at the cut of its clone
pub record IsTrueOfHeader (next epoch : ℕ) (notes : List WordNote)
    (handed epochs drawn : ℕ) : Type 0 where
  pub notes_are : AreTrueNotes next epoch notes
  pub handed_is : handed ≤ next
  pub epochs_are : epochs ≤ epoch
  pub drawn_is : drawn ≤ next

abbrev pub KnowsHeader : ℕ → ℕ → View → Type 0
KnowsHeader next epoch v =
    IsTrueOfHeader next epoch v.noted.notes v.noted.handed v.noted.epochs v.base.drawn
