-- The numbers for which a view speaks, how often these entered, closed and cut, and what they drew.
use Rattle.std.specs.Prelude.{ℕ, List, [], ◌∷◌, ◌+◌, ◌++◌, length}
use Rattle.snap_steps.specs.declared.view.Admitted.{Admitted}
use Rattle.snap_steps.specs.declared.view.View.{View}
use Rattle.snap_steps.specs.Roles.{own_number}
use Rattle.snap_steps.specs.Counting.{times, total}

abbrev pub numbers_of : List Admitted → List ℕ
numbers_of [] = []
numbers_of (a ∷ more) = a.who ∷ numbers_of more

-- the number of a pass, and those that it admitted
abbrev pub numbers : View → List ℕ
numbers v = own_number v.role v.who ++ numbers_of v.admitted

abbrev pub admitted_of : View → Admitted
admitted_of w = record { who = w.who; mine = w.mine; cuts = w.cuts; uses = w.uses; drawn = w.drawn }

abbrev pub all_uses : View → ℕ
all_uses v = v.uses + total (λ (a : Admitted). a.uses) v.admitted

abbrev pub all_cuts : View → ℕ
all_cuts v = length v.cuts + total (λ (a : Admitted). length a.cuts) v.admitted

-- how often a row stands in what the view and the numbers that it admitted drew, and how many rows
-- these are
abbrev pub times_drawn : ℕ → View → ℕ
times_drawn r v = times r v.drawn + total (λ (a : Admitted). times r a.drawn) v.admitted

abbrev pub all_drawn : View → ℕ
all_drawn v = length v.drawn + total (λ (a : Admitted). length a.drawn) v.admitted
