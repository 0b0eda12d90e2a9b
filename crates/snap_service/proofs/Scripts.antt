-- Scripts use slots of their own count; a session that begins has the same slots free.
use Rattle.std.proofs.Common.{suc, zero, ◌≡◌, ℕ, Bool, true, false, get_or, List, [], ◌∷◌, Option, Some, None, refl, subst, map, is_some, slice_get}
use Rattle.snap_prelude.proofs.Common.{map-set}
use Rattle.snap_prelude.specs.{Command}
use Rattle.snap_text.specs.{declared.script.Line.Line, Clones.all_free, Clones.Slots, Uses.AllUseSlots}
use Rattle.snap_text.specs.{Uses.slots_after, Uses.UsesSlots, LoadFiles.Loads}
use Rattle.snap_service.specs.Prelude.{CanRunAll, free_slots, SessionState}
use Rattle.snap_service.proofs.Slots.{AllFitSlots, AllServed, FitsSlots, can_run_new, taken, taken_after}

-- the mark of a slot that is there
mark_of : (slots : Slots) (slot : ℕ) (place : Option (List ℕ)) (d : Bool) → slice_get slots slot ≡ Some place → get_or (taken slots) slot d ≡ is_some place
mark_of [] slot place d is = absurd cc
mark_of (first ∷ slots) zero place d is = cc
mark_of (first ∷ slots) (suc slot) place d is = mark_of slots slot place d is

fits : (slots : Slots) (c : Command) → UsesSlots slots c → FitsSlots (taken slots) c
fits slots (Command.Table name) uses = tt
fits slots (Command.Put key value) uses = tt
fits slots (Command.Remove key) uses = tt
fits slots (Command.Get key) uses = tt
fits slots (Command.Snap slot name) uses = mark_of slots slot None true uses
fits slots (Command.Forget slot name) uses = mark_of slots slot (Some uses.0) false uses.1
fits slots (Command.See slot key) uses = mark_of slots slot (Some uses.0) false uses.1
fits slots (Command.First slot) uses = mark_of slots slot (Some uses.0) false uses.1
fits slots (Command.Last slot) uses = mark_of slots slot (Some uses.0) false uses.1
fits slots (Command.Floor slot key) uses = mark_of slots slot (Some uses.0) false uses.1
fits slots (Command.Lower slot key) uses = mark_of slots slot (Some uses.0) false uses.1
fits slots (Command.Ceiling slot key) uses = mark_of slots slot (Some uses.0) false uses.1
fits slots (Command.Higher slot key) uses = mark_of slots slot (Some uses.0) false uses.1
fits slots (Command.Count slot lo hi) uses = mark_of slots slot (Some uses.0) false uses.1
fits slots (Command.Depth slot) uses = mark_of slots slot (Some uses.0) false uses.1
fits slots (Command.Export slot lo hi file) uses = mark_of slots slot (Some uses.0) false uses.1
fits slots (Command.Load file) uses = tt

marks_after : (slots : Slots) (c : Command) → taken (slots_after slots c) ≡ taken_after (taken slots) c
marks_after slots (Command.Table name) = refl
marks_after slots (Command.Put key value) = refl
marks_after slots (Command.Remove key) = refl
marks_after slots (Command.Get key) = refl
marks_after slots (Command.Snap slot name) = map-set is_some slots slot (Some name)
marks_after slots (Command.Forget slot name) = map-set is_some slots slot None
marks_after slots (Command.See slot key) = refl
marks_after slots (Command.First slot) = refl
marks_after slots (Command.Last slot) = refl
marks_after slots (Command.Floor slot key) = refl
marks_after slots (Command.Lower slot key) = refl
marks_after slots (Command.Ceiling slot key) = refl
marks_after slots (Command.Higher slot key) = refl
marks_after slots (Command.Count slot lo hi) = refl
marks_after slots (Command.Depth slot) = refl
marks_after slots (Command.Export slot lo hi file) = refl
marks_after slots (Command.Load file) = refl

all_fit : (slots : Slots) (ls : List Line) → AllUseSlots slots ls → AllFitSlots (taken slots) (map (λ l. l.command) ls)
all_fit slots [] uses = tt
all_fit slots (line ∷ ls) uses = (
  fits slots line.command uses.0,
  subst (λ (marks : List Bool). AllFitSlots marks (map (λ (l : Line). l.command) ls)) (marks_after slots line.command)
      (all_fit (slots_after slots line.command) ls uses.1),
)

-- a script that uses its slots well, and that is served, can be run in any session without clones
pub script_can_run : (names : List (List ℕ)) (loads : Loads) (ls : List Line)
    → AllUseSlots all_free ls
    → AllServed names loads (map (λ l. l.command) ls)
    → (s : SessionState) → s.tables.names ≡ names → s.clones ≡ free_slots → CanRunAll s loads (map (λ l. l.command) ls)
unfolding all_free
script_can_run names loads ls uses served s named free =
    can_run_new s loads names (map (λ (l : Line). l.command) ls) named free (all_fit all_free ls uses) served
