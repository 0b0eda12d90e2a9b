-- Which slots are taken decides whether commands can be run, where the named tables and files are there and values fit.
use Rattle.std.proofs.Common.{suc, zero, ◌≡◌, ◌<◌, ℕ, Bool, true, false, length, get_or, List, [], ◌∷◌, Option, Some, None, refl, sym, ◌∙◌, ap, subst, arith, All, map, replicate, is_some, slice_index_or, slice_set, IsSome, IsNone}
use Rattle.snap_prelude.proofs.Common.{length-set, map-set}
use Rattle.snap_prelude.specs.{Cloned, Command, Known, Reply}
use Rattle.snap_text.specs.{LoadFiles.HasFile, LoadFiles.Loads, LoadFiles.pairs_of, Numbers.FitsValue}
use Rattle.snap_service.specs.Prelude.{CanRun, CanRunAll, clone_at, free_slots, Measured, Serves, SessionState, slots}
use Rattle.snap_service.specs.Prelude.{table_place, with_pass, with_pass_at, with_slot, with_use}

-- of each slot, whether it is taken
abbrev pub taken : {X : Type 0} → List (Option X) → List Bool
taken places = map is_some places

-- free slots
pub taken-replicate : (X : Type 0) (n : ℕ) → (let none : Option X = None in taken (replicate n none)) ≡ replicate n false
taken-replicate X zero = refl
taken-replicate X (suc n) = ap (λ (marks : List Bool). false ∷ marks) (taken-replicate X n)

-- the slots after a command
abbrev pub taken_after : List Bool → Command → List Bool
taken_after marks (Command.Snap slot name) = slice_set marks slot true
taken_after marks (Command.Forget slot name) = slice_set marks slot false
taken_after marks _ = marks

abbrev pub IsMarked : List Bool → ℕ → Type 0
IsMarked marks slot = slice_index_or marks slot false ≡ true

-- the command clones into a free slot, or names a taken one
abbrev pub FitsSlots : List Bool → Command → Type 0
FitsSlots marks (Command.Table name) = Unit {0}
FitsSlots marks (Command.Put key value) = Unit {0}
FitsSlots marks (Command.Remove key) = Unit {0}
FitsSlots marks (Command.Get key) = Unit {0}
FitsSlots marks (Command.Snap slot name) = slice_index_or marks slot true ≡ false
FitsSlots marks (Command.Forget slot name) = IsMarked marks slot
FitsSlots marks (Command.See slot key) = IsMarked marks slot
FitsSlots marks (Command.First slot) = IsMarked marks slot
FitsSlots marks (Command.Last slot) = IsMarked marks slot
FitsSlots marks (Command.Floor slot key) = IsMarked marks slot
FitsSlots marks (Command.Lower slot key) = IsMarked marks slot
FitsSlots marks (Command.Ceiling slot key) = IsMarked marks slot
FitsSlots marks (Command.Higher slot key) = IsMarked marks slot
FitsSlots marks (Command.Count slot lo hi) = IsMarked marks slot
FitsSlots marks (Command.Depth slot) = IsMarked marks slot
FitsSlots marks (Command.Export slot lo hi file) = IsMarked marks slot
FitsSlots marks (Command.Load file) = Unit {0}

-- each command does, as those before it leave the slots
abbrev pub AllFitSlots : List Bool → List Command → Type 0
AllFitSlots marks [] = Unit {0}
AllFitSlots marks (c ∷ cs) = FitsSlots marks c × AllFitSlots (taken_after marks c) cs

-- a session has the command, the table or the file that it names, and room for its values
abbrev pub IsServed : List (List ℕ) → Loads → Command → Type 0
IsServed names loads (Command.Table name) = IsSome (table_place names name)
IsServed names loads (Command.Put key value) = FitsValue value
IsServed names loads (Command.Load file) = HasFile loads file × All (λ (pair : ℕ × ℕ). FitsValue pair.1) (pairs_of loads file)
IsServed names loads _ = Unit {0}

abbrev pub AllServed : List (List ℕ) → Loads → List Command → Type 0
AllServed names loads [] = Unit {0}
AllServed names loads (c ∷ cs) = IsServed names loads c × AllServed names loads cs

-- the mark of a slot is whether it has a clone
marked : {X : Type 0} (places : List (Option X)) (i : ℕ) → get_or (taken places) i false ≡ true → IsSome (get_or places i None)
marked [] i is = is
marked (place ∷ places) zero is = is
marked (place ∷ places) (suc i) is = marked places i is

unmarked : {X : Type 0} (places : List (Option X)) (i : ℕ) → get_or (taken places) i true ≡ false → (i < length places) × IsNone (get_or places i None)
unmarked [] i is = absurd cc
unmarked (place ∷ places) zero is = (omega arith, is)
unmarked (place ∷ places) (suc i) is = let rest = unmarked places i is in (omega (arith, rest.0), rest.1)

can_run : (s : SessionState) (loads : Loads) (c : Command) → length s.clones ≡ slots → FitsSlots (taken s.clones) c → IsServed s.tables.names loads c → CanRun s loads c
can_run s loads (Command.Table name) places fits served = served
can_run s loads (Command.Put key value) places fits served = served
can_run s loads (Command.Remove key) places fits served = tt
can_run s loads (Command.Get key) places fits served = tt
can_run s loads (Command.Snap slot name) places fits served = let free = unmarked s.clones slot fits in (omega (arith, free.0, places), free.1)
can_run s loads (Command.Forget slot name) places fits served = marked s.clones slot fits
can_run s loads (Command.See slot key) places fits served = marked s.clones slot fits
can_run s loads (Command.First slot) places fits served = marked s.clones slot fits
can_run s loads (Command.Last slot) places fits served = marked s.clones slot fits
can_run s loads (Command.Floor slot key) places fits served = marked s.clones slot fits
can_run s loads (Command.Lower slot key) places fits served = marked s.clones slot fits
can_run s loads (Command.Ceiling slot key) places fits served = marked s.clones slot fits
can_run s loads (Command.Higher slot key) places fits served = marked s.clones slot fits
can_run s loads (Command.Count slot lo hi) places fits served = marked s.clones slot fits
can_run s loads (Command.Depth slot) places fits served = marked s.clones slot fits
can_run s loads (Command.Export slot lo hi file) places fits served = marked s.clones slot fits
can_run s loads (Command.Load file) places fits served = served

-- what a command leaves of the slots and of the names
record Leaves (a b : SessionState) (marks : List Bool) : Type 0 where
  pub marks_are : taken b.clones ≡ marks
  pub places : length b.clones ≡ length a.clones
  pub names : b.tables.names ≡ a.tables.names

all_stay : (a : SessionState) → Leaves a a (taken a.clones)
all_stay a = record { marks_are = refl; places = refl; names = refl }

pass_leaves : (a : SessionState) (t : ℕ) (pass : Known) → Leaves a (with_pass_at a t pass) (taken a.clones)
pass_leaves a t pass = record { marks_are = refl; places = refl; names = refl }

use_leaves : (a : SessionState) (name : List ℕ) → Leaves a (with_use a name) (taken a.clones)
use_leaves a name = record { marks_are = refl; places = refl; names = refl }

left_by : (a b made : SessionState) (marks : List Bool) → b ≡ made → Leaves a made marks → Leaves a b marks
left_by a b made marks is h = subst (λ (s : SessionState). Leaves a s marks) (sym is) h

measured_leaves : (a b : SessionState) (c : Option (ℕ × Cloned)) (r : Reply) → Measured c a r b → Leaves a b (taken a.clones)
measured_leaves a b None r h = absurd h
measured_leaves a b (Some live) r h = left_by a b (with_pass_at a live.0 h.1) (taken a.clones) h.2 (pass_leaves a live.0 h.1)

leaves : (a : SessionState) (loads : Loads) (c : Command) (r : Reply) (b : SessionState) → Serves loads a c r b → Leaves a b (taken_after (taken a.clones) c)
leaves a loads (Command.Table name) r b h = left_by a b (with_use a name) (taken a.clones) h.1 (use_leaves a name)
leaves a loads (Command.Put key value) r b h = left_by a b (with_pass a h.0) (taken a.clones) h.1 (pass_leaves a a.in_use h.0)
leaves a loads (Command.Remove key) r b h = left_by a b (with_pass a h.0) (taken a.clones) h.1 (pass_leaves a a.in_use h.0)
leaves a loads (Command.Get key) r b h = left_by a b (with_pass a h.0) (taken a.clones) h.1 (pass_leaves a a.in_use h.0)
leaves a loads (Command.Snap slot name) r b h =
    let some : Option (ℕ × Cloned) = Some (a.in_use, h.2) in
    left_by a b (with_slot (with_pass a h.1) slot some) (slice_set (taken a.clones) slot true) h.3 (record { marks_are = map-set is_some a.clones slot some; places = length-set a.clones slot some; names = refl })
leaves a loads (Command.Forget slot name) r b h = left_by a b (with_slot a slot None) (slice_set (taken a.clones) slot false) h.1 (record { marks_are = map-set is_some a.clones slot None; places = length-set a.clones slot None; names = refl })
leaves a loads (Command.See slot key) r b h = left_by a b a (taken a.clones) h.0 (all_stay a)
leaves a loads (Command.First slot) r b h = left_by a b a (taken a.clones) h.0 (all_stay a)
leaves a loads (Command.Last slot) r b h = left_by a b a (taken a.clones) h.0 (all_stay a)
leaves a loads (Command.Floor slot key) r b h = left_by a b a (taken a.clones) h.0 (all_stay a)
leaves a loads (Command.Lower slot key) r b h = left_by a b a (taken a.clones) h.0 (all_stay a)
leaves a loads (Command.Ceiling slot key) r b h = left_by a b a (taken a.clones) h.0 (all_stay a)
leaves a loads (Command.Higher slot key) r b h = left_by a b a (taken a.clones) h.0 (all_stay a)
leaves a loads (Command.Count slot lo hi) r b h = left_by a b a (taken a.clones) h.0 (all_stay a)
leaves a loads (Command.Depth slot) r b h = measured_leaves a b (clone_at a slot) r h
leaves a loads (Command.Export slot lo hi file) r b h = left_by a b a (taken a.clones) h.0 (all_stay a)
leaves a loads (Command.Load file) r b h = left_by a b (with_pass a h.0) (taken a.clones) h.1 (pass_leaves a a.in_use h.0)

-- commands that fit the slots, and that are served, can all be run
pub can_run_all : (s : SessionState) (loads : Loads) (cs : List Command) → length s.clones ≡ slots → AllFitSlots (taken s.clones) cs → AllServed s.tables.names loads cs → CanRunAll s loads cs
can_run_all s loads [] places fit served = tt
can_run_all s loads (c ∷ cs) places fit served = (
  can_run s loads c places fit.0 served.0,
  λ r next serves. let left = leaves s loads c r next serves in
      can_run_all next loads cs (left.places ∙ places)
      (subst (λ (marks : List Bool). AllFitSlots marks cs) (sym left.marks_are) fit.1)
      (subst (λ (names : List (List ℕ)). AllServed names loads cs) (sym left.names) served.1),
)

-- in a session without clones
pub can_run_new : (s : SessionState) (loads : Loads) (names : List (List ℕ)) (cs : List Command) → s.tables.names ≡ names → s.clones ≡ free_slots → AllFitSlots (replicate slots false) cs → AllServed names loads cs → CanRunAll s loads cs
can_run_new s loads names cs named free fit served = can_run_all s loads cs (ap (λ (cl : List (Option (ℕ × Cloned))). length cl) free)
    (subst (λ (marks : List Bool). AllFitSlots marks cs) (sym (ap (λ (cl : List (Option (ℕ × Cloned))). taken cl) free ∙ taken-replicate (ℕ × Cloned) slots)) fit)
    (subst (λ (ns : List (List ℕ)). AllServed ns loads cs) (sym named) served)
