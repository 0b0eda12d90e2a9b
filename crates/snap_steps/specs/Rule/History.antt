-- The part of the rule on the history: it is legal, what passes have seen begins it, and each
-- number has its own entries.
use Rattle.std.specs.Prelude.{List, [], ◌∷◌, ◌≡◌, ℕ, length, ◌<◌}
use Rattle.snap_model.specs.History.{Begins, calls_of, IsLegal}
use Rattle.snap_model.specs.declared.call.Entry.{Entry}
use Rattle.snap_steps.specs.declared.view.View.{View}
use Rattle.snap_steps.specs.declared.view.Admitted.{Admitted}
use Rattle.snap_steps.specs.Roles.{is_counted}
use Rattle.snap_steps.specs.Counting.{one_if, total}
use Rattle.snap_steps.specs.Each.{Each}
use Rattle.snap_steps.specs.Rule.Names.{names}
use Rattle.snap_steps.specs.declared.view.Role.TheVariants.{Noting, Opening, Passing, Spent}
use Rattle.snap_steps.specs.declared.view.Role.{Role}

abbrev pub AllBegin : List (List Entry) → List Entry → Type 0
AllBegin [] log = Unit {0}
AllBegin (h ∷ hs) log = Begins h log × AllBegin hs log

abbrev pub IsIn : List Entry → View → Type 0
IsIn log v = Begins v.seen log × AllBegin v.joined log

-- what is kept of an admitted number is what the history has of it
abbrev pub AreTheirs : List Entry → List Admitted → Type 0
AreTheirs log [] = Unit {0}
AreTheirs log (a ∷ more) = (a.mine ≡ calls_of log a.who) × AreTheirs log more

-- what a pass calls its own is what the history has of it, and so has what it has seen
abbrev pub IsTrueOf : List Entry → View → Type 0
IsTrueOf log v =
    (is_counted v.role ≡ 1
    → (v.mine ≡ calls_of log v.who) × (calls_of v.seen v.who ≡ calls_of log v.who))
    × AreTheirs log v.admitted
    × AreTheirs v.seen v.admitted

-- whether a seat has seen this many entries of as many: a pass, or, where there are none, the seat
-- that hands out the passes
abbrev pub saw_all : Role → ℕ → ℕ → ℕ
saw_all Opening seen all = one_if 0 all
saw_all Passing seen all = one_if seen all
saw_all Noting seen all = 0
saw_all Spent seen all = 0

abbrev pub whole : List Entry → View → ℕ
whole log v = saw_all v.role (length v.seen) (length log)

pub record IsHistory (log : List Entry) (views : List View) : Type 0 where
  pub legal : IsLegal log
  pub seen : Each (IsIn log) views
  pub longest : 0 < total (whole log) views
  pub mine : Each (IsTrueOf log) views
  pub others : (i : ℕ) → total (names i) views ≡ 0 → calls_of log i ≡ []
