-- A row comes onto a list or is taken off, and the to-do key comes to be that of a row. Row 0 is
-- never listed and has no key.
use Rattle.std.specs.Prelude.{List, None, Option, Some, [], if◌then◌else◌, suc, zero, ℕ, ◌==◌, ◌∷◌, ◌≡◌, ◌≢◌}
use Rattle.snap_rule.specs.Debt.{mark, no_debt}
use Rattle.snap_rule.specs.State.{State}
use Rattle.snap_rule.specs.declared.debt.Debt.{Debt}
use Rattle.snap_rule.specs.declared.debt.Mark.{Mark}

-- a row is listed with the stamp that it has
abbrev pub noted : State → ℕ → List Mark → List Mark
noted s zero l = l
noted s (suc n) l = mark (suc n) (s.stamp (suc n)) ∷ l

-- a row is taken off
abbrev pub taken : ℕ → List Mark → List Mark
taken r [] = []
taken r (m ∷ l) = if m.row == r then taken r l else m ∷ taken r l

-- the debt with this list, when the to-do key comes to be that of a row; at row 0 nothing is left
-- to do
abbrev pub aimed : State → ℕ → List Mark → Debt
aimed s zero l = no_debt
aimed s (suc n) l = record { to_do = Some (s.key (suc n)); list = l; turning = None }

-- the to-do key is that of the row
abbrev pub Aims : State → Debt → ℕ → Type 0
Aims s v n = (n ≢ 0) × (v.to_do ≡ Some (s.key n))

-- a key, where there was none
abbrev pub or_else : Option ℕ → ℕ → Option ℕ
or_else None k = Some k
or_else (Some x) k = Some x
