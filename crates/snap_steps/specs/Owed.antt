-- What a pass keeps of its debt beside its seat: the to-do key, and which rows are listed.
use Rattle.std.specs.Prelude.{◌≡◌, ◌≢◌, ◌⊎◌, ◌↔◌, ◌≤◌, ◌<◌, ◌+◌, ℕ, zero, suc, List, None, Some}
use Rattle.snap_rule.specs.Debt.{IsListed, no_debt}
use Rattle.snap_rule.specs.declared.debt.Debt.{Debt}
use Rattle.snap_rule.specs.declared.debt.Mark.{Mark}
use Rattle.snap_steps.specs.declared.owed.Listed.{Listed}
use Rattle.snap_steps.specs.declared.owed.Listed.TheVariants.{Empty, One, Two, Three, Many}
use Rattle.snap_steps.specs.declared.owed.Tally.{Tally}

-- the row is named, or may be one of those that aren't told
abbrev pub Names : Listed → ℕ → Type 0
Names Empty n = ⊥
Names (One a) n = n ≡ a
Names (Two a b) n = (n ≡ a) ⊎ (n ≡ b)
Names (Three a b c) n = (n ≡ a) ⊎ (n ≡ b) ⊎ (n ≡ c)
Names Many n = Unit {0}

-- how many places the rows take. Rows that aren't told take one more than there are
abbrev pub places : Listed → ℕ
places Empty = 0
places (One a) = 1
places (Two a b) = 2
places (Three a b c) = 3
places Many = 4

-- beside the rows that were named just this one is, in one place; where there is none, all may be
pub record IsMore (old : Listed) (r : ℕ) (new : Listed) : Type 0 where
  pub names : (n : ℕ) → Names new n ↔ (Names old n ⊎ (n ≡ r) ⊎ (new ≡ Many))
  pub few : places new ≤ places old + 1

-- the row is listed too, once. Row 0 never is
pub record IsWith (old : Listed) (r : ℕ) (new : Listed) : Type 0 where
  pub had : (r ≡ 0) ⊎ Names old r → new ≡ old
  pub more : r ≢ 0 → (Names old r → ⊥) → IsMore old r new

-- just the other rows are still listed, in no more places, and the row's is free. Where rows aren't
-- told, this one may be listed still
pub record IsWithout (old : Listed) (r : ℕ) (new : Listed) : Type 0 where
  pub names : (n : ℕ) → Names new n ↔ ((Names old n × (n ≢ r)) ⊎ (old ≡ Many))
  pub few : places new ≤ places old
  pub free : Names old r → (places new < places old) ⊎ (old ≡ Many)

abbrev pub nothing_owed : Tally
nothing_owed = record { to_do = None; listed = Empty }

-- one row is owed on the way of the key
abbrev pub owed_one : ℕ → ℕ → Tally
owed_one key zero = record { to_do = Some key; listed = Empty }
owed_one key (suc n) = record { to_do = Some key; listed = One (suc n) }

-- what is owed once a value word was stored: the row, where its value is gone
abbrev pub after_value : Tally → ℕ → ℕ → ℕ → Tally
after_value o key row zero = owed_one key row
after_value o key row (suc x) = o

-- the to-do key comes to be that of the row. At row 0 nothing is left to do
abbrev pub owed_at : ℕ → ℕ → Listed → Tally
owed_at zero key o = nothing_owed
owed_at (suc n) key o = record { to_do = Some key; listed = o }

-- each row of the list is named
abbrev pub NamesEach : Listed → List Mark → Type 0
NamesEach o l = (n x : ℕ) → IsListed n x l → Names o n

-- what is kept tells of the debt: its to-do key, without which it is none; and each row of its list
pub record TellsDebt (t : Tally) (u : Debt) : Type 0 where
  pub to_do_is : t.to_do ≡ u.to_do
  pub keyless : t.to_do ≡ None → u ≡ no_debt
  pub rows : NamesEach t.listed u.list

-- no other row is listed
abbrev pub ListsOnly : ℕ → List Mark → Type 0
ListsOnly r l = (n x : ℕ) → IsListed n x l → n ≡ r
