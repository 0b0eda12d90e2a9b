-- What repairs answer, and why they may stop.
use Rattle.std.specs.Prelude.{◌≡◌, ◌⊎◌, ◌+◌, ◌≤◌, ℕ, List, [], ◌∷◌, ◌++◌, Option, None, Some, true, false, Bool}
use Rattle.snap_prelude.specs.{Among, Becomes, count_of, Fact, IsKnown, Known, last_count, Leans}
use Rattle.snap_prelude.specs.{no_debt, Nothing, other, Side, Stamp, unlocked, View, Writing}
use Rattle.snap_repair.specs.{Lowering.IsHigher, Lowering.WantsCopy, Mending.Looks, Mending.Mends, Mending.MendsTo}
use Rattle.snap_repair.specs.{declared.answer.Repaired.Repaired}
use Rattle.snap_repair.specs.declared.answer.Repaired.TheVariants.{Done, RowsOut, StampOut}
use Rattle.snap_shape.specs.{declared.grip.Turn.Turn, Grips.Leads}

-- what a pass needs for repairs
pub record IsMending (v : View) : Type 0 where
  pub writing : (made : Bool) × (counted : Bool) × (v.stage ≡ Writing made counted)
  pub whole : v.doing ≡ Nothing

-- the held row has its stamp at the greatest count, as a load found
pub record HasLastStamp (v : View) (row : ℕ) : Type 0 where
  pub held : Among row v.holds
  pub stamp : ℕ
  pub found : IsKnown v.words.knows row Stamp stamp
  pub last : count_of stamp ≡ last_count
  pub worn : v.noted.worn ≡ true

-- the row is to be lowered: one of its sides is higher by two at least; or it is the child on such
-- a side of another row, and its own other side is the higher one
abbrev pub IsToLower : View → ℕ → Type 0
IsToLower v r = ((d : Side) × Leans v r d)
    ⊎ ((upper : ℕ) × (d : Side) × Leans v upper d × Leads v upper d r × IsHigher v r (other d))

-- a load in this call found the row's stamp to be this one, at the greatest count: for it the pass
-- was refused the row
abbrev pub IsRefused : (old new : Known) → ℕ → ℕ → Type 0
IsRefused old new row stamp = (more : List Fact)
    × (new.view.words.refused ≡ old.view.words.refused ++ more)
    × IsKnown more row Stamp stamp

-- a look found the stamp of a held row at the greatest count
pub record FindsWorn (old new : Known) (row : ℕ) : Type 0 where
  pub looks : Looks old new
  pub last : HasLastStamp new.view row
  pub noted : IsRefused old new row last.stamp

-- rows are freed, one after another
abbrev pub freed : List ℕ → View → View
freed [] v = v
freed (r ∷ rs) v = freed rs (unlocked v r)

-- and nothing else was done
abbrev pub Frees : Known → Known → Type 0
Frees old new = (rows : List ℕ) × Becomes old new (freed rows old.view)

-- at a moment of the pass a row has its own stamp at the greatest count, as a load of this call
-- under its lock found, and is to be lowered by what the pass knew at that same moment. After it
-- rows were freed, and no more
pub record IsWornOut (old new moment : Known) (row : ℕ) : Type 0 where
  pub before : Mends old moment
  pub last : HasLastStamp moment.view row
  pub to_lower : IsToLower moment.view row
  pub noted : IsRefused old new row last.stamp
  pub after : Frees moment new
  pub worn : new.view.noted.worn ≡ true

-- at a moment of the pass a rotation wants a copy of a child of an earlier epoch, and a load of
-- this call found that every row was handed out. After it rows were freed, and no more
pub record IsRowsOut (rows : ℕ) (old new moment : Known) (found : ℕ) : Type 0 where
  pub all : found ≡ rows
  pub before : MendsTo true old moment
  pub parent : ℕ
  pub side : Side
  pub wants : WantsCopy moment.view parent side
  pub after : Frees moment new
  pub full : rows ≤ new.view.noted.handed

-- the row was lowered: the parent leads to the row that came up, and the row has the next count
pub record Lowers (old new : Known) (t : Turn) : Type 0 where
  pub mends : Mends old new
  pub holds : new.view.holds ≡ old.view.holds
  pub above : Leads new.view t.parent.row t.parent_side t.raised.row
  pub count : IsKnown new.view.words.knows t.row.row Stamp (t.row.stamp + 4)

-- so it was, or its stamp is at the greatest count
abbrev pub Turns : Known → Known → Turn → Bool → Type 0
Turns old new t true = Lowers old new t
Turns old new t false = FindsWorn old new t.row.row

-- what an answer tells
abbrev pub TellsRepair : ℕ → Known → Known → Repaired → Type 0
TellsRepair rows old new Done = new.view.debt ≡ no_debt
TellsRepair rows old new (RowsOut n at) = IsRowsOut rows old new at.value n
TellsRepair rows old new (StampOut row at) = IsWornOut old new at.value row

-- whether it tells of a full table
abbrev pub is_full : Repaired → Bool
is_full Done = false
is_full (RowsOut n at) = true
is_full (StampOut row at) = false

-- what a try of a repair tells, which stops the repair or doesn't
abbrev pub Stops : ℕ → Known → Known → Option Repaired → Type 0
Stops rows old new None = Unit {0}
Stops rows old new (Some why) = TellsRepair rows old new why

abbrev pub stops_full : Option Repaired → Bool
stops_full None = false
stops_full (Some why) = is_full why

-- nothing is owed any more, and no row was freed
pub record EndsRepair (old new : Known) : Type 0 where
  pub mends : Mends old new
  pub holds : new.view.holds ≡ old.view.holds
  pub debt : new.view.debt ≡ no_debt

-- a try of a repair
pub record TriesRepair (rows : ℕ) (old new : Known) (why : Option Repaired) : Type 0 where
  pub mends : MendsTo (stops_full why) old new
  pub holds : new.view.holds ≡ old.view.holds
  pub stops : Stops rows old new why

-- the pass owes nothing, or the answer says why it stopped. A load of this call found that every
-- row was handed out where the answer says so, and only there
pub record Repairs (rows : ℕ) (old new : Known) (answer : Repaired) : Type 0 where
  pub mends : MendsTo (is_full answer) old new
  pub holds : new.view.holds ≡ old.view.holds
  pub tells : TellsRepair rows old new answer
