-- A reader on its way to a key, between any two of its loads. It had seen a part of the history
-- when it began, and each of its answers stands at some moment since.
use Rattle.std.specs.Prelude.{List, ℕ, ◌≡◌}
use Rattle.snap_model.specs.History.{Begins}
use Rattle.snap_model.specs.declared.call.Entry.{Entry}
use Rattle.snap_stamp.specs.Stamps.{IsUnlinked}
use Rattle.snap_rule.specs.ChildCheck.{HasTold, IsCandidate, IsChild, IsGone, WasAbsent}
use Rattle.snap_rule.specs.Position.{IsRecorded, IsStanding}
use Rattle.snap_rule.specs.State.{In, State}
use Rattle.snap_rule.specs.declared.reader.Point.{Point}
use Rattle.snap_rule.specs.declared.reader.Point.TheVariants.{Confirmed, ConfirmedNone, Linked, Matched, NoLink, Relinked, Stamped, Standing}

-- what is known at each point. The row is n with stamp v, the child c with stamp w
abbrev pub PointOk : State → List Entry → ℕ → Point → Type 0
PointOk s seen k (Standing n v d) = IsStanding s seen k n v d
PointOk s seen k (NoLink n v d) = IsStanding s seen k n v d × (s.stamp n ≡ v → WasAbsent s seen k)
PointOk s seen k (Linked n v d c) = IsStanding s seen k n v d × In c s.linked
PointOk s seen k (Stamped n v d c w) =
    IsStanding s seen k n v d × IsChild s c w × (IsUnlinked (s.stamp c) → IsGone s seen c)
PointOk s seen k (Relinked n v c w) =
    IsRecorded s n v × IsChild s c w × (s.stamp n ≡ v → IsCandidate s seen k c w)
PointOk s seen k (Confirmed c w) = IsChild s c w × IsCandidate s seen k c w
PointOk s seen k ConfirmedNone = WasAbsent s seen k
PointOk s seen k (Matched c) = In c s.linked × (s.key c ≡ k) × HasTold s seen c k

-- the same with what was seen, a part of the history
pub record ReaderOk (s : State) (seen : List Entry) (k : ℕ) (point : Point) : Type 0 where
  pub begins : Begins seen s.history
  pub at_point : PointOk s seen k point
