-- Readers: a step that evolves the table keeps what is said of them, and each load brings them to
-- their next point.
use Rattle.std.specs.Prelude.{List, None, ℕ, ◌≡◌, ◌≢◌}
use Rattle.snap_model.specs.History.{Begins, told}
use Rattle.snap_model.specs.declared.call.Entry.{Entry}
use Rattle.snap_stamp.specs.Sides.{Toward}
use Rattle.snap_stamp.specs.Stamps.{IsUnmarked}
use Rattle.snap_stamp.specs.declared.side.Side.{Side}
use Rattle.snap_stamp.specs.declared.side.Side.TheVariants.{Right}
use Rattle.snap_rule.specs.Evolves.{Evolves}
use Rattle.snap_rule.specs.Moments.{AtSome}
use Rattle.snap_rule.specs.Position.{IsPlaced, IsRecorded}
use Rattle.snap_rule.specs.Reader.{ReaderOk}
use Rattle.snap_rule.specs.Rule.{TableOk}
use Rattle.snap_rule.specs.State.{State}
use Rattle.snap_rule.specs.Tree.{value_of}
use Rattle.snap_rule.specs.declared.reader.Point.{Point}
use Rattle.snap_rule.specs.declared.reader.Point.TheVariants.{Confirmed, ConfirmedNone, Linked, Matched, NoLink, Relinked, Stamped, Standing}

-- a position that is tied to a recorded stamp stays one as long as the row has that stamp
abbrev pub PositionKept : Type 0
PositionKept = (s s' : State) (seen : List Entry) (k n v : ℕ) → Evolves s s' → Begins seen s.history
    → IsRecorded s n v → (s.stamp n ≡ v → IsPlaced s seen n k) → s'.stamp n ≡ v
    → IsPlaced s' seen n k

-- what is known at a point stays known
abbrev pub ReaderKept : Type 0
ReaderKept = (s s' : State) (seen : List Entry) (k : ℕ) (t : Point) → Evolves s s'
    → ReaderOk s seen k t → ReaderOk s' seen k t

-- a way starts at row 0, with stamp 0, to the right
abbrev pub WayStarts : Type 0
WayStarts = (s : State) (seen : List Entry) (k : ℕ) → Begins seen s.history
    → ReaderOk s seen k (Standing 0 0 Right)

-- the link is 0: the key is absent, if the row has its stamp still
abbrev pub LinkNone : Type 0
LinkNone = (s : State) (seen : List Entry) (k n v : ℕ) (d : Side) → TableOk s
    → ReaderOk s seen k (Standing n v d) → s.link n d ≡ 0 → ReaderOk s seen k (NoLink n v d)

-- the link names a child, which was linked
abbrev pub LinkFound : Type 0
LinkFound = (s : State) (seen : List Entry) (k n v c : ℕ) (d : Side) → TableOk s
    → ReaderOk s seen k (Standing n v d) → s.link n d ≡ c → c ≢ 0
    → ReaderOk s seen k (Linked n v d c)

-- the child's stamp has no mark, so the child isn't unlinked yet
abbrev pub StampLoaded : Type 0
StampLoaded = (s : State) (seen : List Entry) (k n v c w : ℕ) (d : Side)
    → ReaderOk s seen k (Linked n v d c) → s.stamp c ≡ w → IsUnmarked w
    → ReaderOk s seen k (Stamped n v d c w)

-- the link names the child once more: if the row has its stamp still, the way goes on at the child
abbrev pub LinkAgain : Type 0
LinkAgain = (s : State) (seen : List Entry) (k n v c w : ℕ) (d : Side) → TableOk s
    → ReaderOk s seen k (Stamped n v d c w) → s.link n d ≡ c
    → ReaderOk s seen k (Relinked n v c w)

-- the row has its stamp still, after a link of 0
abbrev pub NoneConfirmed : Type 0
NoneConfirmed = (s : State) (seen : List Entry) (k n v : ℕ) (d : Side)
    → ReaderOk s seen k (NoLink n v d) → s.stamp n ≡ v → ReaderOk s seen k ConfirmedNone

-- the row has its stamp still, after a child
abbrev pub RowConfirmed : Type 0
RowConfirmed = (s : State) (seen : List Entry) (k n v c w : ℕ)
    → ReaderOk s seen k (Relinked n v c w) → s.stamp n ≡ v → ReaderOk s seen k (Confirmed c w)

-- the child has another key, so the reader stands at it
abbrev pub KeyDiffers : Type 0
KeyDiffers = (s : State) (seen : List Entry) (k c w : ℕ) (d : Side) → TableOk s
    → ReaderOk s seen k (Confirmed c w) → Toward d k (s.key c) → ReaderOk s seen k (Standing c w d)

-- the child has the key
abbrev pub KeyMatches : Type 0
KeyMatches = (s : State) (seen : List Entry) (k c w : ℕ) → ReaderOk s seen k (Confirmed c w)
    → s.key c ≡ k → ReaderOk s seen k (Matched c)

-- the child's value is what the map had at the key at some moment since the reader began
abbrev pub ValueLoaded : Type 0
ValueLoaded = (s : State) (seen : List Entry) (k c : ℕ) → ReaderOk s seen k (Matched c)
    → AtSome seen s.history (λ p. value_of (s.value c) ≡ told p k)

-- and so is none, where the way has ended
abbrev pub NoneAnswered : Type 0
NoneAnswered = (s : State) (seen : List Entry) (k : ℕ) → ReaderOk s seen k ConfirmedNone
    → AtSome seen s.history (λ p. None ≡ told p k)
