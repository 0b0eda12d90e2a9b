-- The part of the rule on places: the row from which a reader last went on for a key.
use Rattle.std.specs.Prelude.{◌≡◌, ◌⊎◌, ℕ}
use Rattle.snap_rule.specs.Position.{Faces, IsRecorded}
use Rattle.snap_rule.specs.State.{State as Table, IsShared}
use Rattle.snap_rule.specs.Tree.{OnWay}
use Rattle.snap_rule.specs.declared.reader.Point.{Point}
use Rattle.snap_rule.specs.declared.reader.Point.TheVariants.{Standing, NoLink, Linked, Stamped, Relinked, Confirmed, ConfirmedNone, Matched}
use Rattle.snap_rule.specs.declared.reader.Reading.{Reading}
use Rattle.snap_rule.specs.declared.reader.Reading.TheVariants.{On, Resting}
use Rattle.snap_stamp.specs.declared.side.Side.{Side}
use Rattle.snap_steps.specs.declared.view.View.{View}

-- as long as the row has the stamp, it is row 0, shared, or a row of the tree on the way to the key
pub record IsPlace (s : Table) (k n x : ℕ) (d : Side) : Type 0 where
  pub stamp : IsRecorded s n x
  pub faces : Faces s n k d
  pub placed : s.stamp n ≡ x → (n ≡ 0) ⊎ IsShared s n ⊎ (¬ IsShared s n) × OnWay s.tree k n

abbrev pub PlaceAt : Table → ℕ → Point → Type 0
PlaceAt s k (Standing n v d) = IsPlace s k n v d
PlaceAt s k (NoLink n v d) = Unit {0}
PlaceAt s k (Linked n v d c) = Unit {0}
PlaceAt s k (Stamped n v d c w) = Unit {0}
PlaceAt s k (Relinked n v c w) = Unit {0}
PlaceAt s k (Confirmed c w) = Unit {0}
PlaceAt s k ConfirmedNone = Unit {0}
PlaceAt s k (Matched c) = Unit {0}

abbrev pub PlaceKnown : Table → Reading → Type 0
PlaceKnown s Resting = Unit {0}
PlaceKnown s (On k t) = PlaceAt s k t

-- the place that the pass last went on from
abbrev pub KnowsPlace : Table → View → Type 0
KnowsPlace s v = PlaceKnown s v.way.place
