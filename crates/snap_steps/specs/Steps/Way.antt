-- A reader on its way to a key: the point that it has come to decides the next word, and the word
-- the next point.
use Rattle.std.specs.Prelude.{ℕ, List, [], ◌∷◌, ◌++◌, zero, suc, ◌==◌, ◌%◌, nat_lt, cond, ◌≤◌, ◌+◌, ◌≡◌, None, length}
use Rattle.atomic_table.specs.Table.{Step}
use Rattle.snap_model.specs.History.{told}
use Rattle.snap_model.specs.declared.call.Entry.{Entry}
use Rattle.snap_rule.specs.Tree.{value_of}
use Rattle.snap_rule.specs.declared.reader.Point.{Point}
use Rattle.snap_rule.specs.declared.reader.Point.TheVariants.{Standing, NoLink, Linked, Stamped, Relinked, Confirmed, ConfirmedNone, Matched}
use Rattle.snap_rule.specs.declared.reader.Reading.{Reading}
use Rattle.snap_rule.specs.declared.reader.Reading.TheVariants.{On, Resting}
use Rattle.snap_stamp.specs.declared.layout.Field.{Field}
use Rattle.snap_stamp.specs.declared.layout.Field.TheVariants.{Key, Stamp, Value}
use Rattle.snap_steps.specs.declared.view.View.{View}
use Rattle.snap_steps.specs.States.{link_field}
use Rattle.snap_steps.specs.Steps.Header.{word_noted}
use Rattle.snap_steps.specs.declared.view.WordNote.TheVariants.{Done}
use Rattle.snap_steps.specs.Memory.{done_at}
use Rattle.snap_steps.specs.Steps.Told.{Sat, Has}
use Rattle.snap_steps.specs.Histories.{Extends}
use Rattle.snap_stamp.specs.declared.side.Side.TheVariants as sides

-- a reader sets out for a key from row 0
abbrev pub set_out_for : View → List Entry → ℕ → View
set_out_for v seen key = record v {
  seen = seen;
  way = record
      { reads = On key (Standing 0 0 sides.Right); confirmed = []; place = Resting };
}

-- a reader sets out for a key again, and has seen no more
abbrev pub begun_again : View → ℕ → View
begun_again v key = record v {
  trail = record v.trail { steps = v.trail.steps + 1 };
  way = record { reads = On key (Standing 0 0 sides.Right); confirmed = []; place = Resting };
}

-- where the reader is once it has loaded its next word: at row 0 again where a word is another than
-- it must be
abbrev pub next_point : ℕ → Point → ℕ → Reading
next_point k (Standing n v d) zero = On k (NoLink n v d)
next_point k (Standing n v d) (suc c) = On k (Linked n v d (suc c))
next_point k (NoLink n v d) x = Resting
next_point k (Linked n v d c) x =
    cond (x % 4 == 0) (On k (Stamped n v d c x)) (On k (Standing 0 0 sides.Right))
next_point k (Stamped n v d c w) x =
    cond (x == c) (On k (Relinked n v c w)) (On k (Standing 0 0 sides.Right))
next_point k (Relinked n v c w) x =
    cond (x == v) (On k (Confirmed c w)) (On k (Standing 0 0 sides.Right))
next_point k (Confirmed c w) x = cond (x == k) (On k (Matched c))
    (On k (Standing c w (cond (nat_lt k x) sides.Left sides.Right)))
next_point k ConfirmedNone x = Resting
next_point k (Matched c) x = Resting

abbrev pub goes_on : Reading → ℕ → Reading
goes_on Resting x = Resting
goes_on (On k t) x = next_point k t x

abbrev pub BoundAt : ℕ → Reading → ℕ → Type 0
BoundAt rows Resting x = Unit {0}
BoundAt rows (On k (Standing n v d)) x = x ≤ rows
BoundAt rows (On k (NoLink n v d)) x = Unit {0}
BoundAt rows (On k (Linked n v d c)) x = Unit {0}
BoundAt rows (On k (Stamped n v d c w)) x = Unit {0}
BoundAt rows (On k (Relinked n v c w)) x = Unit {0}
BoundAt rows (On k (Confirmed c w)) x = Unit {0}
BoundAt rows (On k ConfirmedNone) x = Unit {0}
BoundAt rows (On k (Matched c)) x = Unit {0}

-- a link leads to a row of the table
abbrev pub HasBound : View → ℕ → Type 0
HasBound v x = BoundAt v.rows v.way.reads x

-- the row to which a link leads
abbrev pub led_by : Point → ℕ → List ℕ
led_by (Standing n v d) zero = []
led_by (Standing n v d) (suc c) = suc c ∷ []
led_by (NoLink n v d) x = []
led_by (Linked n v d c) x = []
led_by (Stamped n v d c w) x = []
led_by (Relinked n v c w) x = []
led_by (Confirmed c w) x = []
led_by ConfirmedNone x = []
led_by (Matched c) x = []

abbrev pub comes_to : Reading → ℕ → List ℕ
comes_to Resting x = []
comes_to (On k t) x = led_by t x

-- the row to which all checks led the reader, once it has loaded its next word
abbrev pub confirmed_by : Point → ℕ → List ℕ → List ℕ
confirmed_by (Standing n v d) x l = []
confirmed_by (NoLink n v d) x l = []
confirmed_by (Linked n v d c) x l = []
confirmed_by (Stamped n v d c w) x l = []
confirmed_by (Relinked n v c w) x l = cond (x == v) (c ∷ []) []
confirmed_by (Confirmed c w) x l = l
confirmed_by ConfirmedNone x l = []
confirmed_by (Matched c) x l = []

abbrev pub now_confirmed : Reading → ℕ → List ℕ → List ℕ
now_confirmed Resting x l = []
now_confirmed (On k t) x l = confirmed_by t x l

-- the row from which the reader last went on
abbrev pub place_by : ℕ → Point → Reading → Reading
place_by k (Standing n v d) p = On k (Standing n v d)
place_by k (NoLink n v d) p = p
place_by k (Linked n v d c) p = p
place_by k (Stamped n v d c w) p = p
place_by k (Relinked n v c w) p = p
place_by k (Confirmed c w) p = p
place_by k ConfirmedNone p = p
place_by k (Matched c) p = p

abbrev pub goes_from : Reading → Reading → Reading
goes_from Resting p = p
goes_from (On k t) p = place_by k t p

-- the reader loaded its next word: where that is a link, the pass has reached the row to which it
-- leads
abbrev pub read_on : View → ℕ → View
read_on v x =
    record v {
      trail =
          record {
            steps = v.trail.steps + 1;
            reached = v.trail.reached ++ comes_to v.way.reads x;
          };
      way =
          record {
            reads = goes_on v.way.reads x;
            confirmed = now_confirmed v.way.reads x v.way.confirmed;
            place = goes_from v.way.reads v.way.place;
          };
    }

-- the word that the reader loads next, where its answer comes later
abbrev pub IsNext : Point → ℕ → Field → Type 0
IsNext (Standing n v d) r f = (r ≡ n) × (f ≡ link_field d)
IsNext (NoLink n v d) r f = ⊥
IsNext (Linked n v d c) r f = (r ≡ c) × (f ≡ Stamp)
IsNext (Stamped n v d c w) r f = (r ≡ n) × (f ≡ link_field d)
IsNext (Relinked n v c w) r f = (r ≡ n) × (f ≡ Stamp)
IsNext (Confirmed c w) r f = (r ≡ c) × (f ≡ Key)
IsNext ConfirmedNone r f = ⊥
IsNext (Matched c) r f = ⊥

-- the word by which it has its answer
abbrev pub IsLast : Point → ℕ → Field → Type 0
IsLast (Standing n v d) r f = ⊥
IsLast (NoLink n v d) r f = (r ≡ n) × (f ≡ Stamp)
IsLast (Linked n v d c) r f = ⊥
IsLast (Stamped n v d c w) r f = ⊥
IsLast (Relinked n v c w) r f = ⊥
IsLast (Confirmed c w) r f = ⊥
IsLast ConfirmedNone r f = ⊥
IsLast (Matched c) r f = (r ≡ c) × (f ≡ Value)

-- where the reader is once it has loaded its last word
abbrev pub last_point : ℕ → Point → ℕ → Reading
last_point k (Standing n v d) x = Resting
last_point k (NoLink n v d) x = cond (x == v) Resting (On k (Standing 0 0 sides.Right))
last_point k (Linked n v d c) x = Resting
last_point k (Stamped n v d c w) x = Resting
last_point k (Relinked n v c w) x = Resting
last_point k (Confirmed c w) x = Resting
last_point k ConfirmedNone x = Resting
last_point k (Matched c) x = Resting

abbrev pub ends_at : Reading → ℕ → Reading
ends_at Resting x = Resting
ends_at (On k t) x = last_point k t x

-- the reader loaded its last word, and what it tells stands at this history
abbrev pub settled_at : View → List Entry → ℕ → View
settled_at v seen x = record v {
  trail = record v.trail { steps = v.trail.steps + 1 };
  seen = seen;
  way = record v.way { reads = ends_at v.way.reads x };
}

-- what that word tells of the map after this history
abbrev pub Answers : ℕ → Point → ℕ → List Entry → Type 0
Answers k (Standing n v d) x h = Unit {0}
Answers k (NoLink n v d) x h = x ≡ v → told h k ≡ None
Answers k (Linked n v d c) x h = Unit {0}
Answers k (Stamped n v d c w) x h = Unit {0}
Answers k (Relinked n v c w) x h = Unit {0}
Answers k (Confirmed c w) x h = Unit {0}
Answers k ConfirmedNone x h = Unit {0}
Answers k (Matched c) x h = value_of x ≡ told h k

abbrev pub HasAnswer : Reading → ℕ → List Entry → Type 0
HasAnswer Resting x h = Unit {0}
HasAnswer (On k t) x h = Answers k t x h

abbrev pub way_begun : ℕ → Step (Unit {0}) → Sat → ℕ → Sat → Type 0
way_begun key st m r n = (st.word ≡ done_at)
    × (seen : List Entry) × Extends m.0 seen
    × (r ≤ length seen)
    × Has m n (set_out_for (word_noted m.0 (Done r)) seen key)

abbrev pub way_begun_again : ℕ → Step (Unit {0}) → Sat → ℕ → Sat → Type 0
way_begun_again key st m r n = Has m n (begun_again m.0 key)

abbrev pub next_read : Step (Unit {0}) → Sat → ℕ → Sat → Type 0
next_read st m r n = Has m n (read_on m.0 r) × HasBound m.0 r

-- the word answers the search at what the pass has now seen
abbrev pub answer_read : Step (Unit {0}) → Sat → ℕ → Sat → Type 0
answer_read st m r n = (seen : List Entry)
    × Extends m.0 seen
    × Has m n (settled_at m.0 seen r)
    × HasAnswer m.0.way.reads r seen
