-- A call that never waits. Its loads are those of a reader, and each that finds what it can't find
-- while no write is entered tells so.
use Rattle.std.specs.Prelude.{ℕ, Bool, true, false, cond, nat_lt, List, [], ◌∷◌, ◌++◌, ◌≡◌, ◌<◌, ◌+◌, ◌/◌, ◌%◌, ◌^◌, ◌==◌}
use Rattle.atomic_table.specs.Table.{Step}
use Rattle.snap_model.specs.declared.call.Entry.{Entry}
use Rattle.snap_rule.specs.State.{In}
use Rattle.snap_rule.specs.declared.quiescence.Load.{Load}
use Rattle.snap_rule.specs.declared.quiescence.Trying.{Trying}
use Rattle.snap_rule.specs.declared.quiescence.Trying.TheVariants.{Idle, Since, Troubled}
use Rattle.snap_rule.specs.declared.reader.Point.{Point}
use Rattle.snap_rule.specs.declared.reader.Point.TheVariants.{Standing, NoLink, Linked, Stamped, Relinked, Confirmed, ConfirmedNone, Matched}
use Rattle.snap_rule.specs.declared.reader.Reading.{Reading}
use Rattle.snap_rule.specs.declared.reader.Reading.TheVariants.{On, Resting}
use Rattle.snap_stamp.specs.declared.layout.Field.{Field}
use Rattle.snap_stamp.specs.declared.layout.Field.TheVariants.{Left, Right, Stamp}
use Rattle.snap_steps.specs.Histories.{Extends}
use Rattle.snap_steps.specs.Memory.{gate_at, left_at}
use Rattle.snap_steps.specs.States.{link_field}
use Rattle.snap_steps.specs.Steps.Header.{word_noted}
use Rattle.snap_steps.specs.Steps.Told.{Sat, Has}
use Rattle.snap_steps.specs.Steps.Way.{read_on, settled_at, HasAnswer, HasBound}
use Rattle.snap_steps.specs.declared.view.View.{View}
use Rattle.snap_steps.specs.declared.view.WordNote.{WordNote}
use Rattle.snap_steps.specs.declared.view.WordNote.TheVariants as notes

abbrev pub load : ℕ → Field → ℕ → Load
load r f x = record { row = r; field = f; found = x }

-- the call begins with this count of ended writes, where row 0 leads to this child
abbrev pub try_begun : View → ℕ → ℕ → View
try_begun v ended child = record (word_noted v (notes.Left ended))
    { tries = Since ended (load 0 Right child ∷ load 0 Stamp 0 ∷ []) 0 (2 ^ 64) child }

-- whether the key lies outside the nearest keys that were passed
abbrev pub is_outside : ℕ → ℕ → ℕ → Bool
is_outside low high x = cond (nat_lt x low) true (cond (nat_lt x high) false true)

-- whether the word is trouble: it differs from what was loaded before, it is a mark, or a key
-- outside
abbrev pub is_trouble : ℕ → Point → ℕ → ℕ → ℕ → Bool
is_trouble k (Standing n v d) low high x = false
is_trouble k (NoLink n v d) low high x = cond (x == v) false true
is_trouble k (Linked n v d c) low high x = cond (x % 4 == 0) false true
is_trouble k (Stamped n v d c w) low high x = cond (x == c) false true
is_trouble k (Relinked n v c w) low high x = cond (x == v) false true
is_trouble k (Confirmed c w) low high x = cond (x == k) false (is_outside low high x)
is_trouble k ConfirmedNone low high x = false
is_trouble k (Matched c) low high x = false

-- the call goes on: it keeps the words on which its next loads are checked, and passes a key, below
-- which there is this row
abbrev pub goes_past : ℕ → Point → ℕ → List Load → (low high child : ℕ) → (x below : ℕ) → Trying
goes_past k (Standing n v d) e l low high c x below =
    Since e (load n (link_field d) x ∷ l) low high x
goes_past k (NoLink n v d) e l low high c x below = Idle
goes_past k (Linked n v d c') e l low high c x below = Since e (load c' Stamp x ∷ l) low high c
goes_past k (Stamped n v d c' w) e l low high c x below = Since e l low high c
goes_past k (Relinked n v c' w) e l low high c x below = Since e l low high c
goes_past k (Confirmed c' w) e l low high c x below = cond (x == k) (Since e l low high c)
    (cond (nat_lt k x) (Since e (load c' Left below ∷ l) low x below)
    (Since e (load c' Right below ∷ l) (x + 1) high below))
goes_past k ConfirmedNone e l low high c x below = Idle
goes_past k (Matched c') e l low high c x below = Idle

-- the call after a load of the reader's next or last word
abbrev pub tries_on : Reading → Trying → (x below : ℕ) → Trying
tries_on Resting t x below = t
tries_on (On k p) Idle x below = Idle
tries_on (On k p) (Troubled e) x below = Troubled e
tries_on (On k p) (Since e l low high c) x below =
    cond (is_trouble k p low high x) (Troubled e) (goes_past k p e l low high c x below)

abbrev pub meets_trouble : Reading → Trying → ℕ → Bool
meets_trouble Resting t x = false
meets_trouble (On k p) Idle x = false
meets_trouble (On k p) (Troubled e) x = false
meets_trouble (On k p) (Since e l low high c) x = is_trouble k p low high x

abbrev pub trouble_noted : Bool → List WordNote → List WordNote
trouble_noted met l = cond met (l ++ notes.Trouble ∷ []) l

-- the reader's next word was loaded, and its last one
abbrev pub tried_on : View → (x below : ℕ) → View
tried_on v x below =
    let u : View = read_on v x in
    let trouble : Bool = meets_trouble v.way.reads v.tries x in
    record u {
      tries = tries_on v.way.reads v.tries x below;
      noted = record u.noted { notes = trouble_noted trouble v.noted.notes };
    }

abbrev pub tried_last : View → List Entry → ℕ → View
tried_last v seen x =
    let u : View = settled_at v seen x in
    let trouble : Bool = meets_trouble v.way.reads v.tries x in
    record u {
      tries = tries_on v.way.reads v.tries x 0;
      noted = record u.noted { notes = trouble_noted trouble v.noted.notes };
    }

-- the gate was loaded after trouble, which ends the call
abbrev pub busy_seen : View → ℕ → View
busy_seen v gate =
    let u : View = word_noted v (notes.Gate gate) in
    record u { tries = Idle; way = record u.way { reads = Resting } }

-- what a call has loaded of the rows at which its reader stands
abbrev pub Along : Point → List Load → ℕ → Type 0
Along (Standing n v d) l child = In (load n Stamp v) l × In (load n (link_field d) child) l
Along (NoLink n v d) l child = In (load n Stamp v) l
Along (Linked n v d c) l child =
    (child ≡ c) × In (load n Stamp v) l × In (load n (link_field d) c) l
Along (Stamped n v d c w) l child =
    (child ≡ c) × In (load n Stamp v) l × In (load n (link_field d) c) l × In (load c Stamp w) l
Along (Relinked n v c w) l child = (child ≡ c) × In (load n Stamp v) l × In (load c Stamp w) l
Along (Confirmed c w) l child = (child ≡ c) × In (load c Stamp w) l
Along ConfirmedNone l child = Unit {0}
Along (Matched c) l child = Unit {0}

-- the pass is in such a call, and its reader at this point
pub record IsTrying (v : View) (key : ℕ) (point : Point) (ended low high : ℕ) : Type 0 where
  pub loads : List Load
  pub child : ℕ
  pub call : v.tries ≡ Since ended loads low high child
  pub way : v.way.reads ≡ On key point
  pub along : Along point loads child

abbrev pub try_begins : Step (Unit {0}) → Sat → ℕ → Sat → Type 0
try_begins st m r n = (st.word ≡ left_at) × (child : ℕ) × Has m n (try_begun m.0 r child)

abbrev pub next_tried : Step (Unit {0}) → Sat → ℕ → Sat → Type 0
next_tried st m r n = (below : ℕ) × Has m n (tried_on m.0 r below) × HasBound m.0 r

abbrev pub answer_tried : Step (Unit {0}) → Sat → ℕ → Sat → Type 0
answer_tried st m r n = (seen : List Entry)
    × Extends m.0 seen
    × Has m n (tried_last m.0 seen r)
    × HasAnswer m.0.way.reads r seen

-- after trouble more writes were entered than had ended when the call began
abbrev pub busy_told : Step (Unit {0}) → Sat → ℕ → Sat → Type 0
busy_told st m r n = (st.word ≡ gate_at)
    × Has m n (busy_seen m.0 r)
    × ((ended : ℕ) → m.0.tries ≡ Troubled ended → ended < r / 2)
