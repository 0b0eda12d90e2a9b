-- Kits that end: what the caller's kit knows of those that it admitted, and what the closed tables
-- tell of them.
use Rattle.std.specs.Prelude.{◌≡◌, ◌<◌, ◌≤◌, ◌+◌, ◌⊎◌, ℕ, true, List, [], ◌∷◌, Some, length, slice_get, slice_set}
use Rattle.snap_fits.specs.{Fits.Front, Fits.WorkerFits, Sessions.Covers}
use Rattle.snap_prelude.specs.{Admitted, admitted_of, Becomes, Begins, calls_of, Cloned, Closes, Command, Ended, Entry}
use Rattle.snap_prelude.specs.{Extends, heard, In, Known, Pairs, Reply, SpeaksForAll, total, View, with_admitted}
use Rattle.snap_table.specs.Clones.{Cuts}
use Rattle.snap_service.specs.{Courses.course, Courses.fronts_of, Courses.setting, Runs.HasServed, States.AreSeated}
use Rattle.snap_service.specs.{States.pass_at, States.SessionState, States.Tables}
use Rattle.snap_text.specs.LoadFiles.{Loads}

-- the pass has learnt what the receipt's had seen and noted, and speaks for its number
abbrev pub Joins : Known → Known → Known → Type 0
Joins old receipt new = (seen : List Entry)
    × Extends old.view seen
    × Begins receipt.view.seen seen
    × Becomes old new (with_admitted (heard old.view receipt.view seen) receipt.view)

abbrev pub JoinsAll : List Known → List Known → List Known → Type 0
JoinsAll old receipt new =
    (t : ℕ) → t < length receipt → Joins (pass_at old t) (pass_at receipt t) (pass_at new t)

-- a pass speaks for the number of another, and knows what that pass knew
pub record SpeaksFor (v w : View) : Type 0 where
  pub listed : In (admitted_of w) v.admitted
  pub seen : Begins w.seen v.seen
  pub handed : w.noted.handed ≤ v.noted.handed
  pub epochs : w.noted.epochs ≤ v.noted.epochs
  pub worn : w.noted.worn ≡ true → v.noted.worn ≡ true

-- the kit admitted this one
abbrev pub Admits : List Known → List Known → Type 0
Admits kit receipt =
    (t : ℕ) → t < length receipt → SpeaksFor (pass_at kit t).view (pass_at receipt t).view

-- every other kit was admitted
abbrev pub AdmitsAll : List Known → Type 0
AdmitsAll kit = (t : ℕ) → t < length kit → SpeaksForAll (pass_at kit t).view

-- each epoch that the pass knows of is that of a cut of a number that it admitted
abbrev pub NotedTheirs : View → Type 0
NotedTheirs v = v.noted.epochs ≤ total (λ (a : Admitted). length a.cuts) v.admitted

-- the pass made one clone, of the whole history that it has seen, and knew then that each epoch
-- which it had noted is that of a cut of another
pub record HasFinal (v : View) : Type 0 where
  pub theirs : NotedTheirs v
  pub one : v.cuts ≡ length v.seen ∷ []

-- the pass of the first table made this clone
abbrev pub IsFinal : List Known → Cloned → List Known → Type 0
IsFinal old clone new =
    (pass : Known) × (new ≡ slice_set old 0 pass) × Cuts (pass_at old 0) pass clone

-- the caller's kit, which has the last number, before it made a clone
pub record IsUncut (tables : Tables) (kit : List Known) : Type 0 where
  pub last : (t : ℕ) → t < length kit → (pass_at kit t).view.who + 1 ≡ tables.kits
  pub none : (t : ℕ) → t < length kit → (pass_at kit t).view.cuts ≡ []
  pub silent : (t : ℕ) → t < length kit → (pass_at kit t).view.mine ≡ []

-- the same later: where it made a clone, it had been told of the cuts of the others
pub record IsCallers (tables : Tables) (kit : List Known) : Type 0 where
  pub last : (t : ℕ) → t < length kit → (pass_at kit t).view.who + 1 ≡ tables.kits
  pub noted : (t : ℕ) → t < length kit
      → ((pass_at kit t).view.cuts ≡ []) ⊎ ((t ≡ 0) × HasFinal (pass_at kit t).view)
  pub silent : (t : ℕ) → t < length kit → (pass_at kit t).view.mine ≡ []

-- the closed tables, by the passes that closed them
pub record AreClosed (kit : List Known) (fronts : List Ended) : Type 0 where
  pub a_front_each : length fronts ≡ length kit
  pub each : (t : ℕ) (f : Ended) → slice_get fronts t ≡ Some f → Closes (pass_at kit t) f

-- the front of each table, and the commands of each admitted worker fit them
abbrev pub FitsAll : Tables → List Known → List Ended → Type 0
FitsAll tables kit fronts = (loads : Loads) (w : ℕ) (s : SessionState) (cs : List Command)
    (rs : List Reply) (es : List (List ℕ × Pairs))
    → s.tables ≡ tables → AreSeated tables s.passes → HasServed loads w cs rs es s
    → Admits kit s.passes → WorkerFits (setting tables loads) (fronts_of fronts) w cs rs es

-- no entry and no cut but those of the workers, and the caller's one cut of the whole history of
-- the first table, where it made one
pub record IsFrontOfWorkers (workers t : ℕ) (f : Front) : Type 0 where
  pub entries : (i : ℕ) → workers ≤ i → calls_of f.history i ≡ []
  pub cuts : (i : ℕ) → workers < i → f.cuts i ≡ []
  pub final : (f.cuts workers ≡ []) ⊎ ((t ≡ 0) × (f.cuts workers ≡ length f.history ∷ []))

-- each front covers what this session of worker w has seen, made and noted
abbrev pub CoversAll : Tables → Loads → ℕ → SessionState → List Ended → Type 0
CoversAll tables loads w s fronts =
    (t : ℕ) → Covers (setting tables loads) w ((course w s).passes t) (fronts_of fronts t)
