-- What a try to write comes to.
use Rattle.std.specs.Prelude.{◌≡◌, ◌⊎◌, ℕ, ◌≤◌, List, [], None, length}
use Rattle.snap_prelude.specs.{Among, Call, call_key, In, Known, Next, WordNote}
use Rattle.snap_model.specs.History.{told}
use Rattle.snap_search.specs.{Prelude.Works, declared.places.Place.Place, declared.places.Place.TheVariants.Below}
use Rattle.snap_search.specs.{declared.places.Place.TheVariants.Here, declared.places.Place.TheVariants.Shared}
use Rattle.snap_update.specs.Answers.{GoesOn, Writes, RefusesPut, RefusedFull, older_births}
use Rattle.snap_update.specs.declared.attempt.Attempt.{Attempt}
use Rattle.snap_update.specs.declared.attempt.Attempt.TheVariants.{Made, Again, Refused}

-- a try at a place: without its entry no row is drawn
abbrev pub Attempts : ℕ → Known → Known → Call → Attempt → Type 0
Attempts rows old new call (Made reply) = Writes old new call reply
Attempts rows old new call Again = (more : List WordNote) × GoesOn old new (call_key call) [] more
Attempts rows old new call (Refused f) = (f.rows ≡ rows) × RefusesPut rows old new call

-- a try at a place whose child is of an earlier epoch: at most one row is drawn
abbrev pub Brings : ℕ → Known → Known → ℕ → Attempt → Type 0
Brings rows old new key (Made reply) = ⊥
Brings rows old new key Again =
    (drawn : List ℕ) × (more : List WordNote) × GoesOn old new key drawn more × (length drawn ≤ 1)
Brings rows old new key (Refused f) =
    (f.rows ≡ rows) × (more : List WordNote) × GoesOn old new key [] more × In (Next rows) more

-- a try at any place
abbrev pub AttemptsAt : ℕ → Known → Known → Call → Place → Attempt → Type 0
AttemptsAt rows old new call (Here row) t = Attempts rows old new call t
AttemptsAt rows old new call (Below at) t = Attempts rows old new call t
AttemptsAt rows old new call (Shared at) t = Brings rows old new (call_key call) t

-- no more rows were drawn than births were noted on the way of the key that are older than the
-- epoch
pub record HasMet (old new : Known) (key : ℕ) (rows : List ℕ) (more : List WordNote) : Type 0 where
  pub epoch : ℕ
  pub now : Among epoch new.view.words.present
  pub same : (e : ℕ) → Among e old.view.words.present → epoch ≡ e
  pub few : length rows ≤ older_births key epoch more

-- a try from the search on
abbrev pub AttemptsWrite : ℕ → Known → Known → Call → Attempt → Type 0
AttemptsWrite rows old new call (Made reply) = Writes old new call reply
AttemptsWrite rows old new call Again = (drawn : List ℕ)
    × (more : List WordNote) × GoesOn old new (call_key call) drawn more
    × HasMet old new (call_key call) drawn more
AttemptsWrite rows old new call (Refused f) = (f.rows ≡ rows)
    × (r : RefusedFull rows old new call) × ((e : ℕ) → Among e old.view.words.present → r.epoch ≡ e)

-- so far no more rows were drawn than older births were noted
abbrev pub HasMetSo : Known → ℕ → List ℕ → List WordNote → Type 0
HasMetSo now key rows more = (length rows ≡ 0)
    ⊎ ((e : ℕ) × Among e now.view.words.present × (length rows ≤ older_births key e more))

-- tries so far
pub record KeepsTrying (old now : Known) (key : ℕ) : Type 0 where
  pub drawn : List ℕ
  pub more : List WordNote
  pub goes : GoesOn old now key drawn more
  pub met : HasMetSo now key drawn more

-- the end of a try for which no row was left: the key is absent at what the pass has now seen, or
-- the place has to be looked for again
abbrev pub RefusesOr : ℕ → Known → Known → ℕ → Attempt → Type 0
RefusesOr rows old new key (Made reply) = ⊥
RefusesOr rows old new key Again = Works old new []
RefusesOr rows old new key (Refused f) =
    (f.rows ≡ rows) × Works old new [] × (told new.view.seen key ≡ None)
