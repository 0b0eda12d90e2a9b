-- Tries of a write: under a lock, after the work that led to them, and one after another.
use Rattle.std.proofs.Common.{◌≡◌, inl, inr, ℕ, ◌+◌, ◌<◌, ◌≤◌, ◌==◌, true, cond, nat_lt, lt-ltb, eq-eqb, List, [], ◌∷◌, ◌++◌, length, length-append, refl, sym, ap, subst, arith}
use Rattle.snap_copy.proofs.Copying.{full_works, last_full}
use Rattle.snap_locks.specs.Held.{HasLocked}
use Rattle.snap_prelude.specs.{Among, Becomes, Call, call_key, Done, Epoch, FoundFull}
use Rattle.snap_prelude.specs.{KeepsReached, Known, Next, notes_of, Put, unlocked, View, WordNote}
use Rattle.snap_search.specs.{Prelude.births_of, Prelude.EndsAbsent, Prelude.EndsAt, Prelude.EndsHere}
use Rattle.snap_search.specs.{Prelude.EndsOlder, Prelude.EndsShared, Prelude.Finds, Prelude.IsReached, Prelude.row_at}
use Rattle.snap_search.specs.{declared.down.Spot.Spot, declared.places.Found.Found, declared.places.Place.Place}
use Rattle.snap_search.specs.declared.places.Place.TheVariants.{Here, Below, Shared}
use Rattle.snap_prelude.proofs.Common.{total-append}
use Rattle.snap_search.proofs.Working.{works_on}
use Rattle.snap_update.specs.Answers.{GoesOn, RefusedFull, NeedsRow, PutsAbsent, older_births, is_older}
use Rattle.snap_update.specs.Attempts.{Attempts, AttemptsAt, Brings, HasMetSo, KeepsTrying, RefusesOr, AttemptsWrite}
use Rattle.snap_update.specs.declared.attempt.Attempt.{Attempt}
use Rattle.snap_update.specs.declared.attempt.Attempt.TheVariants.{Made, Again, Refused}
use Rattle.snap_update.proofs.Entering.{writes_after, writes_locked}
use Rattle.snap_update.proofs.Going.{goes_on, goes_works, goes_nowhere, goes_locked, in_left, in_right}

-- between a lock and its release
attempts_locked : (rows : ℕ) (old a b new : Known) (row : ℕ) (call : Call) (t : Attempt) → HasLocked old a row → Attempts rows a b call t → Becomes b new (unlocked b.view row) → old.view.holds ≡ [] → Attempts rows old new call t
attempts_locked rows old a b new row call (Made reply) l h e free = writes_locked old a b new row call reply l h e free
attempts_locked rows old a b new row call Again l h e free = (h.0, goes_locked old a b new (call_key call) row [] h.0 l h.1 e free)
attempts_locked rows old a b new row call (Refused f) l h e free = (
  h.0,
  record {
    absent = subst (λ (k : Known). PutsAbsent call k.view.seen) (sym e) h.1.absent;
    more = h.1.more;
    goes = goes_locked old a b new (call_key call) row [] h.1.more l h.1.goes e free;
    full = h.1.full;
  },
)

brings_locked : (rows : ℕ) (old a b new : Known) (key row : ℕ) (t : Attempt) → HasLocked old a row → Brings rows a b key t → Becomes b new (unlocked b.view row) → old.view.holds ≡ [] → Brings rows old new key t
brings_locked rows old a b new key row (Made reply) l h e free = h
brings_locked rows old a b new key row Again l h e free = (h.0, h.1, goes_locked old a b new key row h.0 h.1 l h.2 e free, h.3)
brings_locked rows old a b new key row (Refused f) l h e free = (h.0, h.1, goes_locked old a b new key row [] h.1 l h.2 e free, h.3)

pub attempts_at : (rows : ℕ) (old a b new : Known) (row : ℕ) (call : Call) (p : Place) (t : Attempt) → HasLocked old a row → AttemptsAt rows a b call p t → Becomes b new (unlocked b.view row) → old.view.holds ≡ [] → AttemptsAt rows old new call p t
attempts_at rows old a b new row call (Here r) t l h e free = attempts_locked rows old a b new row call t l h e free
attempts_at rows old a b new row call (Below at) t l h e free = attempts_locked rows old a b new row call t l h e free
attempts_at rows old a b new row call (Shared at) t l h e free = brings_locked rows old a b new (call_key call) row t l h e free

-- a try leaves the locks, and no change is begun
attempt_rests : (rows : ℕ) (old new : Known) (call : Call) (t : Attempt) → Attempts rows old new call t → (new.view.holds ≡ old.view.holds) × (new.view.doing ≡ old.view.doing)
attempt_rests rows old new call (Made reply) h = (h.holds, ap (λ (k : Known). k.view.doing) h.made.is)
attempt_rests rows old new call Again h = (h.1.holds, ap (λ (k : Known). k.view.doing) h.1.is)
attempt_rests rows old new call (Refused f) h = (h.1.goes.holds, ap (λ (k : Known). k.view.doing) h.1.goes.is)

bringing_rests : (rows : ℕ) (old new : Known) (key : ℕ) (t : Attempt) → Brings rows old new key t → (new.view.holds ≡ old.view.holds) × (new.view.doing ≡ old.view.doing)
bringing_rests rows old new key (Made reply) h = absurd h
bringing_rests rows old new key Again h = (h.2.holds, ap (λ (k : Known). k.view.doing) h.2.is)
bringing_rests rows old new key (Refused f) h = (h.2.holds, ap (λ (k : Known). k.view.doing) h.2.is)

pub rests_at : (rows : ℕ) (old new : Known) (call : Call) (p : Place) (t : Attempt) → AttemptsAt rows old new call p t → (new.view.holds ≡ old.view.holds) × (new.view.doing ≡ old.view.doing)
rests_at rows old new call (Here row) t h = attempt_rests rows old new call t h
rests_at rows old new call (Below at) t h = attempt_rests rows old new call t h
rests_at rows old new call (Shared at) t h = bringing_rests rows old new (call_key call) t h

-- the place as the search found it, once its row is locked
pub ends_locked : (rows : ℕ) (old a : Known) (key epoch row : ℕ) (p : Place) → HasLocked old a row → EndsAt rows old.view key epoch p → EndsAt rows a.view key epoch p
ends_locked rows old a key epoch row (Here r) l h = subst (λ (k : Known). EndsHere rows k.view key epoch r) (sym l.is) (record { some_row = h.some_row; low = h.low; reached = h.reached; way = h.way; present = h.present })
ends_locked rows old a key epoch row (Below at) l h = subst (λ (k : Known). EndsAbsent rows k.view key epoch at) (sym l.is) (record { low = h.low; reached = h.reached; way = h.way; present = h.present })
ends_locked rows old a key epoch row (Shared at) l h =
    let o = h.older in let p = o.4 in
    subst (λ (k : Known). EndsShared rows k.view key epoch at) (sym l.is) (record {
      low = h.low;
      reached = h.reached;
      present = h.present;
      place = h.place;
      faces = h.faces;
      older = (o.0, o.1, o.2, o.3, record { birth = p.birth; is_birth = p.is_birth; epoch = p.epoch; now = p.now; older = p.older });
    })

-- its row is one to which the pass came
pub place_low : (rows : ℕ) (v : View) (key epoch : ℕ) (p : Place) → EndsAt rows v key epoch p → row_at p ≤ rows
place_low rows v key epoch (Here row) h = h.low
place_low rows v key epoch (Below at) h = h.low
place_low rows v key epoch (Shared at) h = h.low

pub place_reached : (rows : ℕ) (v : View) (key epoch : ℕ) (p : Place) → EndsAt rows v key epoch p → IsReached v (row_at p)
place_reached rows v key epoch (Here row) h = inr h.reached
place_reached rows v key epoch (Below at) h = h.reached
place_reached rows v key epoch (Shared at) h = h.reached

-- after work that drew no row
pub attempts_after : (rows : ℕ) (old mid new : Known) (l : List WordNote) (call : Call) (t : Attempt) → GoesOn old mid (call_key call) [] l → Attempts rows mid new call t → Attempts rows old new call t
attempts_after rows old mid new l call (Made reply) g h = writes_after old mid new (call_key call) [] l call reply g h
attempts_after rows old mid new l call Again g h = (l ++ h.0, goes_on old mid new (call_key call) [] [] l h.0 g h.1)
attempts_after rows old mid new l call (Refused f) g h = (
  h.0,
  record {
    absent = h.1.absent;
    more = l ++ h.1.more;
    goes = goes_on old mid new (call_key call) [] [] l h.1.more g h.1.goes;
    full = in_right (Next rows) l h.1.more h.1.full;
  },
)

-- the notes of a search
abbrev pub found : ℕ → ℕ → ℕ → List ℕ → List WordNote
found key epoch counted births = Epoch epoch ∷ Done counted ∷ births_of key births

-- the births of a way that ends at a shared child
one_older : (key epoch : ℕ) (births : List ℕ) → EndsOlder epoch births → 0 < older_births key epoch (births_of key births)
one_older key epoch births h = subst (λ (l : List ℕ). 0 < older_births key epoch (births_of key l)) (sym h.are) (go h.upper)
  where
    last : 0 < older_births key epoch (births_of key (h.older ∷ []))
    last = let a : (key == key) ≡ true = eq-eqb key key refl in let b : nat_lt h.older epoch ≡ true = lt-ltb h.older epoch h.is_older in
        let one : older_births key epoch (births_of key (h.older ∷ [])) ≡ 1 = (λ i. cond (a i) (cond (b i) 1 0) 0 + 0) in omega (arith, one)

    go : (l : List ℕ) → 0 < older_births key epoch (births_of key (l ++ h.older ∷ []))
    go [] = last
    go (x ∷ xs) = omega (arith, go xs)

tries_after : (rows : ℕ) (old mid new : Known) (call : Call) (t : Attempt) (f : Found) → Finds rows old mid (call_key call) f → Attempts rows mid new call t → AttemptsWrite rows old new call t
tries_after rows old mid new call (Made reply) f w h = let key : ℕ = call_key call in let l : List WordNote = found key f.epoch w.counted w.births in
    writes_after old mid new key [] l call reply (goes_works old mid key l w.works) h
tries_after rows old mid new call Again f w h = let key : ℕ = call_key call in let l : List WordNote = found key f.epoch w.counted w.births in (
  [],
  l ++ h.0,
  goes_on old mid new key [] [] l h.0 (goes_works old mid key l w.works) h.1,
  record { epoch = f.epoch; now = h.1.present f.epoch w.now; same = w.same; few = omega arith },
)
tries_after rows old mid new call (Refused x) f w h = let key : ℕ = call_key call in let l : List WordNote = found key f.epoch w.counted w.births in (
  h.0,
  record {
    drawn = [];
    more = l ++ h.1.more;
    goes = goes_on old mid new key [] [] l h.1.more (goes_works old mid key l w.works) h.1.goes;
    full = in_right (Next rows) l h.1.more h.1.full;
    epoch = f.epoch;
    epoch_noted = inl refl;
    cause = inl h.1.absent;
  },
  w.same,
)

tries_shared : (rows : ℕ) (old mid new : Known) (at : Spot) (epoch : ℕ) (call : Call) (t : Attempt) → Finds rows old mid (call_key call) (record { place = Shared at; epoch = epoch }) → Brings rows mid new (call_key call) t → AttemptsWrite rows old new call t
tries_shared rows old mid new at epoch call (Made reply) w h = absurd h
tries_shared rows old mid new at epoch call Again w h = let key : ℕ = call_key call in let l : List WordNote = found key epoch w.counted w.births in (
  h.0,
  l ++ h.1,
  goes_on old mid new key [] h.0 l h.1 (goes_works old mid key l w.works) h.2,
  record {
    epoch = epoch;
    now = h.2.present epoch w.now;
    same = w.same;
    few = omega (arith, h.3, one_older key epoch w.births w.noted, total-append (is_older key epoch) l h.1);
  },
)
tries_shared rows old mid new at epoch call (Refused x) w h = let key : ℕ = call_key call in let l : List WordNote = found key epoch w.counted w.births in (
  h.0,
  record {
    drawn = [];
    more = l ++ h.1;
    goes = goes_on old mid new key [] [] l h.1 (goes_works old mid key l w.works) h.2;
    full = in_right (Next rows) l h.1 h.3;
    epoch = epoch;
    epoch_noted = inl refl;
    cause = inr (omega (arith, one_older key epoch w.births w.noted, total-append (is_older key epoch) l h.1));
  },
  w.same,
)

-- at any place
pub tries_at : (rows : ℕ) (old mid new : Known) (call : Call) (t : Attempt) (p : Place) (epoch : ℕ) → Finds rows old mid (call_key call) (record { place = p; epoch = epoch }) → AttemptsAt rows mid new call p t → AttemptsWrite rows old new call t
tries_at rows old mid new call t (Here row) epoch w h = tries_after rows old mid new call t (record { place = Here row; epoch = epoch }) w h
tries_at rows old mid new call t (Below at) epoch w h = tries_after rows old mid new call t (record { place = Below at; epoch = epoch }) w h
tries_at rows old mid new call t (Shared at) epoch w h = tries_shared rows old mid new at epoch call t w h

-- one after another
pub begins : (old : Known) (key : ℕ) → KeepsTrying old old key
begins old key = record { drawn = []; more = []; goes = goes_nowhere old key; met = inl refl }

met_on : (mid new : Known) (key : ℕ) (r s : List ℕ) (l m : List WordNote) (e : ℕ) → ((x : ℕ) → Among x mid.view.words.present → e ≡ x) → HasMetSo mid key r l → length r ≤ older_births key e l
met_on mid new key r s l m e same (inl z) = omega (arith, z)
met_on mid new key r s l m e same (inr h) = subst (λ (x : ℕ). length r ≤ older_births key x l) (sym (same h.0 h.1)) h.2

pub tries_on : (rows : ℕ) (old mid new : Known) (call : Call) → KeepsTrying old mid (call_key call) → AttemptsWrite rows mid new call Again → KeepsTrying old new (call_key call)
tries_on rows old mid new call a b =
    let key : ℕ = call_key call in let met = b.3 in record {
      drawn = a.drawn ++ b.0;
      more = a.more ++ b.1;
      goes = goes_on old mid new key a.drawn b.0 a.more b.1 a.goes b.2;
      met = inr (
        met.epoch,
        met.now,
        omega (arith, met_on mid new key a.drawn b.0 a.more b.1 met.epoch met.same a.met, met.few, total-append (is_older key met.epoch) a.more b.1, length-append a.drawn b.0),
      );
    }

pub refused_going : (rows : ℕ) (old mid new : Known) (call : Call) → KeepsTrying old mid (call_key call) → (r : RefusedFull rows mid new call) × ((e : ℕ) → Among e mid.view.words.present → r.epoch ≡ e) → RefusedFull rows old new call
refused_going rows old mid new call a b = let key : ℕ = call_key call in record {
  drawn = a.drawn ++ r.drawn;
  more = a.more ++ r.more;
  goes = goes_on old mid new key a.drawn r.drawn a.more r.more a.goes r.goes;
  full = in_right (Next rows) a.more r.more r.full;
  epoch = r.epoch;
  epoch_noted = in_right (Epoch r.epoch) a.more r.more r.epoch_noted;
  cause = cause r.cause;
}
  where
    r : RefusedFull rows mid new call
    r = b.0

    cause : NeedsRow call new.view.seen r.epoch r.drawn r.more → NeedsRow call new.view.seen r.epoch (a.drawn ++ r.drawn) (a.more ++ r.more)
    cause (inl h) = inl h
    cause (inr h) = inr (omega (arith, met_on mid new (call_key call) a.drawn r.drawn a.more r.more r.epoch b.1 a.met, h, total-append (is_older (call_key call) r.epoch) a.more r.more, length-append a.drawn r.drawn))

-- after the loads of a draw that found no row left
pub refuses_put : (rows : ℕ) (old mid new : Known) (key value : ℕ) (t : Attempt) → FoundFull rows old mid → RefusesOr rows mid new key t → Attempts rows old new (Put key value) t
refuses_put rows old mid new key value (Made reply) f h = absurd h
refuses_put rows old mid new key value Again f h = let l : List WordNote = notes_of (f.0 ++ rows ∷ []) in (l ++ [], goes_works old new key (l ++ []) (works_on old mid new l [] (full_works rows old mid f) h))
refuses_put rows old mid new key value (Refused x) f h = let l : List WordNote = notes_of (f.0 ++ rows ∷ []) in (
  h.0,
  record { absent = h.2; more = l ++ []; goes = goes_works old new key (l ++ []) (works_on old mid new l [] (full_works rows old mid f) h.1); full = in_left (Next rows) l [] (last_full rows f.0) },
)

-- a try forgets no row to which the pass came
tried_reached : (rows : ℕ) (old new : Known) (call : Call) (t : Attempt) → Attempts rows old new call t → KeepsReached old.view new.view
tried_reached rows old new call (Made reply) h = h.made.reached
tried_reached rows old new call Again h = h.1.reached
tried_reached rows old new call (Refused f) h = h.1.goes.reached

brought_reached : (rows : ℕ) (old new : Known) (key : ℕ) (t : Attempt) → Brings rows old new key t → KeepsReached old.view new.view
brought_reached rows old new key (Made reply) h = absurd h
brought_reached rows old new key Again h = h.2.reached
brought_reached rows old new key (Refused f) h = h.2.reached

pub attempt_reached : (rows : ℕ) (old new : Known) (call : Call) (p : Place) (t : Attempt) → AttemptsAt rows old new call p t → KeepsReached old.view new.view
attempt_reached rows old new call (Here row) t h = tried_reached rows old new call t h
attempt_reached rows old new call (Below at) t h = tried_reached rows old new call t h
attempt_reached rows old new call (Shared at) t h = brought_reached rows old new (call_key call) t h
