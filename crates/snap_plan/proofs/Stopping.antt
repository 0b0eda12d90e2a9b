-- The stops of a step as those of a longer one.
use Rattle.std.specs.Prelude.{IfErr, IsErrAnd, IsTrue}
use Rattle.std.proofs.Common.{◌≡◌, ◌≤◌, ◌⊎◌, ℕ, true, List, Option, Some, None, Result, Ok, Err, ◌∙◌, sym, subst, inl, inr, arith}
use Rattle.snap_io.specs.Prelude.{Files, IfTold, OnlyReads, Rose}
use Rattle.snap_plan.specs.declared.stop.Stop.{Stop}
use Rattle.snap_plan.specs.declared.stop.Stop.TheVariants as stop
use Rattle.snap_plan.specs.Needs.{among}
use Rattle.snap_plan.specs.Stops.{IsBlindStop, IsPastReading, IsPastWords, IsStopBy, IsStopOf, IsUnread, StopsBy}

-- a count that rose in a part of the time rose in all of it
pub rose_behind : (a b c : ℕ) → a ≤ b → Rose b c → Rose a c
rose_behind a b c later rose = omega arith

-- calls one after another that only read
pub read_on : {S : Type 0} {files : S → Option Files} {read_faults write_faults : S → ℕ} {a b c : S} → OnlyReads files read_faults write_faults a b → OnlyReads files read_faults write_faults b c
    → OnlyReads files read_faults write_faults a c
read_on before after = record {
  later = omega (arith, before.later, after.later);
  same_files = after.same_files ∙ before.same_files;
  same_writes = after.same_writes ∙ before.same_writes;
}

pub memory_stops : {A : Type 0} (files : Option Files) (wanted : Files → Result A Stop) (names : Files → List (List ℕ)) (rose : Type 0) → StopsBy files wanted names rose stop.Memory
memory_stops None wanted names rose = tt
memory_stops (Some f) wanted names rose = tt

-- a stop of one step is one of a longer one, where that wants the same and reads no fewer files
abbrev pub Lifts : {A B : Type 0} → Result A Stop → Result B Stop → List (List ℕ) → List (List ℕ) → Type 0
Lifts part whole names all = ((s : Stop) → part ≡ Err s → whole ≡ Err s) × ((name : List ℕ) → among names name ≡ true → among all name ≡ true)

blind_lifts : (rose risen : Type 0) → (rose → risen) → (s : Stop) → IsBlindStop rose s → IsBlindStop risen s
blind_lifts rose risen wider (stop.Read name) blind = wider blind
blind_lifts rose risen wider _ blind = tt

stop_lifts : {A B : Type 0} (part : Result A Stop) (whole : Result B Stop) (names all : List (List ℕ)) (rose risen : Type 0) → (rose → risen) → Lifts part whole names all → (s : Stop) → IsStopOf part names rose s → IsStopOf whole all risen s
stop_lifts part whole names all rose risen wider lifts (stop.Read name) is = elim is as (λ _. (whole ≡ Err (stop.Read name)) ⊎ risen × IsTrue (among all name)) [
  | inl same ↦ inl (lifts.0 (stop.Read name) same)
  | inr fault ↦ inr (wider fault.0, lifts.1 name fault.1)
]
stop_lifts part whole names all rose risen wider lifts stop.Memory is = tt
stop_lifts part whole names all rose risen wider lifts (stop.Words why) is = lifts.0 (stop.Words why) is
stop_lifts part whole names all rose risen wider lifts (stop.Line name line kind) is = lifts.0 (stop.Line name line kind) is
stop_lifts part whole names all rose risen wider lifts (stop.LongScript name) is = lifts.0 (stop.LongScript name) is
stop_lifts part whole names all rose risen wider lifts (stop.Limit name line limit) is = lifts.0 (stop.Limit name line limit) is
stop_lifts part whole names all rose risen wider lifts (stop.Record name number) is = lifts.0 (stop.Record name number) is
stop_lifts part whole names all rose risen wider lifts (stop.LongLoad name) is = lifts.0 (stop.LongLoad name) is

pub stops_lift : {A B : Type 0} (files : Option Files) (part : Files → Result A Stop) (whole : Files → Result B Stop) (names all : Files → List (List ℕ)) (rose risen : Type 0) → (rose → risen)
    → IfTold files (λ f. Lifts (part f) (whole f) (names f) (all f)) → (s : Stop) → StopsBy files part names rose s → StopsBy files whole all risen s
stops_lift None part whole names all rose risen wider lifts s stops = blind_lifts rose risen wider s stops
stops_lift (Some f) part whole names all rose risen wider lifts s stops = stop_lifts (part f) (whole f) (names f) (all f) rose risen wider lifts s stops

-- so is a stop of a step that needs no files
blind_without : (rose : Type 0) (s : Stop) → IsPastReading s → IsBlindStop rose s
blind_without rose (stop.Read name) past = absurd past
blind_without rose _ past = tt

told_without : {A B : Type 0} (part : Result A Stop) (whole : Result B Stop) (names : List (List ℕ)) (rose : Type 0) → ((s : Stop) → part ≡ Err s → whole ≡ Err s) → (s : Stop) → IsPastReading s → IsStopBy part s → IsStopOf whole names rose s
told_without part whole names rose lifts (stop.Read name) past is = absurd past
told_without part whole names rose lifts (stop.Words why) past is = absurd past
told_without part whole names rose lifts stop.Memory past is = tt
told_without part whole names rose lifts (stop.Line name line kind) past is = lifts (stop.Line name line kind) is
told_without part whole names rose lifts (stop.LongScript name) past is = lifts (stop.LongScript name) is
told_without part whole names rose lifts (stop.Limit name line limit) past is = lifts (stop.Limit name line limit) is
told_without part whole names rose lifts (stop.Record name number) past is = lifts (stop.Record name number) is
told_without part whole names rose lifts (stop.LongLoad name) past is = lifts (stop.LongLoad name) is

pub stops_without : {A B : Type 0} (files : Option Files) (part : Result A Stop) (whole : Files → Result B Stop) (names : Files → List (List ℕ)) (rose : Type 0)
    → IfTold files (λ f. (s : Stop) → part ≡ Err s → whole f ≡ Err s) → (s : Stop) → IsPastReading s → IsStopBy part s → StopsBy files whole names rose s
stops_without None part whole names rose lifts s past is = blind_without rose s past
stops_without (Some f) part whole names rose lifts s past is = told_without part (whole f) (names f) rose lifts s past is

-- and a stop of a part of a step that needs no files
pub stop_by_part : {A B : Type 0} (part : Result A Stop) (whole : Result B Stop) → ((s : Stop) → part ≡ Err s → whole ≡ Err s) → (s : Stop) → IsStopBy part s → IsStopBy whole s
stop_by_part part whole lifts (stop.Read name) is = lifts (stop.Read name) is
stop_by_part part whole lifts (stop.Words why) is = lifts (stop.Words why) is
stop_by_part part whole lifts stop.Memory is = tt
stop_by_part part whole lifts (stop.Line name line kind) is = lifts (stop.Line name line kind) is
stop_by_part part whole lifts (stop.LongScript name) is = lifts (stop.LongScript name) is
stop_by_part part whole lifts (stop.Limit name line limit) is = lifts (stop.Limit name line limit) is
stop_by_part part whole lifts (stop.Record name number) is = lifts (stop.Record name number) is
stop_by_part part whole lifts (stop.LongLoad name) is = lifts (stop.LongLoad name) is

-- the words were accepted before
pub unread_past : (name : List ℕ) (files : Option Files) (rose : Type 0) (s : Stop) → IsUnread name files rose s → IsPastWords s
unread_past name files rose (stop.Words why) unread = unread
unread_past name files rose _ unread = tt

pub reading_past : (s : Stop) → IsPastReading s → IsPastWords s
reading_past (stop.Words why) past = past
reading_past _ past = tt

-- what is known of an error that is passed on
pub if_err : {T E : Type 0} (r : Result T E) (P : E → Type 0) (x : E) → IsErrAnd r (λ e. e ≡ x) → P x → IfErr r P
if_err (Ok t) P x is p = tt
if_err (Err e) P x is p = subst P (sym is) p
