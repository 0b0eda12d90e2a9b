-- Files that are read in their order, and what they mean.
use Rattle.std.specs.Prelude.{map, find, fold, is_none, bytes_eq, AllPairs, IsSome, IsTrue}
use Rattle.std.proofs.Common.{suc, zero, ◌≡◌, ◌≢◌, ◌<◌, ◌≤◌, ◌+◌, ◌⊎◌, ◌||◌, ℕ, Bool, true, false, cond, List, [], ◌∷◌, ◌++◌, length, get_or, take, drop, Option, Some, None, Result, Ok, Err, refl, sym, ◌∙◌, ap, ap₂, inl, inr, arith}
use Rattle.std.specs.Option.{option_or}
use Rattle.std.proofs.lemmas.Slice.Eq.{bytes_eq-Decides}
use Rattle.std.proofs.lemmas.List.{drop_more, take_more, take_all, get_or-take, length-take-le, map-append, take-append-drop}
use Rattle.std.proofs.lemmas.List.Folds.{Any-from_list_any, find-append, list_any_at}
use Rattle.std.proofs.lemmas.List.Sums.{fold-append}
use Rattle.snap_io.specs.Shelves.{Files, IfTold, IsAbsent, OfFile}
use Rattle.snap_text.specs.LoadFiles.{Loads, HasFile, file_of}
use Rattle.snap_plan.specs.declared.stop.Stop.{Stop}
use Rattle.snap_plan.specs.declared.stop.Stop.TheVariants as stop
use Rattle.snap_plan.specs.Reading.{IsRead}
use Rattle.snap_plan.specs.Needs.{among}
use Rattle.snap_plan.specs.Inputs.{Input, unless_stopped, first_missing, input_of, inputs_in, meanings, unless_longer, unless_missing, with_meaning}
use Rattle.snap_plan.specs.Stops.{IsUnread, StopsBy}
use Rattle.snap_plan.proofs.Stopping.{memory_stops}

-- the files that were read so far, in their order
pub record HasRead (files : Option Files) (most : ℕ) (names : List (List ℕ)) (i : ℕ) (inputs : List Input) : Type 0 where
  pub told : IfTold files (λ f. (inputs ≡ map (input_of most f) (take i names)) × (first_missing f (take i names) ≡ None))
  pub named : map (λ (input : Input). input.0) inputs ≡ take i names

pub read_first : (files : Option Files) (most : ℕ) (names : List (List ℕ)) → HasRead files most names 0 []
read_first None most names = record { told = tt; named = refl }
read_first (Some f) most names = record { told = (refl, refl); named = refl }

there_is : (most : ℕ) (file bytes : Option (List ℕ)) → OfFile file (λ whole. bytes ≡ unless_longer most (Some whole)) → (bytes ≡ unless_longer most file) × (is_none file ≡ false)
there_is most None bytes is = absurd is
there_is most (Some whole) bytes is = (is, refl)

pub read_more : (files : Option Files) (most : ℕ) (names : List (List ℕ)) (i : ℕ) (inputs : List Input) (name : List ℕ) (input : Input) → HasRead files most names i inputs → i < length names → name ≡ get_or names i name
    → input.0 ≡ name → IsRead most files name input.1 → HasRead files most names (i + 1) (inputs ++ input ∷ [])
read_more files most names i inputs name input has within is named read = record {
  told = of_files files has.told read;
  named = map-append (λ (input : Input). input.0) inputs (input ∷ []) ∙ ap₂ (λ (ns : List (List ℕ)) (n : List ℕ). ns ++ n ∷ []) has.named named ∙ sym more;
}
  where
    more : take (i + 1) names ≡ take i names ++ name ∷ []
    more = take_more names i name within ∙ ap (λ n. take i names ++ n ∷ []) (sym is)

    of_files : (files : Option Files) → IfTold files (λ f. (inputs ≡ map (input_of most f) (take i names)) × (first_missing f (take i names) ≡ None)) → IsRead most files name input.1
        → IfTold files (λ f. (inputs ++ input ∷ [] ≡ map (input_of most f) (take (i + 1) names)) × (first_missing f (take (i + 1) names) ≡ None))
    of_files None was read = tt
    of_files (Some f) was read =
        let there = there_is most (f name) input.1 read in
        let same : input ≡ input_of most f name = ap₂ (λ (n : List ℕ) (bytes : Option (List ℕ)). (n, bytes)) named there.0 in (
          ap₂ (λ (xs : List Input) (x : Input). xs ++ x ∷ []) was.0 same ∙ sym (map-append (input_of most f) (take i names) (name ∷ [])) ∙ ap (map (input_of most f)) (sym more),
          ap (first_missing f) more ∙ find-append (λ n. is_none (f n)) (take i names) (name ∷ [])
              ∙ ap (λ o. option_or o (find (λ n. is_none (f n)) (name ∷ []))) was.1
              ∙ ap (λ b. cond b (Some name) None) there.1,
        )

pub read_whole : (files : Option Files) (most : ℕ) (names : List (List ℕ)) (i : ℕ) (inputs : List Input) → HasRead files most names i inputs → length names ≤ i → IfTold files (λ f. inputs_in most f names ≡ Ok inputs)
read_whole None most names i inputs has past = tt
read_whole (Some f) most names i inputs has past =
    ap (inputs_in most f) (sym (take_all i names past)) ∙ ap (λ o. unless_missing o (map (input_of most f) (take i names))) has.told.1 ∙ ap Ok (sym has.told.0)

pub read_names : (files : Option Files) (most : ℕ) (names : List (List ℕ)) (i : ℕ) (inputs : List Input) → HasRead files most names i inputs → length names ≤ i → map (λ (input : Input). input.0) inputs ≡ names
read_names files most names i inputs has past = has.named ∙ take_all i names past

-- the first that passes a test, where none before it does
find_first : (p : List ℕ → Bool) (xs : List (List ℕ)) (k : ℕ) (x : List ℕ) → k < length xs → x ≡ get_or xs k x → find p (take k xs) ≡ None → p x ≡ true → find p xs ≡ Some x
find_first p [] k x within is none here = absurd (omega arith)
find_first p (y ∷ xs) zero x within is none here = ap (λ b. cond b (Some y) (find p xs)) (ap p (sym is) ∙ here) ∙ ap Some (sym is)
find_first p (y ∷ xs) (suc k) x within is none here = either (p y) none (λ rest. find_first p xs k x (omega arith) is rest here)
  where
    either : (b : Bool) → cond b (Some y) (find p (take k xs)) ≡ None → (find p (take k xs) ≡ None → find p xs ≡ Some x) → cond b (Some y) (find p xs) ≡ Some x
    either true none below = absurd cc
    either false none below = below none

-- a file that isn't there is the first missing one
pub unread_stops : (files : Option Files) (most : ℕ) (names : List (List ℕ)) (i : ℕ) (inputs : List Input) (name : List ℕ) (rose risen : Type 0) (s : Stop) → HasRead files most names i inputs → i < length names → name ≡ get_or names i name
    → (rose → risen) → IsUnread name files rose s → StopsBy files (λ f. inputs_in most f names) (λ f. names) risen s
unread_stops files most names i inputs name rose risen stop.Memory has within is wider unread = memory_stops files (λ f. inputs_in most f names) (λ f. names) risen
unread_stops files most names i inputs name rose risen (stop.Read file) has within is wider unread = of_files files has.told unread
  where
    there : among names name ≡ true
    there = list_any_at (λ known. bytes_eq known name) names i name within ((bytes_eq-Decides (get_or names i name) name).1 (sym is))

    of_files : (files : Option Files) → IfTold files (λ f. (inputs ≡ map (input_of most f) (take i names)) × (first_missing f (take i names) ≡ None)) → (file ≡ name) × (rose ⊎ IsAbsent files name) → StopsBy files (λ f. inputs_in most f names) (λ f. names) risen (stop.Read file)
    of_files None was unread = elim unread.1 as (λ _. risen) [ inl fault ↦ wider fault | inr absent ↦ absurd absent ]
    of_files (Some f) was unread = elim unread.1 as (λ _. (inputs_in most f names ≡ Err (stop.Read file)) ⊎ risen × IsTrue (among names file)) [
      | inl fault ↦ inr (wider fault, ap (among names) unread.0 ∙ there)
      | inr absent ↦ inl (ap (λ o. unless_missing o (map (input_of most f) names)) (find_first (λ n. is_none (f n)) names i name within is was.1 (ap is_none absent)) ∙ ap (λ n. Err (stop.Read n)) (sym unread.0))
    ]
unread_stops files most names i inputs name rose risen (stop.Words why) has within is wider unread = absurd unread
unread_stops files most names i inputs name rose risen (stop.Line file line kind) has within is wider unread = absurd unread
unread_stops files most names i inputs name rose risen (stop.LongScript file) has within is wider unread = absurd unread
unread_stops files most names i inputs name rose risen (stop.Limit file line limit) has within is wider unread = absurd unread
unread_stops files most names i inputs name rose risen (stop.Record file number) has within is wider unread = absurd unread
unread_stops files most names i inputs name rose risen (stop.LongLoad file) has within is wider unread = absurd unread

-- what the inputs so far mean, with one more; and where one is refused
module _ {A : Type 0} (meaning : Input → Result A Stop) where
  pub meaning_more : (inputs : List Input) (i : ℕ) (input : Input) (xs : List A) (x : A) → meanings meaning (take i inputs) ≡ Ok xs → i < length inputs → input ≡ get_or inputs i input → meaning input ≡ Ok x
      → meanings meaning (take (i + 1) inputs) ≡ Ok (xs ++ x ∷ [])
  meaning_more inputs i input xs x was within is means =
      ap (meanings meaning) (take_more inputs i input within ∙ ap (λ (y : Input). take i inputs ++ y ∷ []) (sym is))
      ∙ fold-append (with_meaning meaning) (Ok []) (take i inputs) (input ∷ [])
      ∙ ap (λ (r : Result (List A) Stop). with_meaning meaning r input) was
      ∙ ap (λ (r : Result A Stop). unless_stopped r (λ y. Ok (xs ++ y ∷ []))) means

  after_stop : (inputs : List Input) (s : Stop) → (let stopped : Result (List A) Stop = Err s in fold (with_meaning meaning) stopped inputs ≡ stopped)
  after_stop [] s = refl
  after_stop (input ∷ inputs) s = after_stop inputs s

  pub meaning_stops : (inputs : List Input) (i : ℕ) (input : Input) (xs : List A) → meanings meaning (take i inputs) ≡ Ok xs → i < length inputs → input ≡ get_or inputs i input → (s : Stop) → meaning input ≡ Err s
      → meanings meaning inputs ≡ Err s
  meaning_stops inputs i input xs was within is s means =
      ap (meanings meaning) (sym (take-append-drop i inputs))
      ∙ fold-append (with_meaning meaning) (Ok []) (take i inputs) (drop i inputs)
      ∙ ap (λ (r : Result (List A) Stop). fold (with_meaning meaning) r (drop i inputs)) was
      ∙ ap (λ (ys : List Input). fold (with_meaning meaning) (Ok xs) ys) (drop_more inputs i input within ∙ ap (λ (y : Input). y ∷ drop (i + 1) inputs) (sym is))
      ∙ ap (λ (r : Result A Stop). fold (with_meaning meaning) (unless_stopped r (λ y. Ok (xs ++ y ∷ []))) (drop (i + 1) inputs)) means
      ∙ after_stop (drop (i + 1) inputs) s

  pub meanings_whole : (inputs : List Input) (i : ℕ) (xs : List A) → meanings meaning (take i inputs) ≡ Ok xs → length inputs ≤ i → meanings meaning inputs ≡ Ok xs
  meanings_whole inputs i xs was past = ap (meanings meaning) (sym (take_all i inputs past)) ∙ was

-- a load file that isn't there yet
among_from_file : (loads : Loads) (name : List ℕ) → HasFile loads name → among (map (λ file. file.0) loads) name ≡ true
among_from_file [] name has = absurd cc
among_from_file (file ∷ loads) name has = either (bytes_eq file.0 name) has (λ rest. among_from_file loads name rest)
  where
    either : (b : Bool) → IsSome (cond b (Some file) (file_of loads name)) → (HasFile loads name → among (map (λ f. f.0) loads) name ≡ true) → (b || among (map (λ f. f.0) loads) name) ≡ true
    either true has below = refl
    either false has below = below has

not_among : (names : List (List ℕ)) (i : ℕ) (name : List ℕ) → AllPairs (λ a b. a ≢ b) names → i < length names → name ≡ get_or names i name → among (take i names) name ≡ true → ⊥
not_among names i name differ within is there =
    let any = Any-from_list_any (λ known. bytes_eq known name) (take i names) there in
    let k : ℕ = any.0 in
    let x = any.1 in
    let below : k < i = omega (arith, any.2, length-take-le i names (omega arith)) in
    let same : x ≡ name = (bytes_eq-Decides x name).0 any.4 in
    let at : get_or (take i names) k x ≡ x = any.3 in
    let here : get_or names k x ≡ name = sym (get_or-take i names k x below) ∙ at ∙ same in
    differ k i x below within (here ∙ is ∙ ap (λ d. get_or names i d) (sym same))

pub new_file : (loads : Loads) (names : List (List ℕ)) (i : ℕ) (name : List ℕ) → map (λ file. file.0) loads ≡ take i names → AllPairs (λ a b. a ≢ b) names → i < length names → name ≡ get_or names i name → ¬ HasFile loads name
new_file loads names i name named differ within is = λ there. not_among names i name differ within is (ap (λ ns. among ns name) (sym named) ∙ among_from_file loads name there)

-- what is found, by what it is
pub meanings_same : {A : Type 0} {xs ys : List A} → ys ≡ xs → (let found : Result (List A) Stop = Ok xs in found ≡ Ok ys)
meanings_same is = ap Ok (sym is)

-- the name of an input, and the names of the load files with one more
pub name_at : (inputs : List Input) (i : ℕ) (input : Input) → i < length inputs → input ≡ get_or inputs i input → (i < length (map (λ (x : Input). x.0) inputs)) × ((d : List ℕ) → input.0 ≡ get_or (map (λ (x : Input). x.0) inputs) i d)
name_at [] i input within is = absurd (omega (arith, within))
name_at (x ∷ inputs) zero input within is = (omega arith, λ d. ap (λ (y : Input). y.0) is)
name_at (x ∷ inputs) (suc i) input within is = let rest = name_at inputs i input (omega (arith, within)) is in (let below = rest.0 in omega (arith, below), rest.1)

pub loads_more : (loads more : Loads) (inputs : List Input) (i : ℕ) (input : Input) (pairs : List (ℕ × ℕ)) → i < length inputs → input ≡ get_or inputs i input → map (λ file. file.0) loads ≡ take i (map (λ (x : Input). x.0) inputs)
    → more ≡ loads ++ (input.0, pairs) ∷ [] → map (λ file. file.0) more ≡ take (i + 1) (map (λ (x : Input). x.0) inputs)
loads_more loads more inputs i input pairs within is named added =
    let at = name_at inputs i input within is in
    ap (map (λ file. file.0)) added ∙ map-append (λ (file : List ℕ × List (ℕ × ℕ)). file.0) loads ((input.0, pairs) ∷ [])
    ∙ ap₂ (λ (ns : List (List ℕ)) (n : List ℕ). ns ++ n ∷ []) named (at.1 input.0)
    ∙ sym (take_more (map (λ (x : Input). x.0) inputs) i input.0 at.0)
