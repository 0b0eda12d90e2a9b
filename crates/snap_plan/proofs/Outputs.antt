-- The files that a run writes all differ.
use Rattle.std.specs.Prelude.{◌||◌, bytes_eq, map}
use Rattle.std.proofs.Common.{◌≡◌, ℕ, Bool, true, false, List, [], ◌∷◌, ◌++◌, Option, Some, None, refl, sym, ◌∙◌, ap, subst, append_assoc, append-nil}
use Rattle.std.specs.List.{list_any}
use Rattle.std.specs.Option.{option_to_list}
use Rattle.std.proofs.lemmas.List.Folds.{list_any-append}
use Rattle.std.proofs.lemmas.Slice.Eq.{bytes_eq-Decides}
use Rattle.snap_words.specs.Outputs.{has_twice, outputs, reply_name}
use Rattle.snap_plan.specs.Needs.{AllNew, among}
use Rattle.snap_plan.proofs.Names.{among-push, bytes_same}

neither : (a b : Bool) → (a || b) ≡ false → (a ≡ false) × (b ≡ false)
neither true b is = absurd cc
neither false b is = (refl, is)

both_false : (a b : Bool) → a ≡ false → b ≡ false → (a || b) ≡ false
both_false true b is other = absurd cc
both_false false b is other = other

not_true : (b : Bool) → (b ≡ true → ⊥) → b ≡ false
not_true true none = absurd (none refl)
not_true false none = refl

not_both : {X : Type 0} (b : Bool) → b ≡ true → b ≡ false → X
not_both true is none = absurd cc
not_both false is none = absurd cc

-- new names stay new where fewer were seen
pub fewer_seen : (seen more : List (List ℕ)) (names : List (List ℕ)) → ((name : List ℕ) → among more name ≡ false → among seen name ≡ false) → AllNew more names → AllNew seen names
fewer_seen seen more [] fewer new = tt
fewer_seen seen more (x ∷ names) fewer new = (
  fewer x new.0,
  fewer_seen (seen ++ x ∷ []) (more ++ x ∷ []) names
      (λ name none. let parts = neither (among more name) (bytes_eq x name) (sym (among-push more x name) ∙ none) in
      among-push seen x name ∙ both_false (among seen name) (bytes_eq x name) (fewer name parts.0) parts.1)
      new.1,
)

-- names in two parts
pub new_parts : (seen first rest : List (List ℕ)) → AllNew seen first → AllNew (seen ++ first) rest → AllNew seen (first ++ rest)
new_parts seen [] rest new more = subst (λ s. AllNew s rest) (append-nil seen) more
new_parts seen (x ∷ first) rest new more = (new.0, new_parts (seen ++ x ∷ []) first rest new.1 (subst (λ s. AllNew s rest) (sym (append_assoc seen (x ∷ []) first)) more))

pub parts_new : (seen first rest : List (List ℕ)) → AllNew seen (first ++ rest) → AllNew seen first × AllNew (seen ++ first) rest
parts_new seen [] rest new = (tt, subst (λ s. AllNew s rest) (sym (append-nil seen)) new)
parts_new seen (x ∷ first) rest new =
    let below = parts_new (seen ++ x ∷ []) first rest new.1 in
    ((new.0, below.0), subst (λ s. AllNew s rest) (append_assoc seen (x ∷ []) first) below.1)

-- a name that was seen is none of the new ones
pub seen_not_new : (seen names : List (List ℕ)) (name : List ℕ) → among seen name ≡ true → AllNew seen names → among names name ≡ false
seen_not_new seen [] name there new = refl
seen_not_new seen (x ∷ names) name there new =
    let differs : bytes_eq x name ≡ false = not_true (bytes_eq x name) (λ same. let is = (bytes_eq-Decides x name).0 same in not_both (among seen name) there (ap (among seen) (sym is) ∙ new.0)) in
    let kept : among (seen ++ x ∷ []) name ≡ true = among-push seen x name ∙ ap (λ b. b || bytes_eq x name) there in
    both_false (bytes_eq x name) (among names name) differs (seen_not_new (seen ++ x ∷ []) names name kept new.1)

-- names of which none stands twice
comm : (a b : List ℕ) → bytes_eq a b ≡ true → bytes_eq b a ≡ true
comm a b is = (bytes_eq-Decides b a).1 (sym ((bytes_eq-Decides a b).0 is))

none_equal : (x : List ℕ) (names : List (List ℕ)) → list_any (bytes_eq x) names ≡ false → among names x ≡ false
none_equal x [] none = refl
none_equal x (y ∷ names) none =
    let parts = neither (bytes_eq x y) (list_any (bytes_eq x) names) none in
    both_false (bytes_eq y x) (among names x) (not_true (bytes_eq y x) (λ same. not_both (bytes_eq x y) (comm y x same) parts.0)) (none_equal x names parts.1)

new_beside : (seen names : List (List ℕ)) → has_twice names ≡ false → ((name : List ℕ) → among names name ≡ true → among seen name ≡ false) → AllNew seen names
new_beside seen [] none apart = tt
new_beside seen (x ∷ names) none apart =
    let parts = neither (list_any (bytes_eq x) names) (has_twice names) none in (
      apart x (ap (λ b. b || among names x) (bytes_same x)),
      new_beside (seen ++ x ∷ []) names parts.1 (λ name there.
          among-push seen x name ∙ both_false (among seen name) (bytes_eq x name) (apart name (or_there (bytes_eq x name) (among names name) there))
          (not_true (bytes_eq x name) (λ same. not_both (among names name) there (ap (among names) (sym ((bytes_eq-Decides x name).0 same)) ∙ none_equal x names parts.0)))),
    )
  where
    or_there : (a b : Bool) → b ≡ true → (a || b) ≡ true
    or_there true b is = refl
    or_there false b is = is

pub all_new : (names : List (List ℕ)) → has_twice names ≡ false → AllNew [] names
all_new names none = new_beside [] names none (λ name there. refl)

among_append : (xs ys : List (List ℕ)) (name : List ℕ) → among (xs ++ ys) name ≡ (among xs name || among ys name)
among_append xs ys name = list_any-append (λ known. bytes_eq known name) xs ys

or_true : (b : Bool) → (b || true) ≡ true
or_true true = refl
or_true false = refl

-- replies, exports and the final file, where the exports are new behind the others
pub written_new : (replies exports : List (List ℕ)) (last : Option (List ℕ)) → has_twice (replies ++ option_to_list last) ≡ false → AllNew (replies ++ option_to_list last) exports → AllNew [] (replies ++ (exports ++ option_to_list last))
written_new replies exports last none new =
    let parts = parts_new [] replies (option_to_list last) (all_new (replies ++ option_to_list last) none) in
    new_parts [] replies (exports ++ option_to_list last) parts.0
    (new_parts replies exports (option_to_list last) (fewer_seen replies (replies ++ option_to_list last) exports fewer new) (behind last parts.1 new))
  where
    fewer : (name : List ℕ) → among (replies ++ option_to_list last) name ≡ false → among replies name ≡ false
    fewer name absent = (neither (among replies name) (among (option_to_list last) name) (sym (among_append replies (option_to_list last) name) ∙ absent)).0

    behind : (last : Option (List ℕ)) → AllNew replies (option_to_list last) → AllNew (replies ++ option_to_list last) exports → AllNew (replies ++ exports) (option_to_list last)
    behind None first new = tt
    behind (Some x) first new = (
      among_append replies exports x ∙ both_false (among replies x) (among exports x) first.0
          (seen_not_new (replies ++ x ∷ []) exports x (among-push replies x x ∙ ap (λ b. among replies x || b) (bytes_same x) ∙ or_true (among replies x)) new),
      tt,
    )

pub written_as : (replies names exports : List (List ℕ)) (last : Option (List ℕ)) → replies ≡ map reply_name names → has_twice (outputs names last) ≡ false → AllNew (outputs names last) exports → AllNew [] (replies ++ (exports ++ option_to_list last))
written_as replies names exports last is none new = subst (λ (ns : List (List ℕ)). AllNew [] (ns ++ (exports ++ option_to_list last))) (sym is) (written_new (map reply_name names) exports last none new)
