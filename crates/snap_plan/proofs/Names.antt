-- Names in the order in which they first come: those that are named are among them, and they differ.
use Rattle.std.proofs.Common.{◌≡◌, ◌≢◌, ◌<◌, ◌+◌, ℕ, Bool, true, false, cond, List, [], ◌∷◌, ◌++◌, length, get_or, take, refl, sym, ◌∙◌, ap, arith}
use Rattle.std.specs.Prelude.{◌||◌, fold, filter_map, bytes_eq, AllPairs}
use Rattle.std.proofs.lemmas.Slice.Eq.{bytes_eq-Decides}
use Rattle.std.proofs.lemmas.List.{take_more}
use Rattle.std.proofs.lemmas.List.Elements.{filter_map-append}
use Rattle.std.proofs.lemmas.List.Folds.{list_any-append, list_any_at}
use Rattle.std.proofs.lemmas.List.Quantifiers.{all_pairs_push}
use Rattle.std.proofs.lemmas.List.Sums.{fold-append}
use Rattle.snap_model.specs.declared.command.Command.{Command}
use Rattle.snap_plan.specs.Needs.{among, exports_named, load_in, loads_named, main_table, table_in, tables_named, with_name}

pub or_false : (b : Bool) → (b || false) ≡ b
or_false true = refl
or_false false = refl

or_true : (b : Bool) → (b || true) ≡ true
or_true true = refl
or_true false = refl

pub or_cond : (b other : Bool) → cond b true other ≡ (other || b)
or_cond true other = sym (or_true other)
or_cond false other = sym (or_false other)

pub bytes_same : (name : List ℕ) → bytes_eq name name ≡ true
bytes_same name = (bytes_eq-Decides name name).1 refl

pub among-push : (names : List (List ℕ)) (x name : List ℕ) → among (names ++ x ∷ []) name ≡ (among names name || bytes_eq x name)
among-push names x name = list_any-append (λ known. bytes_eq known name) names (x ∷ []) ∙ ap (λ b. among names name || b) (or_false (bytes_eq x name))

pub among-take : (names : List (List ℕ)) (i : ℕ) (x name : List ℕ) → i < length names → x ≡ get_or names i x → among (take (i + 1) names) name ≡ (among (take i names) name || bytes_eq x name)
among-take names i x name within is = ap (λ ns. among ns name) (take_more names i x within ∙ ap (λ n. take i names ++ n ∷ []) (sym is)) ∙ among-push (take i names) x name

-- a name that was taken in is there, and those before it stay
among_last : (names : List (List ℕ)) (x : List ℕ) → among (names ++ x ∷ []) x ≡ true
among_last names x = among-push names x x ∙ ap (λ b. among names x || b) (bytes_same x) ∙ or_true (among names x)

among_kept : (names : List (List ℕ)) (x name : List ℕ) → among names name ≡ true → among (names ++ x ∷ []) name ≡ true
among_kept names x name is = among-push names x name ∙ ap (λ b. b || bytes_eq x name) is

pub taken_in : (names : List (List ℕ)) (x : List ℕ) → among (with_name names x) x ≡ true
taken_in names x = either (among names x) refl
  where
    either : (b : Bool) → among names x ≡ b → among (cond b names (names ++ x ∷ [])) x ≡ true
    either true is = is
    either false is = among_last names x

kept : (names : List (List ℕ)) (x name : List ℕ) → among names name ≡ true → among (with_name names x) name ≡ true
kept names x name is = either (among names x)
  where
    either : (b : Bool) → among (cond b names (names ++ x ∷ [])) name ≡ true
    either true = is
    either false = among_kept names x name is

pub fold_keeps : (names xs : List (List ℕ)) (name : List ℕ) → among names name ≡ true → among (fold with_name names xs) name ≡ true
fold_keeps names [] name is = is
fold_keeps names (x ∷ xs) name is = fold_keeps (with_name names x) xs name (kept names x name is)

-- names in the order of their first coming differ
differs : (names : List (List ℕ)) (name : List ℕ) → among names name ≡ false → (k : ℕ) (d : List ℕ) → k < length names → get_or names k d ≢ name
differs names name is k d within same =
    let there = list_any_at (λ known. bytes_eq known name) names k d within ((bytes_eq-Decides (get_or names k d) name).1 same) in
    let both : true ≡ false = sym there ∙ is in cc

pub all_differ : (names xs : List (List ℕ)) → AllPairs (λ a b. a ≢ b) names → AllPairs (λ a b. a ≢ b) (fold with_name names xs)
all_differ names [] differ = differ
all_differ names (x ∷ xs) differ = all_differ (with_name names x) xs (either (among names x) refl)
  where
    either : (b : Bool) → among names x ≡ b → AllPairs (λ a b. a ≢ b) (cond b names (names ++ x ∷ []))
    either true is = differ
    either false is = all_pairs_push (λ a b. a ≢ b) names x differ (differs names x is)

pub tables_differ : (cs : List Command) → AllPairs (λ a b. a ≢ b) (tables_named cs)
tables_differ cs = all_differ (main_table ∷ []) (filter_map table_in cs) (λ i j d below within. absurd (omega arith))

pub loads_differ : (cs : List Command) → AllPairs (λ a b. a ≢ b) (loads_named cs)
loads_differ cs = all_differ [] (filter_map load_in cs) (λ i j d below within. absurd (omega arith))

-- one command more
pub tables-push : (cs : List Command) (c : Command) → tables_named (cs ++ c ∷ []) ≡ fold with_name (tables_named cs) (filter_map table_in (c ∷ []))
tables-push cs c = ap (fold with_name (main_table ∷ [])) (filter_map-append table_in cs (c ∷ [])) ∙ fold-append with_name (main_table ∷ []) (filter_map table_in cs) (filter_map table_in (c ∷ []))

pub loads-push : (cs : List Command) (c : Command) → loads_named (cs ++ c ∷ []) ≡ fold with_name (loads_named cs) (filter_map load_in (c ∷ []))
loads-push cs c = ap (fold with_name []) (filter_map-append load_in cs (c ∷ [])) ∙ fold-append with_name [] (filter_map load_in cs) (filter_map load_in (c ∷ []))

pub exports-push : (cs : List Command) (c : Command) → exports_named (cs ++ c ∷ []) ≡ exports_named cs ++ exports_named (c ∷ [])
exports-push cs c = filter_map-append _ cs (c ∷ [])
