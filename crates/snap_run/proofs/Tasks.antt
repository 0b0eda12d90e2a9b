-- A plan's scripts can be run by workers on new tables.
use Rattle.std.proofs.Common.{zero, suc, ◌≡◌, ◌<◌, ◌≤◌, ◌+◌, ℕ, Bool, true, false, cond, List, [], ◌∷◌, ◌++◌, length, get_or, Option, Some, None, refl, sym, ◌∙◌, ap, subst, arith, ◌||◌, All, find, map, fold, filter_map, bytes_eq, IsSome}
use Rattle.snap_prelude.proofs.Common.{flat_map-cons, length-append, length-map, list_any, nat_tests, option_to_list}
use Rattle.std.specs.List.{cons_option, position_or_len}
use Rattle.snap_prelude.specs.{Command, Pairs}
use Rattle.snap_text.specs.{Grammar.HasValueInRange, LoadFiles.file_of, LoadFiles.HasFile, LoadFiles.Loads}
use Rattle.snap_text.specs.{LoadFiles.pairs_of, declared.script.Line.Line, Numbers.FitsValue}
use Rattle.snap_service.specs.Prelude.{table_place}
use Rattle.snap_service.proofs.{Scripts.script_can_run, Slots.AllServed, Slots.IsServed}
use Rattle.snap_crew.specs.Prelude.{script_commands, IsTask}
use Rattle.snap_plan.specs.{Needs.all_commands, Needs.among, Needs.load_in, Needs.main_table, Needs.table_in}
use Rattle.snap_plan.specs.{Needs.with_name, Runnable.AllInRange, Runnable.IsRunnable, declared.plan.Plan.Plan}
use Rattle.snap_plan.proofs.Names.{fold_keeps, taken_in}

-- names that some are given to by commands are all among those
abbrev IfNamed : List (List ℕ) → Option (List ℕ) → Type 0
IfNamed names None = Unit {0}
IfNamed names (Some name) = among names name ≡ true

abbrev pub AllNamed : (Command → Option (List ℕ)) → List (List ℕ) → List Command → Type 0
AllNamed h names [] = Unit {0}
AllNamed h names (c ∷ cs) = IfNamed names (h c) × AllNamed h names cs

pub all_named : (h : Command → Option (List ℕ)) (known : List (List ℕ)) (cs : List Command) (names : List (List ℕ)) → names ≡ fold with_name known (filter_map h cs) → AllNamed h names cs
all_named h known [] names is = tt
all_named h known (c ∷ cs) names is = (first (h c) is, all_named h (fold with_name known (option_to_list (h c))) cs names (is ∙ split (h c)))
  where
    first : (o : Option (List ℕ)) → names ≡ fold with_name known (cons_option o (filter_map h cs)) → IfNamed names o
    first None is = tt
    first (Some name) is = ap (λ ns. among ns name) is ∙ fold_keeps (with_name known name) (filter_map h cs) name (taken_in known name)

    split : (o : Option (List ℕ)) → fold with_name known (cons_option o (filter_map h cs)) ≡ fold with_name (fold with_name known (option_to_list o)) (filter_map h cs)
    split None = refl
    split (Some name) = refl

-- a name that is there has a place, and a file that was loaded its pairs
position-step : (p : List ℕ → Bool) (x : List ℕ) (xs : List (List ℕ)) → p x ≡ false → position_or_len p (x ∷ xs) ≡ 1 + position_or_len p xs
position-step p x xs is = rw is refl

placed : (p : List ℕ → Bool) (xs : List (List ℕ)) → list_any p xs ≡ true → position_or_len p xs < length xs
placed p [] is = absurd cc
placed p (x ∷ xs) is = either (p x) refl is (λ rest. placed p xs rest)
  where
    either : (b : Bool) → p x ≡ b → (b || list_any p xs) ≡ true → (list_any p xs ≡ true → position_or_len p xs < length xs) → position_or_len p (x ∷ xs) < length (x ∷ xs)
    either true here is below = rw here (omega arith)
    either false here is below = let rest : position_or_len p xs < length xs = below is in omega (arith, position-step p x xs here, rest)

pub has_place : (names : List (List ℕ)) (name : List ℕ) → among names name ≡ true → IsSome (table_place names name)
has_place names name is = let within = placed (λ known. bytes_eq known name) names is in grind (arith, nat_tests)

pub has_file : (loads : Loads) (name : List ℕ) → among (map (λ file. file.0) loads) name ≡ true → HasFile loads name
has_file [] name is = absurd cc
has_file (file ∷ loads) name is = either (bytes_eq file.0 name) is (λ rest. has_file loads name rest)
  where
    either : (b : Bool) → (b || among (map (λ f. f.0) loads) name) ≡ true → (among (map (λ f. f.0) loads) name ≡ true → HasFile loads name) → IsSome (cond b (Some file) (file_of loads name))
    either true is below = refl
    either false is below = below is

-- the same of each of several scripts
named_left : (h : Command → Option (List ℕ)) (names : List (List ℕ)) (xs ys : List Command) → AllNamed h names (xs ++ ys) → AllNamed h names xs
named_left h names [] ys all = tt
named_left h names (x ∷ xs) ys all = (all.0, named_left h names xs ys all.1)

named_right : (h : Command → Option (List ℕ)) (names : List (List ℕ)) (xs ys : List Command) → AllNamed h names (xs ++ ys) → AllNamed h names ys
named_right h names [] ys all = all
named_right h names (x ∷ xs) ys all = named_right h names xs ys all.1

named_at : (h : Command → Option (List ℕ)) (names : List (List ℕ)) (scripts : List (List Line)) (i : ℕ) (d : List Line) → i < length scripts → AllNamed h names (all_commands scripts) → AllNamed h names (script_commands (get_or scripts i d))
named_at h names [] i d l all = absurd (omega (arith, l))
named_at h names (x ∷ xs) zero d l all = named_left h names (script_commands x) (all_commands xs) (subst (λ (cs : List Command). AllNamed h names cs) (flat_map-cons script_commands x xs) all)
named_at h names (x ∷ xs) (suc i) d l all = named_at h names xs i d (omega (arith, l)) (named_right h names (script_commands x) (all_commands xs) (subst (λ (cs : List Command). AllNamed h names cs) (flat_map-cons script_commands x xs) all))

-- what holds of all holds of the first that passes a test
abbrev or_else : {X : Type 0} → Option X → X → X
or_else None d = d
or_else (Some y) d = y

found : {X : Type 0} (P : X → Type 0) (test : X → Bool) (l : List X) (x : X) → All P l → find test l ≡ Some x → P x
found P test [] x all e = absurd cc
found {X} P test (f ∷ fs) x all e = go (test f) e (λ h. found P test fs x (λ k d l. all (suc k) d (omega (arith, l))) h)
  where
    go : (b : Bool) → cond b (Some f) (find test fs) ≡ Some x → (find test fs ≡ Some x → P x) → P x
    go true h r = subst P (ap (λ (o : Option X). or_else o f) h) (all 0 f (omega arith))
    go false h r = r h

-- the values of a load file fit
abbrev in_file : Option (List ℕ × Pairs) → Pairs
in_file None = []
in_file (Some file) = file.1

file_fits : (loads : Loads) (name : List ℕ) → AllInRange loads → All (λ (pair : ℕ × ℕ). FitsValue pair.1) (pairs_of loads name)
file_fits loads name all = go (file_of loads name) refl
  where
    go : (o : Option (List ℕ × Pairs)) → file_of loads name ≡ o → All (λ (pair : ℕ × ℕ). FitsValue pair.1) (in_file o)
    go None e = λ i d l. absurd (omega (arith, l))
    go (Some x) e = found (λ (f : List ℕ × Pairs). All (λ (pair : ℕ × ℕ). FitsValue pair.1) f.1) (λ (f : List ℕ × Pairs). bytes_eq f.0 name) loads x all e

-- each command of a script finds the table or the file that it names, and its value fits
served : (names : List (List ℕ)) (loads : Loads) (lines : List Line) → AllNamed table_in names (script_commands lines) → AllNamed load_in (map (λ file. file.0) loads) (script_commands lines) → AllInRange loads
    → All (λ (line : Line). HasValueInRange line.command) lines → AllServed names loads (script_commands lines)
served names loads [] tables files range values = tt
served names loads (line ∷ lines) tables files range values = (
  of_command line.command tables.0 files.0 (values 0 line (omega arith)),
  served names loads lines tables.1 files.1 range (λ i d l. values (suc i) d (omega (arith, l))),
)
  where
    of_command : (c : Command) → IfNamed names (table_in c) → IfNamed (map (λ file. file.0) loads) (load_in c) → HasValueInRange c → IsServed names loads c
    of_command (Command.Table name) table file value = has_place names name table
    of_command (Command.Load name) table file value = (has_file loads name file, file_fits loads name range)
    of_command (Command.Put key v) table file value = omega (arith, value)
    of_command _ table file value = tt

kept_length : (names xs : List (List ℕ)) → 1 ≤ length names → 1 ≤ length (fold with_name names xs)
kept_length names [] l = l
kept_length names (x ∷ xs) l = kept_length (with_name names x) xs (either (among names x))
  where
    either : (b : Bool) → 1 ≤ length (cond b names (names ++ x ∷ []))
    either true = l
    either false = omega (arith, l, length-append names (x ∷ []))

pub is_task : (plan : Plan) → IsRunnable plan → IsTask plan.tables plan.rows plan.loads plan.scripts
is_task plan r = record {
  a_name = subst (λ (ns : List (List ℕ)). 1 ≤ length ns) (sym r.tables) (kept_length (main_table ∷ []) (filter_map table_in (all_commands plan.scripts)) (omega arith));
  few_names = r.few_tables;
  different_names = r.different;
  a_row = r.some_rows;
  few_rows = r.few_rows;
  few = r.few_scripts;
  scripts_run = λ i d l.
      let s = r.scripts i d l in let lines = get_or plan.scripts i d in
      let tables = named_at table_in plan.tables plan.scripts i d l (all_named table_in (main_table ∷ []) (all_commands plan.scripts) plan.tables r.tables) in
      let files = named_at load_in (map (λ file. file.0) plan.loads) plan.scripts i d l (all_named load_in [] (all_commands plan.scripts) (map (λ file. file.0) plan.loads) r.loads) in
      record {
        can = λ st named free. script_can_run plan.tables plan.loads lines s.uses (served plan.tables plan.loads lines tables files r.in_range s.in_range) st named free;
        few = omega (arith, s.few, length-map lines (λ (line : Line). line.command));
      };
}
