-- Scripts that are made: their commands name nothing.
use Rattle.std.proofs.Common.{◌≡◌, ◌≤◌, ◌+◌, ◌*◌, ℕ, zero, suc, length, List, [], ◌∷◌, ◌++◌, Option, None, Some, Bool, true, false, cond, refl, sym, ◌∙◌, ap, ap₂, subst, inr, length-append, add-one, arith}
use Rattle.std.specs.Prelude.{◌≢◌, ◌%◌, ◌/◌, ◌==◌, All, AllPairs, fold, filter_map, nat_lt}
use Rattle.std.specs.List.{AllByRecursion, cons_option}
use Rattle.std.specs.Option.{option_to_list}
use Rattle.snap_model.specs.declared.command.Command.{Command}
use Rattle.snap_model.specs.declared.command.Command.TheVariants as command
use Rattle.snap_text.specs.Clones.{all_free}
use Rattle.snap_text.specs.Grammar.{HasValueInRange}
use Rattle.snap_text.specs.LoadFiles.{Loads}
use Rattle.snap_text.specs.Uses.{AllUseSlots}
use Rattle.snap_text.specs.declared.script.Line.{Line}
use Rattle.snap_made.specs.Generator.{census, census_after, command_of_kind, first_commands, first_number, key_of, lines_from, made_script, made_scripts, most_made_lines, nth_command, nth_number, share_of}
use Rattle.snap_plan.specs.declared.plan.Plan.{Plan}
use Rattle.snap_plan.specs.Endings.{made_plan}
use Rattle.snap_plan.specs.Needs.{AllNew, all_commands, commands_of, export_in, load_in, main_table, table_in, tables_named, with_name}
use Rattle.snap_plan.specs.Runnable.{IsRunnable, IsScript}
use Rattle.snap_words.specs.Words.{most_rows, most_scripts}
use Rattle.snap_plan.proofs.Names.{tables_differ}
use Rattle.snap_plan.proofs.Walking.{commands_push}

-- commands that a session runs and that name nothing
record IsPlain (c : Command) : Type 0 where
  table : table_in c ≡ None
  load : load_in c ≡ None
  export : export_in c ≡ None

plain_key : (kind key value : ℕ) → IsPlain (command_of_kind kind key value)
plain_key kind key value = of_tests (nat_lt kind 9) (nat_lt kind 12)
  where
    of_tests : (puts removes : Bool) → IsPlain (cond puts (command.Put key value) (cond removes (command.Remove key) (command.Get key)))
    of_tests true removes = record { table = refl; load = refl; export = refl }
    of_tests false true = record { table = refl; load = refl; export = refl }
    of_tests false false = record { table = refl; load = refl; export = refl }

plain_census : (n : ℕ) → AllByRecursion IsPlain (census_after n)
plain_census n = of_test (n % 10_000 == 0)
  where
    of_test : (b : Bool) → AllByRecursion IsPlain (cond b census [])
    of_test true = (
      record { table = refl; load = refl; export = refl },
      (record { table = refl; load = refl; export = refl }, (record { table = refl; load = refl; export = refl }, tt)),
    )
    of_test false = tt

plain_joined : (cs ds : List Command) → AllByRecursion IsPlain cs → AllByRecursion IsPlain ds → AllByRecursion IsPlain (cs ++ ds)
plain_joined [] ds first rest = rest
plain_joined (c ∷ cs) ds first rest = (first.0, plain_joined cs ds first.1 rest)

plain_commands : (seed workers worker n : ℕ) → AllByRecursion IsPlain (first_commands seed workers worker n)
unfolding first_commands nth_command
plain_commands seed workers worker zero = tt
plain_commands seed workers worker (suc n) =
    let first = first_number seed worker in
    let a = nth_number first (2 * n + 1) in
    let b = nth_number first (2 * n + 2) in
    plain_joined (first_commands seed workers worker n) (nth_command seed workers worker n ∷ census_after (n + 1)) (plain_commands seed workers worker n)
    (plain_key (a / 65_536 % 16) (key_of workers worker b) b, plain_census (n + 1))

commands_from : (n : ℕ) (cs : List Command) → commands_of (lines_from n cs) ≡ cs
unfolding lines_from
commands_from n [] = refl
commands_from n (c ∷ cs) = ap (λ ds. c ∷ ds) (commands_from (n + 1) cs)

plain_script : (commands seed workers worker : ℕ) → AllByRecursion IsPlain (commands_of (made_script commands seed workers worker))
plain_script commands seed workers worker =
    subst (AllByRecursion IsPlain) (sym (commands_from 1 (first_commands seed workers worker (share_of commands workers worker)))) (plain_commands seed workers worker (share_of commands workers worker))

plain_scripts : (commands seed workers n : ℕ) → AllByRecursion IsPlain (all_commands (made_scripts commands seed workers n))
unfolding made_scripts
plain_scripts commands seed workers zero = tt
plain_scripts commands seed workers (suc n) =
    subst (AllByRecursion IsPlain) (sym (commands_push (made_scripts commands seed workers n) (made_script commands seed workers n)))
    (plain_joined (all_commands (made_scripts commands seed workers n)) (commands_of (made_script commands seed workers n)) (plain_scripts commands seed workers n) (plain_script commands seed workers n))

no_tables : (cs : List Command) → AllByRecursion IsPlain cs → filter_map table_in cs ≡ []
no_tables [] plain = refl
no_tables (c ∷ cs) plain = ap₂ (λ (o : Option (List ℕ)) (ns : List (List ℕ)). cons_option o ns) plain.0.table (no_tables cs plain.1)

no_loads : (cs : List Command) → AllByRecursion IsPlain cs → filter_map load_in cs ≡ []
no_loads [] plain = refl
no_loads (c ∷ cs) plain = ap₂ (λ (o : Option (List ℕ)) (ns : List (List ℕ)). cons_option o ns) plain.0.load (no_loads cs plain.1)

no_exports : (cs : List Command) → AllByRecursion IsPlain cs → filter_map export_in cs ≡ []
no_exports [] plain = refl
no_exports (c ∷ cs) plain = ap₂ (λ (o : Option (List ℕ)) (ns : List (List ℕ)). cons_option o ns) plain.0.export (no_exports cs plain.1)

-- one script more
pub made_first : (commands seed workers : ℕ) (scripts : List (List Line)) → scripts ≡ [] → scripts ≡ made_scripts commands seed workers 0
unfolding made_scripts
made_first commands seed workers scripts is = is

pub made_more : (commands seed workers n : ℕ) (scripts more : List (List Line)) (script : List Line) → scripts ≡ made_scripts commands seed workers n → script ≡ made_script commands seed workers n → more ≡ scripts ++ script ∷ []
    → more ≡ made_scripts commands seed workers (n + 1)
unfolding made_scripts
made_more commands seed workers n scripts more script is made added =
    added ∙ ap₂ (λ (ss : List (List Line)) (s : List Line). ss ++ s ∷ []) is made ∙ ap (made_scripts commands seed workers) (sym (add-one n))

pub made_fits : (commands seed workers worker : ℕ) (script : List Line) → script ≡ made_script commands seed workers worker → AllUseSlots all_free script → All (λ (line : Line). HasValueInRange line.command) script → length script ≤ most_made_lines
    → IsScript script
made_fits commands seed workers worker script is uses in_range few = record {
  from = inr (record { commands = commands; seed = seed; workers = workers; worker = worker; is = is });
  uses = uses;
  in_range = in_range;
  few = few;
}

pub length-made_scripts : (commands seed workers n : ℕ) → length (made_scripts commands seed workers n) ≡ n
unfolding made_scripts
length-made_scripts commands seed workers zero = refl
length-made_scripts commands seed workers (suc n) =
    length-append (made_scripts commands seed workers n) (made_script commands seed workers n ∷ []) ∙ ap (λ k. k + 1) (length-made_scripts commands seed workers n) ∙ add-one n

last_new : (last : Option (List ℕ)) → AllNew [] (option_to_list last)
last_new None = tt
last_new (Some name) = (refl, tt)

-- the plan of made scripts can be carried out
pub made_runnable : (rows : ℕ) (last : Option (List ℕ)) (commands seed workers : ℕ) (plan : Plan) → plan ≡ made_plan rows last commands seed workers → 1 ≤ workers → workers ≤ most_scripts → 1 ≤ rows → rows ≤ most_rows
    → All IsScript (made_scripts commands seed workers workers) → IsRunnable plan
made_runnable rows last commands seed workers plan is some few least most fit = subst IsRunnable (sym is) (record {
  some_scripts = subst (λ n. 1 ≤ n) (sym size) some;
  few_scripts = subst (λ n. n ≤ most_scripts) (sym size) few;
  scripts = fit;
  tables = is_tables;
  few_tables = omega arith;
  different = subst (λ (ns : List (List ℕ)). AllPairs (λ a b. a ≢ b) ns) (sym is_tables) (tables_differ all);
  loads = sym (ap (fold with_name []) (no_loads all plain));
  few_loads = omega arith;
  in_range = λ k d within. absurd (omega (arith, within));
  some_rows = least;
  few_rows = most;
  written = subst (λ (ns : List (List ℕ)). AllNew [] (ns ++ option_to_list last)) (sym (no_exports all plain)) (last_new last);
})
  where
    all : List Command
    all = all_commands (made_scripts commands seed workers workers)

    plain : AllByRecursion IsPlain all
    plain = plain_scripts commands seed workers workers

    size : length (made_scripts commands seed workers workers) ≡ workers
    size = length-made_scripts commands seed workers workers

    is_tables : main_table ∷ [] ≡ tables_named all
    is_tables = sym (ap (fold with_name (main_table ∷ [])) (no_tables all plain))

pub made_is : (rows : ℕ) (last : Option (List ℕ)) (commands seed workers : ℕ) (scripts : List (List Line)) (tables : List (List ℕ)) (loads : Loads) → scripts ≡ made_scripts commands seed workers workers → tables ≡ main_table ∷ [] → loads ≡ []
    → (let plan : Plan = record { scripts = scripts; replies = None; tables = tables; loads = loads; rows = rows; last = last } in plan ≡ made_plan rows last commands seed workers)
made_is rows last commands seed workers scripts tables loads is_scripts is_tables is_loads = rw is_scripts (rw is_tables (rw is_loads refl))
