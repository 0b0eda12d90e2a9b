use Rattle.std.proofs.Common.{◌≡◌, ◌≢◌, ◌≤◌, ◌∙◌, List, ℕ, None, Ok, length, ap, sym, subst}
use Rattle.std.specs.Prelude.{AllPairs, map}
use Rattle.std.proofs.lemmas.List.{length-map}
use Rattle.snap_io.specs.Causes.{Rose}
use Rattle.snap_io.specs.Shelves.{IfTold}
use Rattle.snap_text.specs.declared.script.Line.{Line}
use Rattle.snap_words.specs.Outputs.{outputs, reply_name}
use Rattle.snap_words.specs.declared.words.Work.TheVariants.{Scripts}
use Rattle.snap_plan.specs.Endings.{inputs_for, plan_of_scripts}
use Rattle.snap_plan.specs.Inputs.{loads_in, scripts_in}
use Rattle.snap_plan.specs.Needs.{all_commands, exports_named, loads_named, most_loads, most_tables, passed_in, tables_named}
use Rattle.snap_plan.specs.Stops.{StopsBy}
use Rattle.snap_plan.proofs.Endings.{loads_lift}
use Rattle.snap_plan.proofs.Names.{loads_differ, tables_differ}
use Rattle.snap_plan.proofs.Outputs.{written_as}
use Rattle.snap_plan.proofs.Stopping.{if_err, rose_behind, stops_lift}
use Rattle.snap_plan.proofs.Walking.{exports_new, few_needs}
use Rattle.snap_plan.proofs.accepting.accept_scripts.Goals as goal

pub read_loads-requires : goal.read_loads-requires
read_loads-requires g c = subst (AllPairs (λ (a b : List ℕ). a ≢ b)) (sym (c.list-2.ensures ∙ c.in_ok-tables.ensures.loads)) (loads_differ (all_commands c.list.result.now))

pub returns-in_err-loads-clause-stops : goal.returns-in_err-loads-clause-stops
returns-in_err-loads-clause-stops g c =
    let files = g.S.Shelf.files c.args.shelf.now in
    let names = c.args.names.now in
    let last = c.args.last in
    let scripts : List (List Line) = c.in_ok-scripts.scripts in
    let named = c.list-2.result.now in
    let is_named : named ≡ loads_named (all_commands scripts) = c.list-2.ensures ∙ c.in_ok-tables.ensures.loads ∙ ap (λ (ss : List (List Line)). loads_named (all_commands ss)) c.list.ensures in
    let none : passed_in (outputs names last) names scripts ≡ None =
    ap (λ (ns : List (List ℕ)). passed_in (outputs ns last) ns scripts) (sym c.list-names.ensures)
    ∙ ap (λ (ss : List (List Line)). passed_in (outputs c.list-names.result.now last) c.list-names.result.now ss) (sym c.list.ensures) ∙ c.in_ok-tables.ensures.within in
    let read = subst (λ (ns : List (List ℕ)). IfTold files (λ f. scripts_in f ns ≡ Ok scripts)) c.list-names.ensures c.in_ok-scripts.ensures.scripts in
    let stop = c.in_err-loads.field-0.0 in
    let rose = Rose (g.S.Shelf.read_faults c.read_scripts.new.shelf) (g.S.Shelf.read_faults c.read_loads.new.shelf) in
    let stops = subst (λ fs. StopsBy fs (λ f. loads_in f named) (λ f. named) rose stop) c.in_ok-scripts.ensures.only_reads.same_files c.in_err-loads.ensures.stops in
    if_err _ _ stop c.from_residual-in_err-loads.ensures.1
    (stops_lift files (λ f. loads_in f named) (plan_of_scripts c.args.rows last names) (λ f. named) (inputs_for last (Scripts names)) rose _ (λ risen. rose_behind _ _ _ c.in_ok-scripts.ensures.only_reads.later risen)
    (loads_lift c.args.rows last names files scripts named read none is_named) stop stops)

pub returns-clause-runnable : goal.returns-clause-runnable
returns-clause-runnable g c =
    let names = c.args.names.now in
    let last = c.args.last in
    let scripts : List (List Line) = c.in_ok-scripts.scripts in
    let tables = c.in_ok-tables.field-0.tables in
    let loads = c.in_ok-loads.loads in
    let each : length scripts ≡ length names = c.in_ok-scripts.ensures.each ∙ ap (λ (ns : List (List ℕ)). length ns) c.list-names.ensures in
    let is_tables : tables ≡ tables_named (all_commands scripts) = c.in_ok-tables.ensures.tables ∙ ap (λ (ss : List (List Line)). tables_named (all_commands ss)) c.list.ensures in
    let is_named = c.list-2.ensures ∙ c.in_ok-tables.ensures.loads ∙ ap (λ (ss : List (List Line)). loads_named (all_commands ss)) c.list.ensures in
    let is_loads : map (λ file. file.0) loads ≡ loads_named (all_commands scripts) = c.in_ok-loads.ensures.names ∙ is_named in
    let none : passed_in (outputs names last) names scripts ≡ None =
    ap (λ (ns : List (List ℕ)). passed_in (outputs ns last) ns scripts) (sym c.list-names.ensures)
    ∙ ap (λ (ss : List (List Line)). passed_in (outputs c.list-names.result.now last) c.list-names.result.now ss) (sym c.list.ensures) ∙ c.in_ok-tables.ensures.within in
    let few = few_needs (outputs names last) names scripts (sym each) none in
    let replies : c.in_ok-replies.replies ≡ map reply_name names = c.in_ok-replies.ensures ∙ ap (map reply_name) c.list-names.ensures in
    record {
      some_scripts = subst (λ n. 1 ≤ n) (sym each) c.requires.some_scripts;
      few_scripts = subst (λ n. n ≤ 32) (sym each) c.requires.few_scripts;
      scripts = c.in_ok-scripts.ensures.fit;
      tables = is_tables;
      few_tables = subst (λ (ns : List (List ℕ)). length ns ≤ most_tables) (sym is_tables) few.0;
      different = subst (AllPairs (λ (a b : List ℕ). a ≢ b)) (sym is_tables) (tables_differ (all_commands scripts));
      loads = is_loads;
      few_loads = subst (λ n. n ≤ most_loads) (sym (ap (λ (ns : List (List ℕ)). length ns) is_loads) ∙ length-map loads _) few.1;
      in_range = c.in_ok-loads.ensures.in_range;
      some_rows = c.requires.some_rows;
      few_rows = c.requires.few_rows;
      written = written_as c.in_ok-replies.replies names (exports_named (all_commands scripts)) last replies c.requires.outputs (exports_new (outputs names last) names scripts (sym each) none);
    }
