-- What is known of each plan, so that it can be carried out.
use Rattle.std.specs.Prelude.{◌≡◌, ◌≢◌, ◌≤◌, ◌⊎◌, ℕ, List, [], ◌++◌, Ok, All, AllPairs, length, map, unwrap_or}
use Rattle.std.specs.Option.{option_to_list}
use Rattle.snap_text.specs.Clones.{all_free}
use Rattle.snap_text.specs.Grammar.{HasValueInRange}
use Rattle.snap_text.specs.LoadFiles.{Loads}
use Rattle.snap_text.specs.Numbers.{FitsValue}
use Rattle.snap_text.specs.Scripts.{script_of}
use Rattle.snap_text.specs.Uses.{AllUseSlots}
use Rattle.snap_text.specs.declared.script.Line.{Line}
use Rattle.snap_made.specs.Generator.{made_script, most_made_lines}
use Rattle.snap_words.specs.Words.{most_rows, most_scripts}
use Rattle.snap_plan.specs.declared.plan.Plan.{Plan}
use Rattle.snap_plan.specs.Needs.{AllNew, all_commands, exports_named, loads_named, most_loads, most_tables, tables_named}

-- the lines of some text, or made for some worker
pub record IsOfText (lines : List Line) : Type 0 where
  pub bytes : List ℕ
  pub is : script_of bytes ≡ Ok lines

pub record IsMadeUp (lines : List Line) : Type 0 where
  pub commands : ℕ
  pub seed : ℕ
  pub workers : ℕ
  pub worker : ℕ
  pub is : lines ≡ made_script commands seed workers worker

-- a script: its clones, its values and its length fit
pub record IsScript (lines : List Line) : Type 0 where
  pub from : IsOfText lines ⊎ IsMadeUp lines
  pub uses : AllUseSlots all_free lines
  pub in_range : All (λ line. HasValueInRange line.command) lines
  pub few : length lines ≤ most_made_lines

-- each pair of the load files has a value that a map can hold
abbrev pub AllInRange : Loads → Type 0
AllInRange loads = All (λ file. All (λ pair. FitsValue pair.1) file.1) loads

-- the files that a plan writes, in their order: the replies, the exports, and the final file
abbrev pub files_written : Plan → List (List ℕ)
files_written plan =
    unwrap_or plan.replies []
    ++ (exports_named (all_commands plan.scripts) ++ option_to_list plan.last)

pub record IsRunnable (plan : Plan) : Type 0 where
  pub some_scripts : 1 ≤ length plan.scripts
  pub few_scripts : length plan.scripts ≤ most_scripts
  pub scripts : All IsScript plan.scripts
  pub tables : plan.tables ≡ tables_named (all_commands plan.scripts)
  pub few_tables : length plan.tables ≤ most_tables
  pub different : AllPairs (λ a b. a ≢ b) plan.tables
  pub loads : map (λ file. file.0) plan.loads ≡ loads_named (all_commands plan.scripts)
  pub few_loads : length plan.loads ≤ most_loads
  pub in_range : AllInRange plan.loads
  pub some_rows : 1 ≤ plan.rows
  pub few_rows : plan.rows ≤ most_rows
  pub written : AllNew [] (files_written plan)
