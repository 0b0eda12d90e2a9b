-- What is known on the walk over the lines of scripts.
use Rattle.std.specs.Prelude.{◌≡◌, ◌++◌, ℕ, List, Option, Some, None, ⊤, map}
use Rattle.snap_model.specs.declared.command.Command.{Command}
use Rattle.snap_text.specs.declared.script.Line.{Line}
use Rattle.snap_plan.specs.declared.needs.Passed.{Passed}
use Rattle.snap_plan.specs.declared.needs.Walk.{Walk}
use Rattle.snap_plan.specs.declared.stop.Stop.{Stop}
use Rattle.snap_plan.specs.declared.stop.Stop.TheVariants as stop
use Rattle.snap_plan.specs.Needs.{NamedLine, among, commands_of, exports_named, loads_named, passed_from, tables_named}
use Rattle.std.specs.BTreeSet.{contains_text}

-- the needs of these commands, and the files that they may not export to: those that were taken
-- before them, and those that they export to
pub record HasNeeds (taken : List (List ℕ)) (before : List Command) (walk : Walk) : Type 0 where
  pub tables : walk.tables ≡ tables_named before
  pub loads : walk.loads ≡ loads_named before
  pub files : (name : List ℕ)
      → contains_text walk.taken.names name ≡ among (taken ++ exports_named before) name

-- where the first lines of a script pass a limit at the told one, or at none
abbrev pub stop_or : List ℕ → Option Passed → Option Stop → Option Stop
stop_or name None below = below
stop_or name (Some passed) below = Some (stop.Limit name passed.line passed.limit)

abbrev pub PassesAt : List (List ℕ) → List Command → List Line → Option Passed → Type 0
PassesAt taken before lines passed = (name : List ℕ) (below : List NamedLine)
    → passed_from taken before (map (λ line. (name, line)) lines ++ below)
    ≡ stop_or name passed (passed_from taken (before ++ commands_of lines) below)

-- a walk on: it found this, and has the needs of these lines too where no limit is passed
abbrev pub AddsNeeds : List (List ℕ) → List Command → List Line → Walk → Option Passed → Type 0
AddsNeeds taken before lines walk None = HasNeeds taken (before ++ commands_of lines) walk
AddsNeeds taken before lines walk (Some passed) = ⊤
