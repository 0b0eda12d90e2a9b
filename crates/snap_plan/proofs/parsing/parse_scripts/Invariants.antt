use Rattle.std.proofs.Common.{◌≡◌, Ok, length, take}
use Rattle.std.specs.Prelude.{All}
use Rattle.snap_plan.specs.Inputs.{as_script, meanings}
use Rattle.snap_plan.specs.Runnable.{IsScript}
use Rattle.snap_plan.proofs.parsing.parse_scripts.Given as goal

-- the scripts so far are accepted
abbrev pub invariant-loop-input : goal.invariant-loop-input
invariant-loop-input l = record {
  parsed : meanings as_script (take l.input-index l.inputs) ≡ Ok l.scripts;
  each : length l.scripts ≡ l.input-index;
  fit : All IsScript l.scripts;
}
