use Rattle.std.proofs.Common.{◌≡◌, Ok, map, take}
use Rattle.snap_plan.specs.Inputs.{as_load, meanings}
use Rattle.snap_plan.specs.Runnable.{AllInRange}
use Rattle.snap_plan.proofs.parsing.parse_loads.Given as goal

-- the load files so far are accepted
abbrev pub invariant-loop-input : goal.invariant-loop-input
invariant-loop-input l = record {
  parsed : meanings as_load (take l.input-index l.inputs) ≡ Ok l.loads;
  named : map (λ file. file.0) l.loads ≡ take l.input-index (map (λ input. input.0) l.inputs);
  in_range : AllInRange l.loads;
}
