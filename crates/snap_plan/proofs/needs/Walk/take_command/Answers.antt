use Rattle.std.proofs.Common.{refl}
use Rattle.snap_plan.proofs.Walking.{needs_export, needs_load, needs_other, needs_table}
use Rattle.snap_plan.proofs.needs.Walk.take_command.Goals as goal

pub returns-in_ok-add_new-in-Table-clause-needs : goal.returns-in_ok-add_new-in-Table-clause-needs
returns-in_ok-add_new-in-Table-clause-needs c = λ taken before has. needs_table taken before _ _ _ _ c.in-Table.is c.in_ok-add_new-in-Table.ensures refl refl has

pub returns-in_ok-add_new-in-Load-clause-needs : goal.returns-in_ok-add_new-in-Load-clause-needs
returns-in_ok-add_new-in-Load-clause-needs c = λ taken before has. needs_load taken before _ _ _ _ c.in-Load.is c.in_ok-add_new-in-Load.ensures refl refl has

pub returns-in_ok-is_new-in-Export-clause-needs : goal.returns-in_ok-is_new-in-Export-clause-needs
returns-in_ok-is_new-in-Export-clause-needs c = λ taken before has. needs_export taken before _ _ _ _ _ _ _ c.in-Export.is refl refl c.in_ok-is_new-in-Export.ensures.names has

pub returns-in_default : goal.returns-in_default
returns-in_default c = record {
  limit = λ taken before has. (needs_other taken before _ _ c.in_default.not-Table c.in_default.not-Load c.in_default.not-Export has).0;
  needs = λ taken before has. (needs_other taken before _ _ c.in_default.not-Table c.in_default.not-Load c.in_default.not-Export has).1;
}
