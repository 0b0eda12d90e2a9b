use Rattle.std.proofs.Common.{◌≡◌, ◌+◌, take}
use Rattle.snap_prelude.specs.{IsOf}
use Rattle.snap_table.specs.Calls.{IsIdle}
use Rattle.snap_service.specs.Prelude.{PutAll}
use Rattle.snap_service.proofs.session.serving.put_all.Given as goal

-- the pairs so far were put
abbrev pub invariant-loop-pair : goal.invariant-loop-pair
invariant-loop-pair g l = record {
  made : l.made ≡ l.pair-index;
  all : PutAll l.initial.pass (take l.pair-index l.pairs) l.pass;
  of : IsOf l.pass l.table;
  idle : IsIdle l.pass.view;
  uses : l.pass.view.uses ≡ l.initial.pass.view.uses + l.pair-index;
}
