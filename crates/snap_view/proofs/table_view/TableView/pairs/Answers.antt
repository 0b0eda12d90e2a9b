use Rattle.std.proofs.Common.{◌∙◌, ◌^◌, subst}
use Rattle.snap_prelude.specs.{after, Cloned}
use Rattle.snap_view.proofs.{Neighbours.clone_rises, Neighbours.whole_range, Ranges.Rise}
use Rattle.snap_view.proofs.table_view.TableView.pairs.Goals as goal

pub returns-clause-pairs : goal.returns-clause-pairs
returns-clause-pairs c =
    let rise = subst (λ (k : Cloned). Rise 0 (2 ^ 64) (after k.base)) c.self.view_is (clone_rises c.self.inside.seat c.self.invariant.clone) in
    c.range.ensures.pairs ∙ whole_range (after c.args.self.now.base) rise
