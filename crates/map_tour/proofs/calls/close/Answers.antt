use Rattle.std.proofs.Common.{◌≡◌, subst}
use Rattle.snap_prelude.specs.{heard, Known, with_admitted}
use Rattle.map_tour.proofs.Closing.{speaks_for_both}
use Rattle.map_tour.proofs.calls.close.Goals as goal

pub close-requires-clause-all : goal.close-requires-clause-all
close-requires-clause-all c =
    let a = c.args.first in let s = c.admit.ensures in
    let is : c.admit.new.pass ≡ record { table = a.table; view = with_admitted (heard a.view c.args.second.view s.0) c.args.second.view } = subst (λ (k : Known). c.admit.new.pass ≡ record { table = a.table; view = with_admitted (heard a.view k.view s.0) k.view }) c.finish-receipt.ensures s.3 in
    speaks_for_both c.args.table a c.args.second c.admit.new.pass s.0 c.requires.two c.requires.first c.requires.second is
