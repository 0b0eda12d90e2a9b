use Rattle.std.proofs.Common.{Some, refl, sym, subst}
use Rattle.snap_prelude.specs.{after, at, Cloned, image, IsCloneOf}
use Rattle.snap_view.specs.Nearest.{IsNearest}
use Rattle.snap_view.proofs.Looking.{are_passed, empty_of, behind_last, has_beyond, last_nearest, none_left}
use Rattle.snap_view.proofs.table_view.TableView.next_row.Goals as goal

pub returns-in_err-row-clause-nearest : goal.returns-in_err-row-clause-nearest
returns-in_err-row-clause-nearest g c =
    subst (IsNearest (at (after c.args.self.now.base)) c.args.side c.args.from) (sym c.from_residual.ensures)
    (none_left c.args.self.now (subst (λ (k : Cloned). IsCloneOf k.base (image k)) c.self.view_is c.self.invariant.clone) c.args.side c.args.from c.args.ahead.now c.requires c.if-ahead.false (empty_of c.args.ahead.now.rows.items (λ h. c.in_err-row.ensures.variant.1 h)))

pub look_down-requires : goal.look_down-requires
look_down-requires g c =
    has_beyond c.args.self.now (subst (λ (k : Cloned). IsCloneOf k.base (image k)) c.self.view_is c.self.invariant.clone) c.args.side c.args.from c.args.ahead.now c.requires c.if-ahead.false c.pop.new.self.items c.in_ok-row.row c.in_ok-row.ensures.items

pub returns-in-Some-clause-nearest : goal.returns-in-Some-clause-nearest
returns-in-Some-clause-nearest g c =
    last_nearest c.args.self.now (subst (λ (k : Cloned). IsCloneOf k.base (image k)) c.self.view_is c.self.invariant.clone) c.args.side c.args.from c.args.ahead.now c.requires c.if-ahead.false c.pop.new.self.items c.in_ok-row.row c.in_ok-row.ensures.items

pub returns-in-Some-clause-ahead : goal.returns-in-Some-clause-ahead
returns-in-Some-clause-ahead g c =
    let next = behind_last c.args.self.now (subst (λ (k : Cloned). IsCloneOf k.base (image k)) c.self.view_is c.self.invariant.clone) c.args.side c.args.from c.args.ahead.now c.requires c.if-ahead.false c.pop.new.self.items c.in_ok-row.row c.in_ok-row.ensures.items
    c.in-Some.next (record { rows = c.pop.new.self; lost = c.args.ahead.now.lost }) c.look_down.new.ahead c.if-ahead.false refl c.in-Some.ensures c.look_down.ensures.ahead in
    are_passed c.args.side (image c.args.self.now) c.in_ok-row.row.key (Some c.in-Some.next) c.look_down.new.ahead c.in-Some.ensures next

pub returns-in_default-clause-nearest : goal.returns-in_default-clause-nearest
returns-in_default-clause-nearest g c =
    last_nearest c.args.self.now (subst (λ (k : Cloned). IsCloneOf k.base (image k)) c.self.view_is c.self.invariant.clone) c.args.side c.args.from c.args.ahead.now c.requires c.if-ahead.false c.pop.new.self.items c.in_ok-row.row c.in_ok-row.ensures.items
