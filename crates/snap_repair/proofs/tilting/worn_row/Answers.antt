use Rattle.std.proofs.Common.{inl, inr}
use Rattle.snap_repair.proofs.{Inner.worn_after, Inner.worn_out, Lowering.higher_looks, Lowering.leans_looks}
use Rattle.snap_repair.proofs.{Mending.looks_on}
use Rattle.snap_prelude.specs.{link_field, other}
use Rattle.snap_repair.proofs.tilting.worn_row.Goals as goal

pub returns-then-is_worn_out-clause-worn : goal.returns-then-is_worn_out-clause-worn
returns-then-is_worn_out-clause-worn c =
    let t = c.args.turn.now in let a = c.args.pass.now in let b = c.is_worn_out.new.pass in let s = c.is_worn_out.ensures.looks in
    worn_out a b t.raised.row c.if-is_worn_out.ensures.worn (inr (t.row.row, t.side, leans_looks a b t.row.row t.side s c.requires.leans, s.0.knows t.row.row (link_field t.side) t.raised.row (λ z. z) c.requires.turn.lower.leads, higher_looks a b t.raised.row (other t.side) s c.requires.higher))

pub returns-then-is_worn_out-2-clause-looks : goal.returns-then-is_worn_out-2-clause-looks
returns-then-is_worn_out-2-clause-looks c = looks_on c.args.pass.now c.is_worn_out.new.pass c.is_worn_out-2.new.pass c.is_worn_out.ensures.looks c.is_worn_out-2.ensures.looks

pub returns-then-is_worn_out-2-clause-worn : goal.returns-then-is_worn_out-2-clause-worn
returns-then-is_worn_out-2-clause-worn c =
    let t = c.args.turn.now in let a = c.args.pass.now in let b = c.is_worn_out.new.pass in let d = c.is_worn_out-2.new.pass in
    let w = worn_after a b d t.row.row c.is_worn_out.ensures.looks c.if-is_worn_out-2.ensures.worn in
    worn_out a d t.row.row w (inl (t.side, leans_looks a d t.row.row t.side w.looks c.requires.leans))

pub returns-clause-looks : goal.returns-clause-looks
returns-clause-looks c = looks_on c.args.pass.now c.is_worn_out.new.pass c.is_worn_out-2.new.pass c.is_worn_out.ensures.looks c.is_worn_out-2.ensures.looks
