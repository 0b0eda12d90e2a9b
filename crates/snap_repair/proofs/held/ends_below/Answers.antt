use Rattle.std.proofs.Common.{inl, inr, refl, rules, subst, sym}
use Rattle.snap_repair.proofs.Mending.{born_looks, looks_on, read_looks}
use Rattle.snap_prelude.specs.{Birth, IsKnown, Known, link_field}
use Rattle.snap_repair.proofs.held.ends_below.Goals as goal

pub returns-clause-looks : goal.returns-clause-looks
returns-clause-looks c =
    let a = c.args.pass.now in let b = c.child_of-child.new.pass in let d = c.load_birth.new.pass in
    looks_on a b d (read_looks a b c.args.row.now.row (link_field c.args.side) c.child_of-child.result c.child_of-child.ensures.pass) (born_looks b d c.child_of-child.result c.load_birth.result c.load_birth.ensures.pass)

pub returns-then-is_none-clause-looks : goal.returns-then-is_none-clause-looks
returns-then-is_none-clause-looks c = read_looks c.args.pass.now c.child_of-child.new.pass c.args.row.now.row (link_field c.args.side) c.child_of-child.result c.child_of-child.ensures.pass

pub returns-clause-ends : goal.returns-clause-ends
returns-clause-ends c = λ older.
    let a = c.args.pass.now in let b = c.child_of-child.new.pass in let d = c.load_birth.new.pass in let child = c.child_of-child.result in let birth = c.load_birth.result in
    let first = read_looks a b c.args.row.now.row (link_field c.args.side) child c.child_of-child.ensures.pass in let second = born_looks b d child birth c.load_birth.ensures.pass in
    inr (
      child,
      second.0.knows c.args.row.now.row (link_field c.args.side) child (λ z. z) c.child_of-child.ensures.leads,
      record {
        birth = birth;
        is_birth = subst (λ (k : Known). IsKnown k.view.words.lasting child Birth birth) (sym c.load_birth.ensures.pass) (inl (refl, refl, refl));
        epoch = c.args.epoch;
        now = (looks_on a b d first second).0.mends.present c.args.epoch c.requires.epoch;
        older = search rules;
      },
    )
