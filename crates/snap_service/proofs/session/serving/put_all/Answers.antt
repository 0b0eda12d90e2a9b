use Rattle.std.proofs.Common.{inr, ap, sym, ◌∙◌, subst, refl, get_or, take, arith, slice_get}
use Rattle.snap_prelude.proofs.Common.{take_more}
use Rattle.snap_prelude.specs.{Known, Pairs}
use Rattle.snap_service.specs.Prelude.{PutAll}
use Rattle.snap_service.proofs.Using.{err_of, get_some, ok_of, put_more}
use Rattle.snap_service.proofs.session.serving.put_all.Goals as goal

pub returns-then-is_err : goal.returns-then-is_err
returns-then-is_err g c =
    let x = err_of c.put.result _ _ c.put.ensures (sym c.is_err.ensures.value ∙ c.if-is_err.true) in
    let xs = c.args.pairs.now in let i = c.loop-pair.pair-index in
    record {
      loaded = inr (
        c.loop-pair.made,
        get_or xs i (0, 0),
        refl,
        ap (slice_get xs) c.loop-pair.invariant.made ∙ get_some xs i c.loop-pair-test.true,
        c.loop-pair.pass,
        subst (λ n. PutAll c.args.pass.now (take n xs) c.loop-pair.pass) (sym c.loop-pair.invariant.made) c.loop-pair.invariant.all,
        x.1.1,
      );
    }

pub loop-pair-preserved : goal.loop-pair-preserved
loop-pair-preserved g c =
    let x = ok_of c.put.result _ _ c.put.ensures (sym c.is_err.ensures.value ∙ c.if-is_err.false) in
    let xs = c.args.pairs.now in let i = c.loop-pair.pair-index in let h = x.1 in let v = c.loop-pair.invariant in
    record {
      made = omega (arith, v.made);
      all = subst (λ (l : Pairs). PutAll c.args.pass.now l c.put.new.pass) (sym (take_more xs i (0, 0) c.loop-pair-test.true)) (put_more c.args.pass.now (take i xs) c.loop-pair.pass c.put.new.pass (get_or xs i (0, 0)) x.0 v.all h);
      of = (ap (λ (k : Known). k.table) h.is ∙ v.of.0, ap (λ (k : Known). k.view.rows) h.is ∙ v.of.1, ap (λ (k : Known). k.view.passes) h.is ∙ v.of.2);
      idle = h.idle;
      uses = omega (arith, ap (λ (k : Known). k.view.uses) h.is, v.uses);
    }
