use Rattle.snap_prelude.proofs.Common.{dite, ℕ_discrete}
use Rattle.std.proofs.Common.{◌≡◌, ℕ, List, length, sym, ap, subst, ◌∙◌, arith, slice_index_or}
use Rattle.snap_prelude.specs.{Known}
use Rattle.snap_service.specs.Prelude.{Admits}
use Rattle.snap_service.proofs.Ending.{fewer_is, last_is, one_less}
use Rattle.snap_crew.proofs.ending.admit_all.Goals as goal

pub loop-receipt-preserved : goal.loop-receipt-preserved
loop-receipt-preserved c =
    let v = c.loop-receipt.invariant in let all = c.args.receipts.items in let left = c.loop-receipt.left.items in let fewer = c.pop.new.self.items in let receipt = c.in-Some.receipt in
    let one = one_less all left fewer receipt v.left c.in-Some.ensures.items in
    record {
      left = fewer_is all left fewer receipt v.left c.in-Some.ensures.items;
      kit = c.admit.ensures.kit;
      uncut = c.admit.ensures.uncut v.uncut;
      uses = λ t l. c.admit.ensures.uses t (omega (arith, l, v.kit.a_pass_each, c.requires.kit.a_pass_each)) ∙ v.uses t l;
      admitted = λ i d l m. dite (ℕ_discrete i (length fewer))
          (λ e. let is : receipt ≡ slice_index_or all i d = last_is all left fewer receipt v.left c.in-Some.ensures.items d ∙ ap (λ (n : ℕ). slice_index_or all n d) (sym e) in
          subst (λ (r : List Known). Admits c.admit.new.kit r) is c.admit.ensures.admits)
          (λ n. c.admit.ensures.keeps (slice_index_or all i d) (c.requires.receipts i d m) (v.admitted i d (omega (arith, l, n, one)) m));
    }
