-- Rows that aren't linked, once one of them was linked below another.
use Rattle.std.proofs.Common.{◌≡◌, ◌≢◌, ℕ, ◌<◌, List, ◌∷◌, ◌∙◌, set, sym, subst, ap, arith}
use lib.ListN.{get_elem?}
use mathlib.Core.Logic.{dite}
use mathlib.Core.Option.{some}
use native.Mathlib.Decide.{ℕ_discrete, dec_le}
use Rattle.snap_steps.specs.Numbers.{times_drawn}
use Rattle.snap_steps.specs.Counting.{times, removed}
use Rattle.snap_steps.specs.Facts.{AreFacts, forgotten_row}
use Rattle.snap_steps.specs.Memory.{Row}
use Rattle.snap_steps.specs.Rule.{Kept}
use Rattle.snap_steps.specs.Rule.Apart.{AreApart}
use Rattle.snap_steps.specs.declared.rule.About.{About}
use Rattle.snap_steps.specs.declared.view.Fact.{Fact}
use Rattle.snap_steps.specs.declared.view.View.{View}
use Rattle.snap_steps.proofs.Cells.{row_other}
use Rattle.snap_steps.proofs.EachView.{each_others}
use Rattle.snap_steps.proofs.Knowing.{facts_but, facts_dropped}
use Rattle.snap_steps.proofs.Parts.Apart.{none_own}
use Rattle.snap_steps.proofs.Parts.Drawn.{not_theirs}
use Rattle.snap_steps.proofs.Totals.{term_le, one_same, one_other, removed_same, removed_other}

-- an own row r was linked, by another row x at the linked parent
pub apart_linked : {about : About} {words : List ℕ} {views : List View} (k : Kept about words views) (id : ℕ) (v w : View) (at : get_elem? views id ≡ some v) (parent r : ℕ) (x : Row) → (0 < parent → 0 < times parent k.g.linked) → 0 < times r v.fresh.own → w.fresh.own ≡ removed r v.fresh.own → w.drawn ≡ v.drawn → w.fresh.wrote ≡ forgotten_row v.fresh.wrote r
    → AreApart k.m.next (set k.m.rows parent x) (r ∷ k.g.linked) (set views id w)
apart_linked {views = views} k id v w at parent r x is_times mine own_is drawn_is wrote_is =
    let own = k.apart.own id v at r mine in let rows' : List Row = set k.m.rows parent x in
    let drawn_once = term_le (times_drawn r) views id v at in
    let pos : 0 < r = dite (ℕ_discrete r 0) (λ z. absurd (omega (arith, own.1, ap (λ (y : ℕ). times y v.drawn) z, k.drawn.none_zero, term_le (times_drawn 0) views id v at))) (λ nz. omega arith) in
    let zeros : (u : View) (j : ℕ) → get_elem? views j ≡ some u → times 0 u.drawn ≡ 0 = λ u j there. omega (arith, k.drawn.none_zero, term_le (times_drawn 0) views j u there) in
    let not_own : (u : View) (j : ℕ) → get_elem? views j ≡ some u → times parent u.fresh.own ≡ 0 = λ u j there. none_own k.g.linked u.fresh.own u.drawn parent 0 (k.apart.own j u there) is_times (zeros u j there) in record {
      low = λ y l. dite (ℕ_discrete y r)
          (λ q. (omega arith, dite (dec_le y k.m.next) (λ near. near) (λ far. absurd (omega (arith, own.1, drawn_once, q, k.drawn.none_later r (omega arith))))))
          (λ ne. let t = k.apart.low y (omega (arith, l, one_other y r ne)) in (t.0, t.1));
      own = each_others views id v at w
          (λ j u ne there y l. let q = k.apart.own j u there y l in
          let other : y ≢ r = λ same. omega (arith, l, ap (λ (i : ℕ). times i u.fresh.own) same, not_theirs views id v u at j ne there r k.drawn own.1 (k.apart.own j u there r)) in (omega (arith, q.0, one_other y r other), q.1))
          (λ y l. let has : times y w.fresh.own ≡ times y (removed r v.fresh.own) = ap (times y) own_is in
          let other : y ≢ r = λ same. omega (arith, l, has, ap (λ (i : ℕ). times i (removed r v.fresh.own)) same, removed_same r v.fresh.own) in
          let q = k.apart.own id v at y (omega (arith, l, has, removed_other r y v.fresh.own other)) in (omega (arith, q.0, one_other y r other), omega (arith, q.1, ap (times y) drawn_is)));
      fresh = λ y above z. let other : y ≢ r = λ same. omega (arith, z, one_same y r same) in let none_linked : times y k.g.linked ≡ 0 = omega (arith, z, one_other y r other) in
          let away : y ≢ parent = λ same. omega (arith, none_linked, ap (λ (i : ℕ). times i k.g.linked) same, is_times (omega arith)) in
          let q = row_other k.m.rows parent y x away in let h = k.apart.fresh y above none_linked in (ap (λ (o : Row). o.lock) q ∙ h.0, ap (λ (o : Row). o.stamp) q ∙ h.1);
      wrote = each_others views id v at w (λ j u ne there. facts_but k.m.rows parent x u.fresh.own u.fresh.wrote (not_own u j there) (k.apart.wrote j u there))
          (subst (λ (l : List Fact). AreFacts rows' w.fresh.own l) (sym wrote_is) (subst (λ (l : List ℕ). AreFacts rows' l (forgotten_row v.fresh.wrote r)) (sym own_is) (facts_dropped rows' r v.fresh.own v.fresh.wrote (facts_but k.m.rows parent x v.fresh.own v.fresh.wrote (not_own v id at) (k.apart.wrote id v at)))));
    }
