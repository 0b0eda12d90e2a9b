-- Rows handed out, once a view has changed.
use Rattle.std.proofs.Common.{◌≡◌, ℕ, ◌≤◌, List, length, length-append, set, arith, ◌+◌, [], ◌∷◌, ◌++◌, ap, ◌≢◌, ◌<◌}
use lib.ListN.{get_elem?}
use mathlib.Core.Logic.{dite}
use mathlib.Core.Option.{some}
use native.Mathlib.Decide.{ℕ_discrete, dec_le}
use Rattle.snap_steps.specs.Counting.{times, total, one_if}
use Rattle.snap_steps.specs.Numbers.{all_drawn, times_drawn}
use Rattle.snap_steps.specs.Rule.Drawn.{AreDrawn}
use Rattle.snap_steps.specs.declared.view.Admitted.{Admitted}
use Rattle.snap_steps.specs.declared.view.View.{View}
use Rattle.snap_steps.proofs.Totals.{total-set, times-append, one_same, one_other, terms_le}

-- no row was drawn twice
pub drawn_once : (next : ℕ) (views : List View) → AreDrawn next views → (r : ℕ) → total (times_drawn r) views ≤ 1
drawn_once next views h r = dite (ℕ_discrete r 0) (λ z. omega (arith, h.none_zero, ap (λ (x : ℕ). total (times_drawn x) views) z)) (λ nz. dite (dec_le r next) (λ l. omega (arith, h.once r (omega arith) l)) (λ g. omega (arith, h.none_later r (omega arith))))

module _ (views : List View) (id : ℕ) (v w : View) (at : get_elem? views id ≡ some v) where
  pub drawn_stays : (next next' : ℕ) → AreDrawn next views → next' ≡ next → w.drawn ≡ v.drawn → w.admitted ≡ v.admitted → AreDrawn next' (set views id w)
  drawn_stays next next' h is drawn admitted =
      let same : (r : ℕ) → times_drawn r w ≡ times_drawn r v = λ r i. times r (drawn i) + total (λ (a : Admitted). times r a.drawn) (admitted i) in
      let many : all_drawn w ≡ all_drawn v = λ i. length (drawn i) + total (λ (a : Admitted). length a.drawn) (admitted i) in record {
        once = λ r above low. omega (arith, h.once r above (omega arith), same r, total-set (times_drawn r) views id v w at);
        none_later = λ r l. omega (arith, h.none_later r (omega arith), same r, total-set (times_drawn r) views id v w at);
        none_zero = omega (arith, h.none_zero, same 0, total-set (times_drawn 0) views id v w at);
        all = omega (arith, h.all, many, total-set all_drawn views id v w at);
      }

  -- the next row was drawn
  pub drawn_more : (next : ℕ) → AreDrawn next views → w.drawn ≡ v.drawn ++ (next + 1) ∷ [] → w.admitted ≡ v.admitted → AreDrawn (next + 1) (set views id w)
  drawn_more next h is admitted =
      let theirs : (r : ℕ) → total (λ (a : Admitted). times r a.drawn) w.admitted ≡ total (λ (a : Admitted). times r a.drawn) v.admitted = λ r. ap (total (λ (a : Admitted). times r a.drawn)) admitted in
      let here : (r : ℕ) → total (times_drawn r) (set views id w) ≡ total (times_drawn r) views + one_if r (next + 1) =
      λ r. omega (arith, ap (times r) is, theirs r, times-append r v.drawn ((next + 1) ∷ []), total-set (times_drawn r) views id v w at) in
      let lengths : total (λ (a : Admitted). length a.drawn) w.admitted ≡ total (λ (a : Admitted). length a.drawn) v.admitted = ap (total (λ (a : Admitted). length a.drawn)) admitted in
      record {
        once = λ r above low. dite (ℕ_discrete r (next + 1)) (λ e. omega (arith, here r, one_same r (next + 1) e, h.none_later r (omega arith))) (λ n. omega (arith, here r, one_other r (next + 1) n, h.once r above (omega arith)));
        none_later = λ r l. omega (arith, here r, one_other r (next + 1) (λ e. omega arith), h.none_later r (omega arith));
        none_zero = omega (arith, here 0, one_other 0 (next + 1) (λ e. omega arith), h.none_zero);
        all = omega (arith, h.all, ap length is, length-append v.drawn ((next + 1) ∷ []), lengths, total-set all_drawn views id v w at);
      }

-- a row that one pass drew is no own row of another
pub not_theirs : {next : ℕ} {A : Type 0} (views : List View) (id : ℕ) (v u : View) → get_elem? views id ≡ some v → (j : ℕ) → j ≢ id → get_elem? views j ≡ some u → (r : ℕ) → AreDrawn next views → 0 < times r v.drawn → (0 < times r u.fresh.own → A × (0 < times r u.drawn)) → times r u.fresh.own ≡ 0
not_theirs {next} views id v u at j ne there r drawn mine own = dite (ℕ_discrete (times r u.fresh.own) 0) (λ z. z) (λ nz. absurd (omega (arith, (own (omega arith)).1, drawn_once next views drawn r, terms_le (times_drawn r) views id j v u ne at there)))
