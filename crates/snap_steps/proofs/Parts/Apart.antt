-- Rows that aren't linked, once a view or a row has changed.
use Rattle.std.proofs.Common.{◌≡◌, ℕ, ◌≤◌, List, set, arith, ◌<◌, ap, ◌≢◌, subst, sym}
use lib.ListN.{get_elem?}
use mathlib.Core.Logic.{dite}
use mathlib.Core.Option.{some}
use native.Mathlib.Decide.{ℕ_discrete}
use Rattle.snap_steps.specs.Rule.Apart.{AreApart, OwnsUnlinked, KnowsOwn}
use Rattle.snap_steps.specs.Memory.{Row, row}
use Rattle.snap_steps.specs.declared.view.View.{View}
use Rattle.snap_steps.proofs.EachView.{each_stays, each_others}
use Rattle.snap_steps.specs.Counting.{times}
use Rattle.snap_steps.specs.Facts.{AreFacts}
use Rattle.snap_steps.proofs.Knowing.{facts_but}

module _ (views : List View) (id : ℕ) (v w : View) (at : get_elem? views id ≡ some v) where
  pub apart_stays : (next next' : ℕ) (rows : List Row) (linked : List ℕ) → AreApart next rows linked views → next ≤ next' → (OwnsUnlinked linked v → OwnsUnlinked linked w) → (KnowsOwn rows v → KnowsOwn rows w) → AreApart next' rows linked (set views id w)
  apart_stays next next' rows linked h le own wrote = record {
    low = λ r l. let t = h.low r l in (t.0, omega (arith, t.1));
    own = each_stays views id v w at (OwnsUnlinked linked) h.own own;
    fresh = h.fresh;
    wrote = each_stays views id v w at (KnowsOwn rows) h.wrote wrote;
  }

pub none_own : (linked own drawn : List ℕ) (r zero_drawn : ℕ) → ((s : ℕ) → 0 < times s own → (times s linked ≡ 0) × (0 < times s drawn)) → (0 < r → 0 < times r linked) → times 0 drawn ≡ 0 → times r own ≡ 0
none_own linked own drawn r zero_drawn p is none = dite (ℕ_discrete (times r own) 0) (λ z. z)
    (λ nz. let q = p r (omega arith) in dite (ℕ_discrete r 0) (λ z. absurd (omega (arith, q.1, none, ap (λ (s : ℕ). times s drawn) z))) (λ pos. absurd (omega (arith, q.0, is (omega arith)))))

-- a linked row or row 0 has another word
pub apart_changed : (views : List View) (id : ℕ) (v w : View) (at : get_elem? views id ≡ some v) (next : ℕ) (rows : List Row) (linked : List ℕ) → AreApart next rows linked views → ((u : View) (j : ℕ) → get_elem? views j ≡ some u → times 0 u.drawn ≡ 0) → (r : ℕ) (x : Row)
    → ((s : ℕ) → 0 < s → times s linked ≡ 0 → s ≢ r → ((row (set rows r x) s).lock ≡ 0) × ((row (set rows r x) s).stamp ≡ 0)) → (0 < r → 0 < times r linked) → w.fresh.own ≡ v.fresh.own → w.drawn ≡ v.drawn → w.fresh.wrote ≡ v.fresh.wrote → AreApart next (set rows r x) linked (set views id w)
apart_changed views id v w at next rows linked h zeros r x fresh is own drawn wrote = record {
  low = h.low;
  own = each_stays views id v w at (OwnsUnlinked linked) h.own (λ p s l. let q = p s (omega (arith, l, ap (times s) own)) in (q.0, omega (arith, q.1, ap (times s) drawn)));
  fresh = λ s pos z. fresh s pos z (λ e. omega (arith, z, ap (λ (y : ℕ). times y linked) e, is (omega arith)));
  wrote = each_others views id v at w (λ j u ne there. facts_but rows r x u.fresh.own u.fresh.wrote (none_own linked u.fresh.own u.drawn r 0 (h.own j u there) is (zeros u j there)) (h.wrote j u there))
      (subst (λ l. AreFacts (set rows r x) w.fresh.own l) (sym wrote) (subst (λ l. AreFacts (set rows r x) l v.fresh.wrote) (sym own) (facts_but rows r x v.fresh.own v.fresh.wrote (none_own linked v.fresh.own v.drawn r 0 (h.own id v at) is (zeros v id at)) (h.wrote id v at))));
}
