-- Uses, once a view has changed, and why no header word comes near its end.
use Rattle.std.proofs.Common.{length, subst, sym, ◌≡◌, ℕ, ◌+◌, List, ◌++◌, set, ap, arith, ◌≤◌, ◌*◌, ◌^◌, ◌/◌, zero, suc, refl, ◌<◌, [], ◌∷◌, length-append}
use lib.ListN.{get_elem?}
use mathlib.Core.Logic.{dite}
use mathlib.Core.Option.{some}
use native.Mathlib.Decide.{ℕ_discrete, dec_le}
use Rattle.snap_steps.specs.Counting.{total, times, one_if}
use Rattle.snap_steps.specs.Rule.Uses.{AreFew, AreUsed, HasFewUses}
use Rattle.snap_steps.specs.declared.view.Admitted.{Admitted}
use Rattle.snap_steps.specs.Stages.{may_cut}
use Rattle.snap_steps.specs.Roles.{own_number}
use Rattle.snap_steps.specs.Numbers.{numbers_of, numbers, all_uses, all_cuts}
use Rattle.snap_steps.specs.declared.view.View.{View}
use Rattle.snap_steps.proofs.Totals.{total-set, one_same}
use Rattle.snap_steps.proofs.EachView.{each_stays}
use Rattle.snap_steps.specs.Rule.Names.{names, AreNamed}
use Rattle.snap_steps.specs.Each.{Each}

module _ (views : List View) (id : ℕ) (v w : View) (at : get_elem? views id ≡ some v) where
  pub used_stays : (gate epoch : ℕ) → AreUsed gate epoch views → w.stage ≡ v.stage → w.uses ≡ v.uses → w.who ≡ v.who → w.role ≡ v.role → w.admitted ≡ v.admitted → AreUsed gate epoch (set views id w)
  used_stays gate epoch h stage uses who role admitted =
      let same : numbers w ≡ numbers v = λ k. own_number (role k) (who k) ++ numbers_of (admitted k) in
      let sum : all_uses w ≡ all_uses v = λ k. uses k + total (λ (a : Admitted). a.uses) (admitted k) in
      record {
        enough = omega (arith, h.enough, ap may_cut stage, sum, total-set (λ u. may_cut u.stage) views id v w at, total-set all_uses views id v w at);
        few = each_stays views id v w at HasFewUses h.few (λ p. let own : length (own_number w.role w.who) ≡ length (own_number v.role v.who) = λ k. length (own_number (role k) (who k)) in (omega (arith, p.0), subst AreFew (sym admitted) p.1));
      }

  -- a step on the stage and the uses of a pass
  pub used_moves : (gate epoch gate' epoch' : ℕ) → AreUsed gate epoch views → w.who ≡ v.who → w.role ≡ v.role → w.admitted ≡ v.admitted
      → gate' / 2 + epoch' + may_cut w.stage + v.uses ≤ gate / 2 + epoch + may_cut v.stage + w.uses → w.uses ≤ length (own_number w.role w.who) * 2 ^ 48 → AreUsed gate' epoch' (set views id w)
  used_moves gate epoch gate' epoch' h who role admitted sums few =
      let same : numbers w ≡ numbers v = λ k. own_number (role k) (who k) ++ numbers_of (admitted k) in
      let more : total (λ (a : Admitted). a.uses) w.admitted ≡ total (λ (a : Admitted). a.uses) v.admitted = ap (total (λ (a : Admitted). a.uses)) admitted in
      record {
        enough = omega (arith, h.enough, total-set (λ u. may_cut u.stage) views id v w at, total-set all_uses views id v w at);
        few = each_stays views id v w at HasFewUses h.few (λ p. (few, subst AreFew (sym admitted) p.1));
      }

  pub cut_stays : (epoch : ℕ) → epoch ≡ total all_cuts views → w.cuts ≡ v.cuts → w.admitted ≡ v.admitted → epoch ≡ total all_cuts (set views id w)
  cut_stays epoch h cuts admitted =
      let same : all_cuts w ≡ all_cuts v = λ i. length (cuts i) + total (λ (a : Admitted). length a.cuts) (admitted i) in
      omega (arith, h, same, total-set all_cuts views id v w at)

pub below : (ℕ → ℕ) → ℕ → ℕ
below f zero = 0
below f (suc n) = below f n + f n

below-add : (f g : ℕ → ℕ) (n : ℕ) → below (λ i. f i + g i) n ≡ below f n + below g n
unfolding below
below-add f g zero = refl
below-add f g (suc n) = omega (arith, below-add f g n)

below_term : (f : ℕ → ℕ) (n i : ℕ) → i < n → f i ≤ below f n
unfolding below
below_term f zero i l = absurd (omega arith)
below_term f (suc n) i l = dite (ℕ_discrete i n) (λ e. omega (arith, ap f e)) (λ ne. omega (arith, below_term f n i (omega arith)))

below_ones : (f : ℕ → ℕ) (n : ℕ) → ((i : ℕ) → f i ≤ 1) → below f n ≤ n
unfolding below
below_ones f zero h = omega arith
below_ones f (suc n) h = omega (arith, h n, below_ones f n h)

numbered_below : (passes : ℕ) (ns : List ℕ) → ((i : ℕ) → passes ≤ i → times i ns ≡ 0) → length ns ≤ below (λ i. times i ns) passes
numbered_below passes [] h = omega arith
numbered_below passes (n ∷ ns) h =
    let own = one_same n n refl in
    let here : n < passes = dite (dec_le passes n) (λ l. absurd (omega (arith, h n l))) (λ l. omega arith) in
    omega (arith, numbered_below passes ns (λ i l. omega (arith, h i l)), below-add (λ i. one_if i n) (λ i. times i ns) passes, below_term (λ i. one_if i n) passes n here)

all_below : (passes : ℕ) (views : List View) → ((i : ℕ) → passes ≤ i → total (names i) views ≡ 0) → total (λ u. length (numbers u)) views ≤ below (λ i. total (names i) views) passes
all_below passes [] h = omega arith
all_below passes (x ∷ xs) h =
    omega (arith, all_below passes xs (λ i l. omega (arith, h i l)), below-add (λ i. names i x) (λ i. total (names i) xs) passes, numbered_below passes (numbers x) (λ i l. omega (arith, h i l)))

theirs_le : (l : List Admitted) → AreFew l → total (λ (a : Admitted). a.uses) l ≤ length (numbers_of l) * 2 ^ 48
theirs_le [] h = omega arith
theirs_le (a ∷ more) h = omega (arith, h.0, theirs_le more h.1)

pub few_more : (l m : List Admitted) → AreFew l → AreFew m → AreFew (l ++ m)
few_more [] m h k = k
few_more (a ∷ more) m h k = (h.0, few_more more m h.1 k)

uses_le : (views : List View) → Each HasFewUses views → total all_uses views ≤ total (λ u. length (numbers u)) views * 2 ^ 48
uses_le [] h = omega arith
uses_le (x ∷ xs) h = omega (arith, (h 0 x refl).0, theirs_le x.admitted (h 0 x refl).1, uses_le xs (λ j. h (suc j)), length-append (own_number x.role x.who) (numbers_of x.admitted))

-- the gate never comes near the end of a word
pub gate_small : (passes gate epoch : ℕ) (views : List View) → passes ≤ 64 → AreNamed passes views → AreUsed gate epoch views → gate < 2 ^ 60
gate_small passes gate epoch views few h u = omega (arith, u.enough, uses_le views u.few, all_below passes views h.below, below_ones (λ i. total (names i) views) passes h.once)

pub epoch_small : (passes gate epoch : ℕ) (views : List View) → passes ≤ 64 → AreNamed passes views → AreUsed gate epoch views → epoch < 2 ^ 60
epoch_small passes gate epoch views few h u = omega (arith, u.enough, uses_le views u.few, all_below passes views h.below, below_ones (λ i. total (names i) views) passes h.once)
