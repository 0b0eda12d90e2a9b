-- Numbers, once a view has changed.
use Rattle.std.proofs.Common.{◌≡◌, ℕ, ◌+◌, ◌≤◌, List, ◌++◌, set, ap, ◌∙◌, subst, sym, arith, [], ◌∷◌}
use lib.ListN.{get_elem?}
use mathlib.Core.Option.{some}
use Rattle.snap_steps.specs.Counting.{total, times}
use Rattle.snap_steps.specs.Rule.Names.{AreNamed, names}
use Rattle.snap_steps.specs.declared.view.Role.TheVariants.{Opening}
use Rattle.snap_steps.specs.Roles.{is_opening, own_number}
use Rattle.snap_steps.specs.Numbers.{numbers_of, numbers}
use Rattle.snap_steps.specs.declared.view.View.{View}
use Rattle.snap_steps.proofs.Totals.{total-set}
use Rattle.snap_steps.proofs.EachView.{each_set}
use Rattle.snap_steps.specs.declared.view.Admitted.{Admitted}

module _ (views : List View) (id : ℕ) (v w : View) (at : get_elem? views id ≡ some v) where
  pub named_stays : (passes : ℕ) → AreNamed passes views → w.who ≡ v.who → w.role ≡ v.role → w.admitted ≡ v.admitted → AreNamed passes (set views id w)
  named_stays passes h who role admitted =
      let same : numbers w ≡ numbers v = λ k. own_number (role k) (who k) ++ numbers_of (admitted k) in
      let all : (i : ℕ) → total (names i) (set views id w) ≡ total (names i) views = λ i. omega (arith, ap (times i) same, total-set (names i) views id v w at) in
      record {
        once = λ i. omega (arith, h.once i, all i);
        below = λ i l. all i ∙ h.below i l;
        one_opener = omega (arith, h.one_opener, ap is_opening role, total-set (λ u. is_opening u.role) views id v w at);
        unissued = each_set {P = λ u. u.role ≡ Opening → (i : ℕ) → u.who ≤ i → total (names i) views ≡ 0} {Q = λ u. u.role ≡ Opening → (i : ℕ) → u.who ≤ i → total (names i) (set views id w) ≡ 0} views id w h.unissued
            (λ u p hands i l. all i ∙ p hands i l) (λ hands i l. all i ∙ h.unissued id v at (sym role ∙ hands) i (subst (λ n. n ≤ i) who l));
      }

pub numbers_more : (i : ℕ) (l m : List Admitted) → times i (numbers_of (l ++ m)) ≡ times i (numbers_of l) + times i (numbers_of m)
numbers_more i [] m = omega arith
numbers_more i (x ∷ xs) m = omega (arith, numbers_more i xs m)
