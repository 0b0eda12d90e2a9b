-- Rows that were linked, and where a link leads.
use Rattle.std.proofs.Common.{ℕ, List, [], ◌∷◌, ◌<◌, sym, subst, arith, ◌++◌, ◌≡◌, ◌⊎◌, true, cond, nat_lt, ◌==◌, inl, inr, eqb-true}
use Rattle.std.proofs.lemmas.Bool.{cond_both}
use Rattle.std.proofs.lemmas.Bool.Decides.{nat_tests}
use mathlib.Core.Logic.{dite}
use native.Mathlib.Decide.{ℕ_discrete}
use Rattle.snap_rule.specs.Rule.{TableOk}
use Rattle.snap_rule.specs.State.{In, Beside}
use Rattle.snap_stamp.specs.declared.layout.Field.{Field}
use Rattle.snap_stamp.specs.declared.layout.Field.TheVariants.{Key, Birth, Stamp, Lock, Height, Left, Right, Value}
use Rattle.snap_stamp.specs.declared.side.Side.{Side}
use Rattle.snap_steps.specs.Rule.Ways.{AllLinked}
use Rattle.snap_steps.specs.Counting.{times, Among}
use Rattle.snap_steps.proofs.Totals.{one_other}
use Rattle.snap_steps.specs.Memory.{Memory, field, row}
use Rattle.snap_steps.specs.States.{link_field, state_of}
use Rattle.snap_steps.specs.Facts.{same_field}
use Rattle.snap_steps.specs.Steps.Fields.{is_link, led_to}
use Rattle.snap_steps.specs.declared.view.View.{View}
use Rattle.snap_stamp.specs.declared.side.Side.TheVariants as sides
use Rattle.snap_steps.proofs.Tables.{in_times, times_in}

pub all_linked_grows : (linked linked' : List ℕ) → ((r : ℕ) → In r linked → In r linked') → (l : List ℕ) → AllLinked linked l → AllLinked linked' l
all_linked_grows linked linked' g [] h = tt
all_linked_grows linked linked' g (x ∷ xs) h = (in_times x linked' (g x (times_in x linked h.0)), all_linked_grows linked linked' g xs h.1)

pub in_of : (linked : List ℕ) (l : List ℕ) (r : ℕ) → AllLinked linked l → 0 < times r l → In r linked
in_of linked [] r h l = absurd (omega arith)
in_of linked (x ∷ xs) r h l = dite (ℕ_discrete r x) (λ e. times_in r linked (subst (λ y. Among y linked) (sym e) h.0)) (λ ne. in_of linked xs r h.1 (omega (arith, one_other r x ne)))

pub in_append : (linked : List ℕ) (l m : List ℕ) → AllLinked linked l → AllLinked linked m → AllLinked linked (l ++ m)
in_append linked [] m h k = k
in_append linked (x ∷ xs) m h k = (h.0, in_append linked xs m h.1 k)

-- a load of a link of a row that was linked leads to another
pub led_in : (m : Memory) (g : Beside) (v : View) (r : ℕ) (f : Field) (n : ℕ) → TableOk (state_of m g) → AllLinked g.linked v.trail.reached → field f (row m.rows r) ≡ n → AllLinked g.linked (led_to v r f n)
led_in m g v r f n ok reached is =
    let P : List ℕ → Type 0 = AllLinked g.linked in
    cond_both (is_link f) (cond (nat_lt 0 n) (cond (nat_lt 0 (times r v.trail.reached)) (n ∷ []) (cond (r == 0) (cond (same_field f Right) (n ∷ []) []) [])) []) [] P
    (λ link. cond_both (nat_lt 0 n) (cond (nat_lt 0 (times r v.trail.reached)) (n ∷ []) (cond (r == 0) (cond (same_field f Right) (n ∷ []) []) [])) [] P
    (λ some_row. let pos : 0 < n = grind (arith, nat_tests) in cond_both (nat_lt 0 (times r v.trail.reached)) (n ∷ []) (cond (r == 0) (cond (same_field f Right) (n ∷ []) []) []) P
    (λ was. let held : 0 < times r v.trail.reached = grind (arith, nat_tests) in (in_times n g.linked (by_link f link is pos (inr (in_of g.linked v.trail.reached r reached held))), tt))
    (λ not. cond_both (r == 0) (cond (same_field f Right) (n ∷ []) []) [] P
    (λ zero_row. cond_both (same_field f Right) (n ∷ []) [] P
    (λ right. (in_times n g.linked (by_link f link is pos (inl (eqb-true r 0 zero_row))), tt))
    (λ other. tt))
    (λ other. tt)))
    (λ none_row. tt))
    (λ no_link. tt)
  where
    leads : (d : Side) → field (link_field d) (row m.rows r) ≡ n → 0 < n → (field (link_field d) (row m.rows r) ≡ 0) ⊎ In (field (link_field d) (row m.rows r)) g.linked → In n g.linked
    leads d e pos (inl z) = absurd (omega (arith, e, z))
    leads d e pos (inr h) = subst (λ (y : ℕ). In y g.linked) e h

    by_link : (f : Field) → is_link f ≡ true → field f (row m.rows r) ≡ n → 0 < n → (r ≡ 0) ⊎ In r g.linked → In n g.linked
    by_link Left e is' pos was = leads sides.Left is' pos (ok.links.links r sides.Left was)
    by_link Right e is' pos was = leads sides.Right is' pos (ok.links.links r sides.Right was)
    by_link Key e is' pos was = cc
    by_link Birth e is' pos was = cc
    by_link Stamp e is' pos was = cc
    by_link Lock e is' pos was = cc
    by_link Height e is' pos was = cc
    by_link Value e is' pos was = cc
