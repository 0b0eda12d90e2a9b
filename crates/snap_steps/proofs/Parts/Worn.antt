-- Stamps at their greatest count, once the table has evolved.
use Rattle.std.proofs.Common.{◌≡◌, ℕ, List, arith, inr, Bool, ap, false, inl, refl, true, ◌≤◌, ◌⊎◌, ◌||◌}
use Rattle.snap_rule.specs.Evolves.{Evolves}
use Rattle.snap_rule.specs.State.{State as Table, In}
use Rattle.snap_steps.specs.declared.view.View.{View}
use Rattle.snap_steps.specs.Each.{Each}
use Rattle.snap_steps.specs.Rule.Worn.{IsWorn, KnowsWorn}
use Rattle.snap_steps.specs.Steps.Fields.{is_last}
use Rattle.snap_stamp.specs.Stamps.{last_count, count_of}
use Rattle.snap_steps.specs.States.{state_of}
use Rattle.snap_steps.proofs.Tables.{times_in, in_times}
use Rattle.snap_steps.specs.declared.rule.About.{About}
use Rattle.snap_stamp.specs.declared.layout.Field.{Field}
use Rattle.snap_steps.specs.Rule.{Kept}
use mathlib.Core.Logic.{dite}
use Rattle.snap_steps.specs.Memory.{field, row}
use Rattle.std.proofs.lemmas.Bool.Decides.{nat_tests}
use Rattle.snap_steps.specs.Counting.{times}
use native.Mathlib.Decide.{ℕ_discrete}
use Rattle.snap_stamp.specs.declared.layout.Field.TheVariants.{Key, Birth, Stamp, Lock, Height, Left, Right, Value}

pub worn_evolves : (s s' : Table) → Evolves s s' → IsWorn s → IsWorn s'
worn_evolves s s' ev h = let was : In h.row s.linked = times_in h.row s.linked h.linked in record { row = h.row; linked = in_times h.row s'.linked (ev.linked h.row was); last = omega (arith, h.last, ev.stamp h.row (inr was)) }

pub worns_evolve : (s s' : Table) (views : List View) → Evolves s s' → Each (KnowsWorn s) views → Each (KnowsWorn s') views
worns_evolve s s' views ev h j u at seen = worn_evolves s s' ev (h j u at seen)

pub or_cases : (a b : Bool) → a || b ≡ true → (a ≡ true) ⊎ (b ≡ true)
or_cases true b h = inl refl
or_cases false b h = inr h

-- a stamp that was loaded at its greatest count is that of a row that was linked
pub last_found : (about : About) (words : List ℕ) (views : List View) (k : Kept about words views) (r : ℕ) (f : Field) (x : ℕ) → field f (row k.m.rows r) ≡ x → is_last f x ≡ true → IsWorn (state_of k.m k.g)
last_found about words views k r Stamp x is last =
    let top : last_count ≤ count_of x = grind (arith, nat_tests) in
    record {
      row = r;
      linked = dite (ℕ_discrete r 0) (λ z. absurd (omega (arith, top, is, ap (λ (n : ℕ). (row k.m.rows n).stamp) z, k.table.links.zero_stamp)))
          (λ nz. dite (ℕ_discrete (times r k.g.linked) 0) (λ none. absurd (omega (arith, top, is, (k.apart.fresh r (omega arith) none).1))) (λ some. omega arith));
      last = omega (arith, top, is);
    }
last_found about words views k r Key x is last = cc
last_found about words views k r Birth x is last = cc
last_found about words views k r Lock x is last = cc
last_found about words views k r Height x is last = cc
last_found about words views k r Left x is last = cc
last_found about words views k r Right x is last = cc
last_found about words views k r Value x is last = cc
