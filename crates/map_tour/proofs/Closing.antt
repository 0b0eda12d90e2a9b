-- What a pass that has admitted the one other speaks for.
use Rattle.std.proofs.Common.{◌≡◌, ℕ, ◌<◌, List, [], ◌∷◌, ◌++◌, refl, sym, subst, eq-eqb, arith}
use Rattle.snap_prelude.proofs.Common.{dite, ℕ_discrete}
use Rattle.snap_prelude.specs.{admitted_of, Entry, heard, Known, Laid, numbers_of}
use Rattle.snap_prelude.specs.{own_number, Passing, SpeaksForAll, times, View, with_admitted}
use Rattle.snap_table.specs.Ready.{IsReadyTo}

-- it names 0 and 1
numbers_are : (v w : View) → v.role ≡ Passing → v.who ≡ 0 → v.admitted ≡ [] → w.who ≡ 1 → w.admitted ≡ [] → own_number v.role v.who ++ numbers_of (v.admitted ++ admitted_of w ∷ w.admitted) ≡ 0 ∷ 1 ∷ []
numbers_are v w role who none other none_of = rw role (rw who (rw none (rw other (rw none_of refl))))

two_named : (i : ℕ) → i < 2 → 0 < times i (0 ∷ 1 ∷ [])
two_named i h = dite (ℕ_discrete i 0) (λ e. rw (eq-eqb i 0 e) (omega arith)) (λ n. let e : i ≡ 1 = omega (arith, n, h) in rw (eq-eqb i 1 e) (omega arith))

pub speaks_for_both : (rows : Laid) (first second pass : Known) (x : List Entry) → rows.passes ≡ 2 → IsReadyTo rows 0 6 first → IsReadyTo rows 1 6 second → pass ≡ record { table = first.table; view = with_admitted (heard first.view second.view x) second.view } → SpeaksForAll pass.view
speaks_for_both rows first second pass x two f s is = subst (λ (k : Known). SpeaksForAll k.view) (sym is) (λ i h. subst (λ l. 0 < times i l) (sym (numbers_are first.view second.view f.passing f.who_is f.none_admitted s.who_is s.none_admitted)) (two_named i (omega (arith, h, two, f.of.2))))
