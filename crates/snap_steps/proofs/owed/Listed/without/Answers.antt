-- The last of three rows that are looked at. For fewer rows the goals close by themselves.
use Rattle.std.proofs.Common.{◌≡◌, ◌≢◌, ◌⊎◌, ◌↔◌, ◌≤◌, ◌<◌, ◌+◌, ⊎_elim, inl, inr, ℕ, ap, sym, ◌∙◌, subst, arith}
use native.Mathlib.Decide.{ℕ_discrete}
use mathlib.Core.Logic.{dite}
use Rattle.snap_steps.specs.Owed.{IsMore, IsWithout, Names, places}
use Rattle.snap_steps.specs.declared.owed.Listed.{Listed}
use Rattle.snap_steps.specs.declared.owed.Listed.TheVariants.{Empty, Three, Many}
use Rattle.snap_steps.proofs.owed.Listed.without.Goals as goal

-- the row comes to the others, unless it is the one that goes
record IsNext (old : Listed) (a r : ℕ) (new : Listed) : Type 0 where
  pub same : a ≡ r → new ≡ old
  pub more : a ≢ r → IsMore old a new

-- just these rows are named, in so many places at most
record IsJust (o : Listed) (k : ℕ) (P : ℕ → Type 0) : Type 0 where
  pub names : (n : ℕ) → Names o n ↔ P n
  pub few : places o ≤ k

none_named : IsJust Empty 0 (λ n. ⊥)
none_named = record { names = λ n. ((λ h. h), (λ h. h)); few = omega arith }

-- no place more where it is the one that goes
no_place : (o o' : Listed) (a r : ℕ) → IsNext o a r o' → r ≡ a → places o' ≡ places o
no_place o o' a r is e = ap places (is.same (sym e))

one_place : (o o' : Listed) (a r : ℕ) → IsNext o a r o' → places o' ≤ places o + 1
one_place o o' a r is = dite (ℕ_discrete a r) (λ e. omega (arith, ap places (is.same e))) (λ ne. (is.more ne).few)

and_next : (o o' : Listed) (a r k : ℕ) (P : ℕ → Type 0) → k < 3 → IsJust o k P → IsNext o a r o' → IsJust o' (k + 1) (λ n. P n ⊎ ((n ≡ a) × (n ≢ r)))
and_next o o' a r k P low j is = dite (ℕ_discrete a r)
    (λ e. let q : o' ≡ o = is.same e in record {
      names = λ n. (
        (λ h. inl ((j.names n).0 (subst (λ w. Names w n) q h))),
        (λ h. ⊎_elim (λ p. subst (λ w. Names w n) (sym q) ((j.names n).1 p)) (λ b. absurd (b.1 (b.0 ∙ e))) h),
      );
      few = omega (arith, ap places q, j.few);
    })
    (λ ne. let m : IsMore o a o' = is.more ne in
    let told : o' ≡ Many → ⊥ = λ e. omega (arith, ap places e, m.few, j.few) in record {
      names = λ n. (
        (λ h. ⊎_elim (λ b. inl ((j.names n).0 b)) (λ b. ⊎_elim (λ e. inr (e, (λ z. ne (sym e ∙ z)))) (λ e. absurd (told e)) b) ((m.names n).0 h)),
        (λ h. ⊎_elim (λ p. (m.names n).1 (inl ((j.names n).1 p))) (λ b. (m.names n).1 (inr (inl b.0))) h),
      );
      few = omega (arith, m.few, j.few);
    })

without_three : (a b c r : ℕ) (x y z : Listed) → IsNext Empty a r x → IsNext x b r y → IsNext y c r z → IsWithout (Three a b c) r z
without_three a b c r x y z first second third =
    let i = and_next Empty x a r 0 (λ n. ⊥) (omega arith) none_named first in
    let j = and_next x y b r 1 (λ n. ⊥ ⊎ ((n ≡ a) × (n ≢ r))) (omega arith) i second in
    let k = and_next y z c r 2 (λ n. (⊥ ⊎ ((n ≡ a) × (n ≢ r))) ⊎ ((n ≡ b) × (n ≢ r))) (omega arith) j third in
    let one = one_place Empty x a r first in let two = one_place x y b r second in let three = one_place y z c r third in record {
      names = λ n. (
        (λ h. ⊎_elim (λ p. ⊎_elim (λ s. ⊎_elim (λ w. absurd w) (λ q. inl (inl q.0, q.1)) s) (λ q. inl (inr (inl q.0), q.1)) p) (λ q. inl (inr (inr q.0), q.1)) ((k.names n).0 h)),
        (λ h. ⊎_elim (λ q. (k.names n).1 (⊎_elim (λ e. inl (inl (inr (e, q.1)))) (λ s. ⊎_elim (λ e. inl (inr (e, q.1))) (λ e. inr (e, q.1)) s) q.0)) (λ e. cc) h),
      );
      few = omega (arith, k.few);
      free = λ h. inl (⊎_elim
          (λ e. omega (arith, no_place Empty x a r first e, two, three))
          (λ q. ⊎_elim
          (λ e. omega (arith, no_place x y b r second e, one, three))
          (λ e. omega (arith, no_place y z c r third e, one, two)) q) h);
    }

pub returns-in-Three : goal.returns-in-Three
returns-in-Three c =
    let r = c.args.row in let a = c.in-Three.a in let b = c.in-Three.b in let d = c.in-Three.c in
    let x = c.more_but-first-in-Three.result in let y = c.more_but-second.result in let z = c.more_but-in-Three.result in
    let first = c.more_but-first-in-Three.ensures in let second = c.more_but-second.ensures in let third = c.more_but-in-Three.ensures in
    subst (λ (s : Listed). IsWithout s r z) (sym c.in-Three.is) (without_three a b d r x y z
    (record { same = first.gone; more = first.other })
    (record { same = second.gone; more = second.other })
    (record { same = third.gone; more = third.other }))
