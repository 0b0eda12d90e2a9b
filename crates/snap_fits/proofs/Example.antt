-- The example fits.
use Rattle.std.proofs.Common.{◌≡◌, ℕ, zero, suc, true, false, true≢false, [], ◌∷◌, Some, None, inl, refl, eqb, ne_eqb, arith}
use Rattle.snap_model.specs.declared.call.Call.TheVariants.{Put}
use Rattle.snap_fits.specs.Fits.{IsMatched, start, matching_after, made_by}
use Rattle.snap_fits.specs.Example.{small, fronts, example_told, ExampleFits}

matched_at : (t : ℕ) → IsMatched (fronts t) 0 (let m = matching_after small start example_told in m.places t)
matched_at zero = record { entries = refl; cuts = refl }
matched_at (suc t) = let q : eqb (suc t) 0 ≡ false = ne_eqb (suc t) 0 (omega arith) in record { entries = simp q; cuts = simp q }

pub example_fits : ExampleFits
example_fits = record {
  each = (
    inl (Some 9, refl, record { stands = record { later = omega arith; within = omega arith; entries = refl }; after = omega arith; entry = record { before = made_by 1 (Put 7 9) None ∷ []; is = refl } }),
    (
      (record { later = omega arith; within = omega arith; entries = refl }, refl),
      (
        (refl, record { stands = record { later = omega arith; within = omega arith; entries = refl }; cut = refl }),
        (
          inl (None, refl, record { stands = record { later = omega arith; within = omega arith; entries = refl }; after = omega arith; entry = record { before = made_by 1 (Put 7 9) None ∷ made_by 0 (Put 7 5) (Some 9) ∷ []; is = refl } }),
          ((refl, refl), ((refl, (1, true, refl, record { can = record { many = omega arith; shallow = λ e. omega arith }; low = omega arith; cause = λ e. absurd (true≢false e) })), tt)),
        ),
      ),
    ),
  );
  matched = matched_at;
}
