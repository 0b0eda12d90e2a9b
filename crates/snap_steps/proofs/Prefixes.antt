-- Prefixes of lists.
use Rattle.std.proofs.Common.{List, [], append-nil, ◌++◌, sym, ap, ◌∙◌, append_assoc, ◌≤◌, length, arith, length-append, ◌≡◌, ◌∷◌, refl}
use Rattle.snap_model.specs.History.{Begins}

module _ {A : Type 0} where
  pub begins_itself : (xs : List A) → Begins xs xs
  begins_itself xs = record { rest = []; is = append-nil xs }

  pub begins_more : (xs ys zs : List A) → Begins xs ys → Begins xs (ys ++ zs)
  begins_more xs ys zs b = record { rest = b.rest ++ zs; is = sym (append_assoc xs b.rest zs) ∙ ap (λ (l : List A). l ++ zs) b.is }

  pub begins_length : (xs ys : List A) → Begins xs ys → length xs ≤ length ys
  begins_length xs ys b = omega (arith, length-append xs b.rest, ap length b.is)

  pub begins_whole : (xs ys : List A) → Begins xs ys → length ys ≤ length xs → xs ≡ ys
  begins_whole xs ys b h = go b.rest b.is
    where
      go : (zs : List A) → xs ++ zs ≡ ys → xs ≡ ys
      go [] e = sym (append-nil xs) ∙ e
      go (z ∷ zs) e = absurd (omega (arith, length-append xs (z ∷ zs), ap length e))

  -- of two beginnings of one list the shorter begins the longer
  pub begins_both : (xs ys log : List A) → Begins xs log → Begins ys log → length xs ≤ length ys → Begins xs ys
  begins_both [] ys log a b h = record { rest = ys; is = refl }
  begins_both (x ∷ xs) [] log a b h = absurd (omega arith)
  begins_both (x ∷ xs) (y ∷ ys) log a b h =
      let e : x ∷ (xs ++ a.rest) ≡ y ∷ (ys ++ b.rest) = a.is ∙ sym b.is in
      let same : x ≡ y = cc in let tails : xs ++ a.rest ≡ ys ++ b.rest = cc in
      let r = begins_both xs ys (ys ++ b.rest) (record { rest = a.rest; is = tails }) (record { rest = b.rest; is = refl }) (omega arith) in
      record { rest = r.rest; is = λ i. same i ∷ r.is i }
