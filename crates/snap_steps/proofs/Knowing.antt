-- What is known of words, once a word was written or a row let go.
use Rattle.std.proofs.Common.{◌⊎◌, ℕ, List, [], ◌∷◌, arith, ◌≢◌, ◌≡◌, ◌<◌, set, ap, ◌∙◌, ◌≤◌, true, eq-eqb, false, sym, Bool, cond, eqb, ◌&&◌, length, refl, eqb-true, inl, inr}
use Rattle.std.proofs.lemmas.Bool.Decides.{nat_tests}
use Rattle.snap_stamp.specs.Layout.{place_of}
use Rattle.snap_stamp.specs.declared.layout.Field.{Field}
use Rattle.snap_steps.specs.Facts.{AreFacts, same_field, forgotten, forgotten_row, IsKnown, word_in}
use Rattle.snap_steps.specs.declared.view.Fact.{Fact}
use Rattle.snap_steps.specs.Memory.{Row, field, row, with_field}
use Rattle.snap_steps.specs.Counting.{times, removed}
use Rattle.snap_steps.proofs.Cells.{one_place, row_other, row_same, field_other}
use Rattle.snap_steps.proofs.Totals.{removed_other}

-- facts stay where there are more rows that they may speak of
pub facts_more : (rows : List Row) (r : ℕ) (holds : List ℕ) (l : List Fact) → AreFacts rows holds l → AreFacts rows (r ∷ holds) l
facts_more rows r holds [] h = tt
facts_more rows r holds (y ∷ ys) h = (h.0, omega (arith, h.1), facts_more rows r holds ys h.2)

-- facts on rows but r, once the row r has changed
pub facts_but : (rows : List Row) (r : ℕ) (x : Row) (own : List ℕ) (l : List Fact) → times r own ≡ 0 → AreFacts rows own l → AreFacts (set rows r x) own l
facts_but rows r x own [] none h = tt
facts_but rows r x own (y ∷ ys) none h =
    let held : 0 < times y.row own = h.1 in let ne : y.row ≢ r = λ e. omega (arith, ap (λ (s : ℕ). times s own) e) in
    (ap (field y.field) (row_other rows r y.row x ne) ∙ h.0, h.1, facts_but rows r x own ys none h.2)

-- what is known of other rows
pub facts_elsewhere : (rows : List Row) (r : ℕ) (x : Row) (holds holds' : List ℕ) (l : List Fact) → AreFacts rows holds l → times r holds ≡ 0 → ((s : ℕ) → times s holds ≤ times s holds') → AreFacts (set rows r x) holds' l
facts_elsewhere rows r x holds holds' [] h none le = tt
facts_elsewhere rows r x holds holds' (y ∷ ys) h none le =
    let held : 0 < times y.row holds = h.1 in
    let ne : y.row ≢ r = λ e. omega (arith, ap (λ (s : ℕ). times s holds) e) in
    (ap (field y.field) (row_other rows r y.row x ne) ∙ h.0, omega (arith, le y.row), facts_elsewhere rows r x holds holds' ys h.2 none le)

same_field_true : (f g : Field) → f ≡ g → same_field f g ≡ true
same_field_true f g e = eq-eqb (place_of f) (place_of g) (ap place_of e)

same_field_false : (f g : Field) → same_field f g ≡ false → f ≢ g
same_field_false f g e same = let t : true ≡ false = sym (same_field_true f g same) ∙ e in absurd (cc)

-- what is known once one word of a row was written
pub facts_left : (rows : List Row) (r : ℕ) (f : Field) (n : ℕ) (holds : List ℕ) (l : List Fact) → r < length rows → AreFacts rows holds l → AreFacts (set rows r (with_field f n (row rows r))) holds (forgotten l r f)
facts_left rows r f n holds [] near h = tt
facts_left rows r f n holds (y ∷ ys) near h = go (eqb y.row r) refl (same_field y.field f) refl (facts_left rows r f n holds ys near h.2)
  where
    x : Row
    x = with_field f n (row rows r)

    go : (a : Bool) → eqb y.row r ≡ a → (b : Bool) → same_field y.field f ≡ b → AreFacts (set rows r (with_field f n (row rows r))) holds (forgotten ys r f)
        → AreFacts (set rows r (with_field f n (row rows r))) holds (cond (a && b) (forgotten ys r f) (y ∷ forgotten ys r f))
    go true ea true eb t = t
    go true ea false eb t = let same : y.row ≡ r = eqb-true y.row r ea in
        (ap (λ (s : ℕ). field y.field (row (set rows r (with_field f n (row rows r))) s)) same ∙ ap (field y.field) (row_same rows r (with_field f n (row rows r)) near) ∙ field_other y.field f n (row rows r) (same_field_false y.field f eb) ∙ ap (λ (s : ℕ). field y.field (row rows s)) (sym same) ∙ h.0, h.1, t)
    go false ea b eb t = let ne : y.row ≢ r = grind (arith, nat_tests) in (ap (field y.field) (row_other rows r y.row (with_field f n (row rows r)) ne) ∙ h.0, h.1, t)

-- what is known once a row was let go
pub facts_freed : (rows : List Row) (r : ℕ) (x : Row) (holds : List ℕ) (l : List Fact) → AreFacts rows holds l → AreFacts (set rows r x) (removed r holds) (forgotten_row l r)
facts_freed rows r x holds [] h = tt
facts_freed rows r x holds (y ∷ ys) h = go (eqb y.row r) refl (facts_freed rows r x holds ys h.2)
  where
    go : (a : Bool) → eqb y.row r ≡ a → AreFacts (set rows r x) (removed r holds) (forgotten_row ys r) → AreFacts (set rows r x) (removed r holds) (cond a (forgotten_row ys r) (y ∷ forgotten_row ys r))
    go true e t = t
    go false e t = let ne : y.row ≢ r = grind (arith, nat_tests) in (ap (field y.field) (row_other rows r y.row x ne) ∙ h.0, omega (arith, h.1, removed_other r y.row holds ne), t)

-- what is known of the rows that are left, once one was dropped
pub facts_dropped : (rows : List Row) (r : ℕ) (holds : List ℕ) (l : List Fact) → AreFacts rows holds l → AreFacts rows (removed r holds) (forgotten_row l r)
facts_dropped rows r holds [] h = tt
facts_dropped rows r holds (y ∷ ys) h = go (eqb y.row r) refl (facts_dropped rows r holds ys h.2)
  where
    go : (a : Bool) → eqb y.row r ≡ a → AreFacts rows (removed r holds) (forgotten_row ys r) → AreFacts rows (removed r holds) (cond a (forgotten_row ys r) (y ∷ forgotten_row ys r))
    go true e t = t
    go false e t = let ne : y.row ≢ r = grind (arith, nat_tests) in (h.0, omega (arith, h.1, removed_other r y.row holds ne), t)

pub known_is : (rows : List Row) (holds : List ℕ) (l : List Fact) (r : ℕ) (f : Field) (x : ℕ) → AreFacts rows holds l → IsKnown l r f x → field f (row rows r) ≡ x
known_is rows holds [] r f x h is = absurd is
known_is rows holds (y ∷ ys) r f x h (inl e) = sym (λ i. field (e.1 i) (row rows (e.0 i))) ∙ h.0 ∙ e.2
known_is rows holds (y ∷ ys) r f x h (inr is) = known_is rows holds ys r f x h.2 is

-- and it is the word that is known
pub known_word : (rows : List Row) (holds : List ℕ) (l : List Fact) (r : ℕ) (f : Field) (x : ℕ) → AreFacts rows holds l → IsKnown l r f x → field f (row rows r) ≡ word_in l r f
known_word rows holds [] r f x h is = absurd is
known_word rows holds (y ∷ ys) r f x h is = go (eqb y.row r) refl (same_field y.field f) refl is (λ k. known_word rows holds ys r f x h.2 k)
  where
    go : (a : Bool) → eqb y.row r ≡ a → (b : Bool) → same_field y.field f ≡ b → ((y.row ≡ r) × (y.field ≡ f) × (y.word ≡ x)) ⊎ IsKnown ys r f x → (IsKnown ys r f x → field f (row rows r) ≡ word_in ys r f) → field f (row rows r) ≡ cond (a && b) y.word (word_in ys r f)
    go true ea true eb q on = let same : y.row ≡ r = eqb-true y.row r ea in let same_f : y.field ≡ f = one_place y.field f (eqb-true (place_of y.field) (place_of f) eb) in sym (λ i. field (same_f i) (row rows (same i))) ∙ h.0
    go true ea false eb (inl e) on = absurd (same_field_false y.field f eb e.1)
    go true ea false eb (inr k) on = on k
    go false ea b eb (inl e) on = absurd (let t : true ≡ false = sym (eq-eqb y.row r e.0) ∙ ea in cc)
    go false ea b eb (inr k) on = on k
