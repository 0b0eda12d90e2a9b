-- How a text is cut into lines, and a line into words.
use Rattle.std.proofs.Common.{◌≡◌, ℕ, zero, suc, ◌<◌, ◌≤◌, Bool, true, false, not, cond, List, [], ◌∷◌, length, get_or, take, drop, sym, refl, ap, ◌∙◌, arith, eqb, drop-cons, length-take, true≢false}
use Rattle.std.specs.Prelude.{filter}
use Rattle.std.specs.List.{slice_split, onto_first}
use Rattle.std.specs.Str.Lines.{lines_of_parts, strip_carriage_return}
use Rattle.std.proofs.lemmas.Bool.{ne_eqb}
use Rattle.std.proofs.lemmas.List.Splits.{slice_split-cons_yes, slice_split-cons_no}
use Rattle.snap_text.specs.Lines.{is_blank, lines, words}

-- the part before the first byte that passes, and the parts after it
parts_at : (p : ℕ → Bool) (xs : List ℕ) (i : ℕ) → i < length xs → p (get_or xs i 0) ≡ true → ((k : ℕ) → k < i → p (get_or xs k 0) ≡ false)
    → slice_split p xs ≡ take i xs ∷ slice_split p (drop (suc i) xs)
parts_at p [] i inside here before = absurd (omega arith)
parts_at p (b ∷ bs) zero inside here before = slice_split-cons_yes p b bs here
parts_at p (b ∷ bs) (suc i) inside here before =
    slice_split-cons_no p b bs (before 0 (omega arith))
    ∙ ap (onto_first b) (parts_at p bs i (omega arith) here (λ k below. before (suc k) (omega arith)))

-- where no byte passes there is one part
one_part : (p : ℕ → Bool) (xs : List ℕ) → ((k : ℕ) → k < length xs → p (get_or xs k 0) ≡ false) → slice_split p xs ≡ xs ∷ []
one_part p [] none = refl
one_part p (b ∷ bs) none =
    slice_split-cons_no p b bs (none 0 (omega arith)) ∙ ap (onto_first b) (one_part p bs (λ k below. none (suc k) (omega arith)))

-- there is at least one part
record IsSome (parts : List (List ℕ)) : Type 0 where
  first : List ℕ
  others : List (List ℕ)
  is : parts ≡ first ∷ others

some_part : (p : ℕ → Bool) (xs : List ℕ) → IsSome (slice_split p xs)
some_part p [] = record { first = []; others = []; is = refl }
some_part p (b ∷ bs) = by_test (p b) (some_part p bs)
  where
    by_test : (t : Bool) → IsSome (slice_split p bs) → IsSome (cond t ([] ∷ slice_split p bs) (onto_first b (slice_split p bs)))
    by_test true some = record { first = []; others = slice_split p bs; is = refl }
    by_test false some = record { first = b ∷ some.first; others = some.others; is = ap (onto_first b) some.is }

-- a part before LF is a line, whatever the parts after it are
before_feed : (part xs : List ℕ) → lines_of_parts (part ∷ slice_split (λ b. eqb b 10) xs) ≡ strip_carriage_return part ∷ lines xs
before_feed part xs = let some = (some_part (λ b. eqb b 10) xs).is in rw some refl

-- a line that ends with LF
pub line_at : (xs : List ℕ) (i : ℕ) → i < length xs → eqb (get_or xs i 0) 10 ≡ true → ((k : ℕ) → k < i → eqb (get_or xs k 0) 10 ≡ false)
    → lines xs ≡ strip_carriage_return (take i xs) ∷ lines (drop (suc i) xs)
line_at xs i inside here before =
    ap lines_of_parts (parts_at (λ b. eqb b 10) xs i inside here before) ∙ before_feed (take i xs) (drop (suc i) xs)

-- a last line without LF
pub last_line : (xs : List ℕ) → 0 < length xs → ((k : ℕ) → k < length xs → eqb (get_or xs k 0) 10 ≡ false) → lines xs ≡ xs ∷ []
last_line xs some none =
    let full = ne_eqb (length xs) 0 (λ e. absurd (omega (arith, e))) in
    ap lines_of_parts (one_part (λ b. eqb b 10) xs none) ∙ rw full refl

-- a blank before the words
after_blank : (b : ℕ) (bs : List ℕ) → is_blank b ≡ true → words (b ∷ bs) ≡ words bs
after_blank b bs blank = ap (filter (λ word. not (eqb (length word) 0))) (slice_split-cons_yes is_blank b bs blank)

pub after_blanks : (xs : List ℕ) (i : ℕ) → i ≤ length xs → ((k : ℕ) → k < i → is_blank (get_or xs k 0) ≡ true) → words xs ≡ words (drop i xs)
after_blanks xs zero inside blank = refl
after_blanks [] (suc i) inside blank = absurd (omega arith)
after_blanks (b ∷ bs) (suc i) inside blank =
    after_blank b bs (blank 0 (omega arith)) ∙ after_blanks bs i (omega arith) (λ k below. blank (suc k) (omega arith))

-- a line of blanks
pub no_word : (xs : List ℕ) → ((k : ℕ) → k < length xs → is_blank (get_or xs k 0) ≡ true) → words xs ≡ []
no_word [] blank = refl
no_word (b ∷ bs) blank = after_blank b bs (blank 0 (omega arith)) ∙ no_word bs (λ k below. blank (suc k) (omega arith))

-- a word before a blank
pub word_at : (xs : List ℕ) (i : ℕ) → is_blank (get_or xs 0 0) ≡ false → i < length xs → is_blank (get_or xs i 0) ≡ true → ((k : ℕ) → k < i → is_blank (get_or xs k 0) ≡ false)
    → words xs ≡ take i xs ∷ words (drop i xs)
word_at xs zero begins inside here before = absurd (true≢false (sym here ∙ begins))
word_at xs (suc i) begins inside here before =
    let full = ne_eqb (length (take (suc i) xs)) 0 (λ e. absurd (omega (arith, length-take (suc i) xs, e))) in
    let below = drop-cons xs (suc i) 0 inside in
    ap (filter (λ word. not (eqb (length word) 0))) (parts_at is_blank xs (suc i) inside here before)
    ∙ rw full (ap (λ (ws : List (List ℕ)). take (suc i) xs ∷ ws) (sym (ap words below ∙ after_blank (get_or xs (suc i) 0) (drop (suc (suc i)) xs) here)))

-- a word at the end of its line
pub last_word : (xs : List ℕ) → 0 < length xs → ((k : ℕ) → k < length xs → is_blank (get_or xs k 0) ≡ false) → words xs ≡ xs ∷ []
last_word xs some none =
    let full = ne_eqb (length xs) 0 (λ e. absurd (omega (arith, e))) in
    ap (filter (λ word. not (eqb (length word) 0))) (one_part is_blank xs none) ∙ rw full refl
