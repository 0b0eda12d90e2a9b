-- A row's words among the words of a table.
use Rattle.std.proofs.Common.{◌≡◌, ℕ, suc, ◌+◌, ◌*◌, arith, List, ◌∷◌, get_or, refl, zero, ◌<◌, [], length, ap, ◌∙◌, set, ◌≤◌, length-set, ◌≢◌, ◌==◌, cond, sym, get_or-set_same, get_or-set_other}
use Rattle.snap_stamp.specs.Layout.{place_of, word_at}
use Rattle.snap_stamp.specs.declared.layout.Field.{Field}
use Rattle.snap_stamp.specs.declared.layout.Field.TheVariants.{Key, Birth, Stamp, Lock, Height, Left, Right, Value}
use Rattle.snap_steps.specs.Memory.{Row, words_of_rows, field, row, with_field, Memory, memory_words, empty_row}
use Rattle.snap_steps.specs.Rule.Words.{IsMemory}
use Rattle.snap_steps.specs.declared.rule.About.{About}

eight : (r p : ℕ) → 8 * suc r + p ≡ suc (suc (suc (suc (suc (suc (suc (suc (8 * r + p))))))))
eight r p = omega arith

first_word : (x : Row) (xs : List Row) (f : Field) → get_or (words_of_rows (x ∷ xs)) (8 * 0 + place_of f) 0 ≡ field f x
first_word x xs Key = refl
first_word x xs Birth = refl
first_word x xs Stamp = refl
first_word x xs Lock = refl
first_word x xs Height = refl
first_word x xs Left = refl
first_word x xs Right = refl
first_word x xs Value = refl

row_word : (rs : List Row) (r : ℕ) (f : Field) → r < length rs → get_or (words_of_rows rs) (8 * r + place_of f) 0 ≡ field f (row rs r)
row_word [] r f l = absurd (omega arith)
row_word (x ∷ xs) zero f l = first_word x xs f
row_word (x ∷ xs) (suc r) f l = ap (λ (i : ℕ). get_or (words_of_rows (x ∷ xs)) i 0) (eight r (place_of f)) ∙ row_word xs r f (omega arith)

first_set : (x : Row) (xs : List Row) (f : Field) (n : ℕ) → set (words_of_rows (x ∷ xs)) (8 * 0 + place_of f) n ≡ words_of_rows (with_field f n x ∷ xs)
first_set x xs Key n = refl
first_set x xs Birth n = refl
first_set x xs Stamp n = refl
first_set x xs Lock n = refl
first_set x xs Height n = refl
first_set x xs Left n = refl
first_set x xs Right n = refl
first_set x xs Value n = refl

row_set : (rs : List Row) (r : ℕ) (f : Field) (n : ℕ) → r < length rs → set (words_of_rows rs) (8 * r + place_of f) n ≡ words_of_rows (set rs r (with_field f n (row rs r)))
row_set [] r f n l = absurd (omega arith)
row_set (x ∷ xs) zero f n l = first_set x xs f n
row_set (x ∷ xs) (suc r) f n l = ap (λ (i : ℕ). set (words_of_rows (x ∷ xs)) i n) (eight r (place_of f))
    ∙ ap (λ (ws : List ℕ). x.key ∷ x.birth ∷ x.stamp ∷ x.lock ∷ x.height ∷ x.left ∷ x.right ∷ x.value ∷ ws) (row_set xs r f n (omega arith))

past_header : (r : ℕ) (f : Field) → word_at r f ≡ suc (suc (suc (suc (suc (suc (suc (suc (8 * r + place_of f))))))))
past_header r f = omega arith

abbrev pub changed : List Row → ℕ → Field → ℕ → List Row
changed rows r f n = set rows r (with_field f n (row rows r))

module _ {about : About} {words : List ℕ} {m : Memory} (k : IsMemory about words m) (r : ℕ) (f : Field) (l : r ≤ about.rows) where
  pub cell_is : get_or words (word_at r f) 0 ≡ field f (row m.rows r)
  cell_is = let wide = k.wide in ap (λ (ws : List ℕ). get_or ws (word_at r f) 0) k.words_are ∙ ap (λ (i : ℕ). get_or (memory_words m) i 0) (past_header r f) ∙ row_word m.rows r f (omega arith)

  pub cell_set : (n : ℕ) → IsMemory about (set words (word_at r f) n) (record m { rows = changed m.rows r f n })
  cell_set n = let wide = k.wide in record {
    words_are = ap (λ (ws : List ℕ). set ws (word_at r f) n) k.words_are ∙ ap (λ (i : ℕ). set (memory_words m) i n) (past_header r f)
        ∙ ap (λ (ws : List ℕ). m.next ∷ m.gate ∷ m.left ∷ m.done ∷ m.epoch ∷ 0 ∷ 0 ∷ 0 ∷ ws) (row_set m.rows r f n (omega arith));
    wide = length-set m.rows r (with_field f n (row m.rows r)) ∙ k.wide;
    few_rows = k.few_rows;
    few_passes = k.few_passes;
    room = k.room;
  }

pub field_same : (f : Field) (n : ℕ) (x : Row) → field f (with_field f n x) ≡ n
field_same Key n x = refl
field_same Birth n x = refl
field_same Stamp n x = refl
field_same Lock n x = refl
field_same Height n x = refl
field_same Left n x = refl
field_same Right n x = refl
field_same Value n x = refl

pub field_other : (f g : Field) (n : ℕ) (x : Row) → f ≢ g → field f (with_field g n x) ≡ field f x
field_other Key Key n x ne = absurd (ne refl)
field_other Birth Birth n x ne = absurd (ne refl)
field_other Stamp Stamp n x ne = absurd (ne refl)
field_other Lock Lock n x ne = absurd (ne refl)
field_other Height Height n x ne = absurd (ne refl)
field_other Left Left n x ne = absurd (ne refl)
field_other Right Right n x ne = absurd (ne refl)
field_other Value Value n x ne = absurd (ne refl)
field_other _ _ n x ne = refl

abbrev field_at : ℕ → Field
field_at n = cond (n == 0) Key (cond (n == 1) Birth (cond (n == 2) Stamp (cond (n == 3) Lock (cond (n == 4) Height (cond (n == 5) Left (cond (n == 6) Right Value))))))

at_place : (f : Field) → field_at (place_of f) ≡ f
at_place Key = refl
at_place Birth = refl
at_place Stamp = refl
at_place Lock = refl
at_place Height = refl
at_place Left = refl
at_place Right = refl
at_place Value = refl

pub place_small : (f : Field) → place_of f < 8
place_small Key = omega arith
place_small Birth = omega arith
place_small Stamp = omega arith
place_small Lock = omega arith
place_small Height = omega arith
place_small Left = omega arith
place_small Right = omega arith
place_small Value = omega arith

pub one_place : (f g : Field) → place_of f ≡ place_of g → f ≡ g
one_place f g e = sym (at_place f) ∙ ap field_at e ∙ at_place g

-- a word is of one row and one field
pub one_word : (r s : ℕ) (f g : Field) → word_at r f ≡ word_at s g → (r ≡ s) × (f ≡ g)
one_word r s f g e = (omega (arith, place_small f, place_small g), one_place f g (omega (arith, place_small f, place_small g)))

pub row_same : (rows : List Row) (r : ℕ) (x : Row) → r < length rows → row (set rows r x) r ≡ x
row_same rows r x l = get_or-set_same rows r x empty_row l

pub row_other : (rows : List Row) (r s : ℕ) (x : Row) → s ≢ r → row (set rows r x) s ≡ row rows s
row_other rows r s x ne = get_or-set_other rows r s x empty_row ne

pub word_within : (words word r n : ℕ) (f : Field) → word ≡ word_at r f → r ≤ n → words ≡ 8 + 8 * (n + 1) → word < words
word_within words word r n f e l w = omega (arith, place_small f)
