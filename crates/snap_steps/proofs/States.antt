-- What a table's state becomes where one word changes.
use Rattle.std.proofs.Common.{ℕ, ◌≡◌, ◌≢◌, refl, sym, Bool, true, false, eqb, cond, eqb-true, ap, ◌<◌, length, ◌∙◌}
use mathlib.Core.Logic.{dite}
use native.Mathlib.Decide.{ℕ_discrete}
use Rattle.snap_rule.proofs.Updates.{changed_same, changed_other}
use Rattle.snap_rule.specs.State.{Beside}
use Rattle.snap_stamp.specs.declared.layout.Field.{Field}
use Rattle.snap_stamp.specs.declared.layout.Field.TheVariants.{Key, Birth, Stamp, Lock, Height, Left, Right, Value}
use Rattle.snap_stamp.specs.declared.side.Side.{Side}
use Rattle.snap_steps.specs.Memory.{Row, field, with_field, Memory, row}
use Rattle.snap_steps.specs.States.{link_field, state_with, with_word, state_of}
use Rattle.snap_steps.proofs.Cells.{changed, row_same, row_other}
use Rattle.snap_stamp.specs.declared.side.Side.TheVariants as sides
use Rattle.snap_rule.specs.Updates as updates

-- the words of one field, where the words of a field become others
abbrev chosen : Field → Field → (ℕ → ℕ) → (ℕ → ℕ) → ℕ → ℕ
chosen Key Key old new = new
chosen Birth Birth old new = new
chosen Stamp Stamp old new = new
chosen Lock Lock old new = new
chosen Height Height old new = new
chosen Left Left old new = new
chosen Right Right old new = new
chosen Value Value old new = new
chosen _ _ old new = old

chosen_other : (f h : Field) (old new : ℕ → ℕ) → f ≢ h → chosen f h old new ≡ old
chosen_other Key Key old new ne = absurd (ne refl)
chosen_other Birth Birth old new ne = absurd (ne refl)
chosen_other Stamp Stamp old new ne = absurd (ne refl)
chosen_other Lock Lock old new ne = absurd (ne refl)
chosen_other Height Height old new ne = absurd (ne refl)
chosen_other Left Left old new ne = absurd (ne refl)
chosen_other Right Right old new ne = absurd (ne refl)
chosen_other Value Value old new ne = absurd (ne refl)
chosen_other _ _ old new ne = refl

here : (f h : Field) (old new : ℕ → ℕ) (o : Row) (x n : ℕ) → field h o ≡ old n → new n ≡ x → field h (with_field f x o) ≡ chosen f h old new n
here Key Key old new o x n a b = sym b
here Birth Birth old new o x n a b = sym b
here Stamp Stamp old new o x n a b = sym b
here Lock Lock old new o x n a b = sym b
here Height Height old new o x n a b = sym b
here Left Left old new o x n a b = sym b
here Right Right old new o x n a b = sym b
here Value Value old new o x n a b = sym b
here _ _ old new o x n a b = a

away : (f h : Field) (old new : ℕ → ℕ) (n : ℕ) → (f ≡ h → old n ≡ new n) → old n ≡ chosen f h old new n
away Key Key old new n e = e refl
away Birth Birth old new n e = e refl
away Stamp Stamp old new n e = e refl
away Lock Lock old new n e = e refl
away Height Height old new n e = e refl
away Left Left old new n e = e refl
away Right Right old new n e = e refl
away Value Value old new n e = e refl
away _ _ old new n e = refl

no_link : (f : Field) → f ≢ Left → f ≢ Right → (d : Side) → f ≢ link_field d
no_link f a b sides.Left = a
no_link f a b sides.Right = b

module _ (F : Field → ℕ → ℕ) (r x : ℕ) where
  left_link : (d : Side) (y : ℕ) → chosen Left (link_field d) (F (link_field d)) (updates.changed (F Left) r x) y ≡ updates.relink (λ n (e : Side). F (link_field e) n) r sides.Left x y d
  left_link sides.Left y = go (eqb y r)
    where
      go : (b : Bool) → cond b x (F Left y) ≡ (cond b (updates.on_side (λ (e : Side). F (link_field e) r) sides.Left x) (λ (e : Side). F (link_field e) y)) sides.Left
      go true = refl
      go false = refl
  left_link sides.Right y = go (eqb y r) refl
    where
      go : (b : Bool) → eqb y r ≡ b → F Right y ≡ (cond b (updates.on_side (λ (e : Side). F (link_field e) r) sides.Left x) (λ (e : Side). F (link_field e) y)) sides.Right
      go true e = ap (F Right) (eqb-true y r e)
      go false e = refl

  right_link : (d : Side) (y : ℕ) → chosen Right (link_field d) (F (link_field d)) (updates.changed (F Right) r x) y ≡ updates.relink (λ n (e : Side). F (link_field e) n) r sides.Right x y d
  right_link sides.Right y = go (eqb y r)
    where
      go : (b : Bool) → cond b x (F Right y) ≡ (cond b (updates.on_side (λ (e : Side). F (link_field e) r) sides.Right x) (λ (e : Side). F (link_field e) y)) sides.Right
      go true = refl
      go false = refl
  right_link sides.Left y = go (eqb y r) refl
    where
      go : (b : Bool) → eqb y r ≡ b → F Left y ≡ (cond b (updates.on_side (λ (e : Side). F (link_field e) r) sides.Right x) (λ (e : Side). F (link_field e) y)) sides.Left
      go true e = ap (F Left) (eqb-true y r e)
      go false e = refl

  with_words : (m : Memory) (g : Beside) (f : Field) → state_with (λ h. chosen f h (F h) (updates.changed (F f) r x)) m g ≡ with_word (state_with F m g) r f x
  with_words m g Key = λ i. record (state_with F m g) { key = updates.changed (F Key) r x; link = λ n d. chosen_other Key (link_field d) (F (link_field d)) (updates.changed (F Key) r x) (no_link Key (λ e. cc) (λ e. cc) d) i n }
  with_words m g Birth = λ i. record (state_with F m g) { birth = updates.changed (F Birth) r x; link = λ n d. chosen_other Birth (link_field d) (F (link_field d)) (updates.changed (F Birth) r x) (no_link Birth (λ e. cc) (λ e. cc) d) i n }
  with_words m g Stamp = λ i. record (state_with F m g) { stamp = updates.changed (F Stamp) r x; link = λ n d. chosen_other Stamp (link_field d) (F (link_field d)) (updates.changed (F Stamp) r x) (no_link Stamp (λ e. cc) (λ e. cc) d) i n }
  with_words m g Lock = λ i. record (state_with F m g) { lock = updates.changed (F Lock) r x; link = λ n d. chosen_other Lock (link_field d) (F (link_field d)) (updates.changed (F Lock) r x) (no_link Lock (λ e. cc) (λ e. cc) d) i n }
  with_words m g Height = λ i. record (state_with F m g) { height = updates.changed (F Height) r x; link = λ n d. chosen_other Height (link_field d) (F (link_field d)) (updates.changed (F Height) r x) (no_link Height (λ e. cc) (λ e. cc) d) i n }
  with_words m g Left = λ i. record (state_with F m g) { link = λ n d. left_link d n i }
  with_words m g Right = λ i. record (state_with F m g) { link = λ n d. right_link d n i }
  with_words m g Value = λ i. record (state_with F m g) { value = updates.changed (F Value) r x; link = λ n d. chosen_other Value (link_field d) (F (link_field d)) (updates.changed (F Value) r x) (no_link Value (λ e. cc) (λ e. cc) d) i n }

-- the bridge: one word of one row of the memory is set
pub sets : (m : Memory) (g : Beside) (r : ℕ) (f : Field) (x : ℕ) → r < length m.rows → state_of (record m { rows = changed m.rows r f x }) g ≡ with_word (state_of m g) r f x
sets m g r f x near = (λ i. state_with (λ h n. words h n i) m g) ∙ with_words F r x m g f
  where
    F : Field → ℕ → ℕ
    F h n = field h (row m.rows n)

    words : (h : Field) (n : ℕ) → field h (row (changed m.rows r f x) n) ≡ chosen f h (λ y. field h (row m.rows y)) (updates.changed (λ y. field f (row m.rows y)) r x) n
    words h n = dite (ℕ_discrete n r)
        (λ e. ap (λ (y : ℕ). field h (row (changed m.rows r f x) y)) e ∙ ap (field h) (row_same m.rows r (with_field f x (row m.rows r)) near)
        ∙ here f h (λ y. field h (row m.rows y)) (updates.changed (λ y. field f (row m.rows y)) r x) (row m.rows r) x r refl (changed_same (λ y. field f (row m.rows y)) r x)
        ∙ ap (λ (y : ℕ). chosen f h (λ z. field h (row m.rows z)) (updates.changed (λ z. field f (row m.rows z)) r x) y) (sym e))
        (λ ne. ap (field h) (row_other m.rows r n (with_field f x (row m.rows r)) ne)
        ∙ away f h (λ y. field h (row m.rows y)) (updates.changed (λ y. field f (row m.rows y)) r x) n
        (λ e. ap (λ (k : Field). field k (row m.rows n)) (sym e) ∙ sym (changed_other (λ y. field f (row m.rows y)) r x n ne)))
