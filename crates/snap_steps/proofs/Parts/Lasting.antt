-- Words that change no more, once the table has evolved.
use Rattle.std.proofs.Common.{◌≡◌, ◌≢◌, ◌⊎◌, inl, inr, ℕ, List, [], ◌∷◌, ap, ◌∙◌, sym, subst, refl, arith}
use Rattle.snap_rule.specs.Evolves.{Evolves, SameRow}
use Rattle.snap_rule.specs.State.{State as Table, In, IsShared, Beside}
use Rattle.snap_stamp.specs.declared.layout.Field.{Field}
use Rattle.snap_stamp.specs.declared.layout.Field.TheVariants.{Key, Birth, Stamp, Lock, Height, Left, Right, Value}
use Rattle.snap_steps.specs.Each.{Each}
use Rattle.snap_steps.specs.Facts.{IsKnown, fact}
use Rattle.snap_steps.specs.Memory.{Memory, field, row}
use Rattle.snap_steps.specs.Rule.Lasting.{word_of, IsLasting, AreLasting}
use Rattle.snap_steps.specs.States.{state_of}
use Rattle.snap_steps.specs.declared.view.Fact.{Fact}
use Rattle.snap_steps.specs.declared.view.View.{View}
use Rattle.snap_steps.proofs.Tables.{times_in, in_times}
use Rattle.snap_stamp.specs.declared.side.Side.TheVariants as sides

pub shared_still : (s s' : Table) → Evolves s s' → (r : ℕ) → In r s.linked → IsShared s r → IsShared s' r
shared_still s s' ev r was h = record { is_row = h.is_row; older = omega (arith, h.older, ev.birth r was, ev.epoch) }

same_word : (s s' : Table) (r : ℕ) → SameRow s s' r → (f : Field) → f ≢ Lock → word_of s' r f ≡ word_of s r f
same_word s s' r h Key ne = h.key
same_word s s' r h Birth ne = h.birth
same_word s s' r h Stamp ne = h.stamp
same_word s s' r h Lock ne = absurd (ne refl)
same_word s s' r h Height ne = h.height
same_word s s' r h Left ne = h.link sides.Left
same_word s s' r h Right ne = h.link sides.Right
same_word s s' r h Value ne = h.value

lasting_evolves : (s s' : Table) → Evolves s s' → (x : Fact) → IsLasting s x → IsLasting s' x
lasting_evolves s s' ev x h = let was : In x.row s.linked = times_in x.row s.linked h.linked in go was h.lasts
  where
    go : In x.row s.linked → (x.field ≡ Birth) ⊎ (IsShared s x.row × (x.field ≢ Lock)) → IsLasting s' x
    go was (inl e) = record {
      linked = in_times x.row s'.linked (ev.linked x.row was);
      word = ap (word_of s' x.row) e ∙ ev.birth x.row was ∙ ap (word_of s x.row) (sym e) ∙ h.word;
      lasts = inl e;
    }
    go was (inr q) = record {
      linked = in_times x.row s'.linked (ev.linked x.row was);
      word = same_word s s' x.row (ev.shared x.row was q.0) x.field q.1 ∙ h.word;
      lasts = inr (shared_still s s' ev x.row was q.0, q.1);
    }

all_evolve : (s s' : Table) → Evolves s s' → (l : List Fact) → AreLasting s l → AreLasting s' l
all_evolve s s' ev [] h = tt
all_evolve s s' ev (x ∷ xs) h = (lasting_evolves s s' ev x h.0, all_evolve s s' ev xs h.1)

pub lastings_evolve : (s s' : Table) (views : List View) → Evolves s s' → Each (λ v. AreLasting s v.words.lasting) views → Each (λ v. AreLasting s' v.words.lasting) views
lastings_evolve s s' views ev h j u at = all_evolve s s' ev u.words.lasting (h j u at)

-- a word of the memory
pub word_is : (m : Memory) (g : Beside) (r : ℕ) (f : Field) → word_of (state_of m g) r f ≡ field f (row m.rows r)
word_is m g r Key = refl
word_is m g r Birth = refl
word_is m g r Stamp = refl
word_is m g r Lock = refl
word_is m g r Height = refl
word_is m g r Left = refl
word_is m g r Right = refl
word_is m g r Value = refl

-- what a pass knows for good
pub lasting_is : (s : Table) (l : List Fact) (r : ℕ) (f : Field) (x : ℕ) → AreLasting s l → IsKnown l r f x → IsLasting s (fact r f x)
lasting_is s [] r f x h is = absurd is
lasting_is s (y ∷ ys) r f x h (inl e) = subst (IsLasting s) (λ i. fact (e.0 i) (e.1 i) (e.2 i)) h.0
lasting_is s (y ∷ ys) r f x h (inr is) = lasting_is s ys r f x h.1 is
