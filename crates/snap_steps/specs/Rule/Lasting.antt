-- The part of the rule on words that change no more: births of rows that were linked, and the words
-- of shared rows.
use Rattle.std.specs.Prelude.{◌≡◌, ◌≢◌, ◌⊎◌, ℕ, List, [], ◌∷◌}
use Rattle.snap_rule.specs.State.{State as Table, IsShared}
use Rattle.snap_stamp.specs.declared.layout.Field.{Field}
use Rattle.snap_stamp.specs.declared.layout.Field.TheVariants.{Key, Birth, Stamp, Lock, Height, Left, Right, Value}
use Rattle.snap_steps.specs.Counting.{Among}
use Rattle.snap_steps.specs.declared.view.Fact.{Fact}
use Rattle.snap_stamp.specs.declared.side.Side.TheVariants as sides

-- the word of a row's field
abbrev pub word_of : Table → ℕ → Field → ℕ
word_of s r Key = s.key r
word_of s r Birth = s.birth r
word_of s r Stamp = s.stamp r
word_of s r Lock = s.lock r
word_of s r Height = s.height r
word_of s r Left = s.link r sides.Left
word_of s r Right = s.link r sides.Right
word_of s r Value = s.value r

-- the word is so, and stays so
pub record IsLasting (s : Table) (x : Fact) : Type 0 where
  pub linked : Among x.row s.linked
  pub word : word_of s x.row x.field ≡ x.word
  pub lasts : (x.field ≡ Birth) ⊎ (IsShared s x.row × (x.field ≢ Lock))

abbrev pub AreLasting : Table → List Fact → Type 0
AreLasting s [] = Unit {0}
AreLasting s (x ∷ xs) = IsLasting s x × AreLasting s xs
