-- How a script is read, line by line.
use Rattle.std.proofs.Common.{◌≡◌, ℕ, ◌+◌, ◌≤◌, List, [], ◌∷◌, ◌++◌, Result, Ok, Err, length, refl, true, false, ◌⊎◌, inl, inr}
use Rattle.std.proofs.lemmas.List.{append-nil}
use Rattle.snap_text.specs.declared.fault.ScriptFault.{ScriptFault}
use Rattle.snap_text.specs.declared.fault.ScriptFault.TheVariants as fault
use Rattle.snap_text.specs.declared.refusal.Refusal.{Refusal}
use Rattle.snap_text.specs.declared.refusal.Refusal.TheVariants as why
use Rattle.snap_text.specs.declared.script.Line.{Line}
use Rattle.snap_text.specs.Clones.{Slots, all_free}
use Rattle.snap_text.specs.Grammar.{line_of}
use Rattle.snap_text.specs.Lines.{lines, words}
use Rattle.snap_text.specs.Refusals.{AnswersLine, fault_of_line}
use Rattle.snap_text.specs.Scripts.{is_too_long, script_from, script_of}

-- a script with lines that stand before it
abbrev pub after_lines : List Line → Result (List Line) ScriptFault → Result (List Line) ScriptFault
after_lines front (Ok below) = Ok (front ++ below)
after_lines front (Err e) = Err e

-- the lines that were read, the number of the last of them, the clones that are live after it, and the lines that are left
pub record IsReadSoFar (bytes : List ℕ) (front : List Line) (number : ℕ) (slots : Slots) (left : List (List ℕ)) : Type 0 where
  pub meaning : script_from 1 all_free (lines bytes) ≡ after_lines front (script_from (number + 1) slots left)
  pub few : number + length left ≤ 100_000

-- a line that is refused, or for which memory was wanting
pub refused : (bytes : List ℕ) (front : List Line) (number : ℕ) (slots later : Slots) (left : List (List ℕ)) (line : List ℕ) (below : List (List ℕ)) (refusal : Refusal)
    → IsReadSoFar bytes front number slots left → left ≡ line ∷ below → AnswersLine (line_of (words line) slots) (Err refusal) later
    → (fault_of_line (number + 1) refusal ≡ fault.Memory) ⊎ (script_from 1 all_free (lines bytes) ≡ Err (fault_of_line (number + 1) refusal))
refused bytes front number slots later left line below (why.Line kind) read is bad = inr (rw (is, bad) at read.meaning)
refused bytes front number slots later left line below why.Memory read is bad = inl refl

-- the last line was read
pub all_read : (bytes : List ℕ) (front : List Line) (number : ℕ) (slots : Slots) (left : List (List ℕ))
    → IsReadSoFar bytes front number slots left → left ≡ [] → script_from 1 all_free (lines bytes) ≡ Ok front
all_read bytes front number slots left read is = rw (is, append-nil front) at read.meaning

pub too_long : (bytes : List ℕ) → is_too_long bytes ≡ true → script_of bytes ≡ Err fault.TooLong
unfolding script_of
too_long bytes long = rw long refl

pub not_too_long : (bytes : List ℕ) → is_too_long bytes ≡ false → script_of bytes ≡ script_from 1 all_free (lines bytes)
unfolding script_of
not_too_long bytes short = rw short refl
