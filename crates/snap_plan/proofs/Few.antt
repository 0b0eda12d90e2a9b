-- The lines of a script make no more commands than there are.
use Rattle.std.proofs.Common.{◌≡◌, ◌≤◌, ◌+◌, arith, inl, refl, suc, ℕ, Bool, true, false, cond, List, [], ◌∷◌, length, Option, Some, None, Result, Ok, Err, subst}
use Rattle.std.specs.Prelude.{◌||◌, All, nat_lt}
use Rattle.std.proofs.lemmas.Bool.{ltb-false}
use Rattle.snap_model.specs.declared.command.Command.{Command}
use Rattle.snap_text.specs.declared.fault.LineKind.{LineKind}
use Rattle.snap_text.specs.declared.fault.ScriptFault.{ScriptFault}
use Rattle.snap_text.specs.declared.fault.ScriptFault.TheVariants as fault
use Rattle.snap_text.specs.declared.script.Line.{Line}
use Rattle.snap_text.specs.Clones.{Slots, all_free}
use Rattle.snap_text.specs.Grammar.{HasValueInRange, line_of}
use Rattle.snap_text.specs.Lines.{lines, words}
use Rattle.snap_text.specs.Scripts.{is_too_long, most_bytes, most_lines, with_command, with_line, script_from, script_of}
use Rattle.snap_text.specs.Uses.{AllUseSlots}
use Rattle.snap_plan.specs.Runnable.{IsScript}

-- no more commands than lines
abbrev AtMost : ℕ → Result (List Line) ScriptFault → Type 0
AtMost k (Ok ls) = length ls ≤ k
AtMost k (Err fault) = Unit {0}

with_line_few : (n k : ℕ) (r : Result (Option Command × Slots) LineKind) (below : Slots → Result (List Line) ScriptFault) → ((later : Slots) → AtMost k (below later)) → AtMost (k + 1) (with_line n r below)
with_line_few n k (Err kind) below few = tt
with_line_few n k (Ok does) below few = of_command does.0 (below does.1) (few does.1)
  where
    of_command : (o : Option Command) (r : Result (List Line) ScriptFault) → AtMost k r → AtMost (k + 1) (with_command n o r)
    of_command None (Ok ls) few = omega (arith, few)
    of_command None (Err fault) few = tt
    of_command (Some c) (Ok ls) few = omega (arith, few)
    of_command (Some c) (Err fault) few = tt

lines_few : (n : ℕ) (ls : List (List ℕ)) (slots : Slots) → AtMost (length ls) (script_from n slots ls)
lines_few n [] slots = omega arith
lines_few n (line ∷ ls) slots =
    subst (λ k. AtMost k (script_from n slots (line ∷ ls))) (add_one (length ls)) (with_line_few n (length ls) (line_of (words line) slots) (λ later. script_from (n + 1) later ls) (λ later. lines_few (n + 1) ls later))
  where
    add_one : (k : ℕ) → k + 1 ≡ suc k
    add_one k = omega arith

neither : (a b : Bool) → (a || b) ≡ false → b ≡ false
neither true b is = absurd cc
neither false b is = is

pub few_of : (bytes : List ℕ) (ls : List Line) → script_of bytes ≡ Ok ls → length ls ≤ most_lines
unfolding script_of
few_of bytes ls is = either (is_too_long bytes) refl is
  where
    either : (b : Bool) → is_too_long bytes ≡ b → cond b (Err fault.TooLong) (script_from 1 all_free (lines bytes)) ≡ Ok ls → length ls ≤ most_lines
    either true long is = absurd cc
    either false short is =
        let few : length ls ≤ length (lines bytes) = subst (AtMost (length (lines bytes))) is (lines_few 1 (lines bytes) all_free) in
        let all = ltb-false most_lines (length (lines bytes)) (neither (nat_lt most_bytes (length bytes)) (nat_lt most_lines (length (lines bytes))) short) in
        omega (arith, few, all)

pub text_fits : (bytes : List ℕ) (ls : List Line) → script_of bytes ≡ Ok ls → AllUseSlots all_free ls → All (λ (line : Line). HasValueInRange line.command) ls → IsScript ls
text_fits bytes ls is uses in_range = record {
  from = inl (record { bytes = bytes; is = is });
  uses = uses;
  in_range = in_range;
  few = let few = few_of bytes ls is in omega (arith, few);
}
