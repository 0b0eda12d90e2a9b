use Rattle.std.proofs.Common.{◌≡◌, ◌∙◌, List, ℕ, ap, inl, inr, map, refl, subst, sym, true}
use Rattle.std.specs.Prelude.{string_bytes}
use Rattle.clap.specs.Words.{IsAmong, fault_of, is_simple, is_simple_and_free, kind_of, matches_of}
use Rattle.snap_words.specs.CommandLine.{arguments_in, arguments_of, command, misuse}
use Rattle.snap_words.proofs.command_line.match_words.Goals as goal

-- of such a command `clap` tells what it takes and gives
simple_and_free : is_simple_and_free command ≡ true
simple_and_free = refl

simple : is_simple command ≡ true
simple = refl

pub returns-in-Ok-clause-taken : goal.returns-in-Ok-clause-taken
unfolding misuse
returns-in-Ok-clause-taken c =
    let made = c.in_ok-command.ensures in
    let words : List (List ℕ) = map string_bytes c.args.words.now in
    ap (λ a. fault_of a words) (sym made) ∙ c.in-Ok.ensures.kinds (ap is_simple_and_free made ∙ simple_and_free)

pub returns-in-Ok-clause-arguments : goal.returns-in-Ok-clause-arguments
unfolding arguments_of
returns-in-Ok-clause-arguments c =
    let made = c.in_ok-command.ensures in
    let words : List (List ℕ) = map string_bytes c.args.words.now in
    ap arguments_in ((c.in-Ok.ensures.matches (ap is_simple made ∙ simple)).0 ∙ ap (λ a. matches_of a words) made)

pub returns-in-Err-clause-refused : goal.returns-in-Err-clause-refused
unfolding misuse
returns-in-Err-clause-refused c = λ other.
    let made = c.in_ok-command.ensures in
    let words : List (List ℕ) = map string_bytes c.args.words.now in
    let fails = c.in-Err.ensures.kinds (ap is_simple_and_free made ∙ simple_and_free) in (
      c.fault_by.ensures.misuse (λ is. other (c.fault_by.ensures.memory is)),
      λ none. elim fails as (λ _. ⊥) [
        | inl is ↦ other (c.fault_by.ensures.memory (c.kind.ensures ∙ is))
        | inr among ↦ subst (IsAmong (kind_of c.in-Err.error)) (ap (λ a. fault_of a words) made ∙ none) among
      ],
    )
