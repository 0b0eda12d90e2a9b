-- A script that is made uses its first slot as it may, and its values fit.
use Rattle.std.proofs.Common.{◌≡◌, ◌<◌, ◌≤◌, ◌+◌, ◌*◌, ℕ, zero, suc, List, [], ◌∷◌, ◌++◌, Bool, true, false, cond, refl, sym, subst, arith}
use Rattle.std.specs.Prelude.{◌%◌, ◌/◌, ◌^◌, ◌==◌, All, codes, nat_lt}
use Rattle.std.specs.List.{AllByRecursion}
use Rattle.std.proofs.lemmas.List.Elements.{All-from_recursion}
use Rattle.snap_model.specs.declared.command.Command.{Command}
use Rattle.snap_model.specs.declared.command.Command.TheVariants as command
use Rattle.snap_text.specs.declared.script.Line.{Line}
use Rattle.snap_text.specs.Clones.{Slots, all_free}
use Rattle.snap_text.specs.Grammar.{HasValueInRange}
use Rattle.snap_text.specs.Numbers.{FitsValue}
use Rattle.snap_text.specs.Uses.{AllUseSlots, UsesSlots, slots_after}
use Rattle.snap_made.specs.Generator.{census, census_after, command_of, command_of_kind, first_commands, first_number, key_of, lines_from, nth_command, nth_number}
use Rattle.snap_made.proofs.Generated.{IsMade}

-- commands as they use the slots, and the slots behind them
abbrev UseAll : Slots → List Command → Type 0
UseAll slots [] = Unit {0}
UseAll slots (c ∷ cs) = UsesSlots slots c × UseAll (slots_after slots c) cs

abbrev behind : Slots → List Command → Slots
behind slots [] = slots
behind slots (c ∷ cs) = behind (slots_after slots c) cs

-- commands that find all slots free, and leave them so
record Goes (slots : Slots) (cs : List Command) : Type 0 where
  uses : UseAll slots cs
  free : behind slots cs ≡ all_free

goes_on : (slots : Slots) (cs ds : List Command) → Goes slots cs → Goes all_free ds → Goes slots (cs ++ ds)
goes_on slots [] ds goes rest = subst (λ (s : Slots). Goes s ds) (sym goes.free) rest
goes_on slots (c ∷ cs) ds goes rest =
    let below = goes_on (slots_after slots c) cs ds (record { uses = goes.uses.1; free = goes.free }) rest in
    record { uses = (goes.uses.0, below.uses); free = below.free }

command_goes : (kind key value : ℕ) → Goes all_free (command_of_kind kind key value ∷ [])
command_goes kind key value = of_tests (nat_lt kind 9) (nat_lt kind 12)
  where
    of_tests : (puts removes : Bool) → Goes all_free (cond puts (command.Put key value) (cond removes (command.Remove key) (command.Get key)) ∷ [])
    of_tests true removes = record { uses = (tt, tt); free = refl }
    of_tests false true = record { uses = (tt, tt); free = refl }
    of_tests false false = record { uses = (tt, tt); free = refl }

census_goes : Goes all_free census
unfolding all_free
census_goes = record { uses = (refl, ((codes "g", refl), ((codes "g", refl), tt))); free = refl }

count_goes : (n : ℕ) → Goes all_free (census_after n)
count_goes n = of_test (n % 10_000 == 0)
  where
    of_test : (b : Bool) → Goes all_free (cond b census [])
    of_test true = census_goes
    of_test false = record { uses = tt; free = refl }

commands_go : (seed workers worker n : ℕ) → Goes all_free (first_commands seed workers worker n)
unfolding first_commands nth_command
commands_go seed workers worker zero = record { uses = tt; free = refl }
commands_go seed workers worker (suc n) =
    let first = first_number seed worker in
    let a = nth_number first (2 * n + 1) in
    let b = nth_number first (2 * n + 2) in
    let drawn = goes_on all_free (command_of workers worker a b ∷ []) (census_after (n + 1)) (command_goes (a / 65_536 % 16) (key_of workers worker b) b) (count_goes (n + 1)) in
    goes_on all_free (first_commands seed workers worker n) (nth_command seed workers worker n ∷ census_after (n + 1)) (commands_go seed workers worker n) drawn

lines_use : (n : ℕ) (slots : Slots) (cs : List Command) → UseAll slots cs → AllUseSlots slots (lines_from n cs)
unfolding lines_from
lines_use n slots [] uses = tt
lines_use n slots (c ∷ cs) uses = (uses.0, lines_use (n + 1) (slots_after slots c) cs uses.1)

pub made_uses : (seed workers worker n : ℕ) (script : List Line) (number : ℕ) → IsMade seed workers worker n script number → AllUseSlots all_free script
made_uses seed workers worker n script number made =
    subst (AllUseSlots all_free) (sym made.lines) (lines_use 1 all_free (first_commands seed workers worker n) (commands_go seed workers worker n).uses)

-- values are drawn below the end of the sequence
joined : (cs ds : List Command) → AllByRecursion HasValueInRange cs → AllByRecursion HasValueInRange ds → AllByRecursion HasValueInRange (cs ++ ds)
joined [] ds first rest = rest
joined (c ∷ cs) ds first rest = (first.0, joined cs ds first.1 rest)

drawn_below : (x n : ℕ) → nth_number x (suc n) < 2 ^ 31
unfolding nth_number
drawn_below x n = omega arith

command_in_range : (kind key value : ℕ) → FitsValue value → HasValueInRange (command_of_kind kind key value)
command_in_range kind key value small = of_tests (nat_lt kind 9) (nat_lt kind 12)
  where
    of_tests : (puts removes : Bool) → HasValueInRange (cond puts (command.Put key value) (cond removes (command.Remove key) (command.Get key)))
    of_tests true removes = small
    of_tests false true = tt
    of_tests false false = tt

count_in_range : (n : ℕ) → AllByRecursion HasValueInRange (census_after n)
count_in_range n = of_test (n % 10_000 == 0)
  where
    of_test : (b : Bool) → AllByRecursion HasValueInRange (cond b census [])
    of_test true = (tt, (tt, (tt, tt)))
    of_test false = tt

commands_in_range : (seed workers worker n : ℕ) → AllByRecursion HasValueInRange (first_commands seed workers worker n)
unfolding first_commands nth_command
commands_in_range seed workers worker zero = tt
commands_in_range seed workers worker (suc n) =
    let first = first_number seed worker in
    let a = nth_number first (2 * n + 1) in
    let b = nth_number first (2 * n + 2) in
    let place : 2 * n + 2 ≡ suc (2 * n + 1) = omega arith in
    let below : b < 2 ^ 31 = subst (λ m. nth_number first m < 2 ^ 31) (sym place) (drawn_below first (2 * n + 1)) in
    let small : FitsValue b = omega (arith, below) in
    joined (first_commands seed workers worker n) (nth_command seed workers worker n ∷ census_after (n + 1)) (commands_in_range seed workers worker n)
    (command_in_range (a / 65_536 % 16) (key_of workers worker b) b small, count_in_range (n + 1))

lines_in_range : (n : ℕ) (cs : List Command) → AllByRecursion HasValueInRange cs → AllByRecursion (λ (line : Line). HasValueInRange line.command) (lines_from n cs)
unfolding lines_from
lines_in_range n [] small = tt
lines_in_range n (c ∷ cs) small = (small.0, lines_in_range (n + 1) cs small.1)

pub made_in_range : (seed workers worker n : ℕ) (script : List Line) (number : ℕ) → IsMade seed workers worker n script number → All (λ (line : Line). HasValueInRange line.command) script
made_in_range seed workers worker n script number made =
    subst (All (λ (line : Line). HasValueInRange line.command)) (sym made.lines)
    (All-from_recursion (λ (line : Line). HasValueInRange line.command) _ (lines_in_range 1 (first_commands seed workers worker n) (commands_in_range seed workers worker n)))
