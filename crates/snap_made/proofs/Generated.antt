-- Scripts that are made, command by command.
use Rattle.std.proofs.Common.{◌≡◌, ◌≤◌, ◌+◌, ◌*◌, ℕ, zero, suc, length, List, [], ◌∷◌, ◌++◌, Bool, true, false, cond, refl, sym, ◌∙◌, ap, ap₂, append_assoc, append-nil, length-append, add-one, eq-eqb, arith}
use Rattle.std.proofs.Math.Nat.{div-le_self, mul-le-mul_left}
use Rattle.std.proofs.lemmas.Bool.{eqb-true, ltb-true}
use Rattle.std.proofs.lemmas.Nat.{div-add-mod', mod_below}
use Rattle.std.specs.Prelude.{◌/◌, ◌<◌, ◌%◌, ◌^◌, ◌-◌, ◌==◌, ◌↔◌, IsTrue, codes, nat_lt}
use Rattle.snap_model.specs.declared.command.Command.{Command}
use Rattle.snap_model.specs.declared.command.Command.TheVariants as command
use Rattle.snap_text.specs.declared.script.Line.{Line}
use Rattle.snap_made.specs.Generator.{census, census_after, command_of, first_commands, first_number, lines_from, nth_command, nth_number, number_after, share_of}

-- two tests of which each leads to the other
same_test : (a b : Bool) → (a ≡ true → b ≡ true) → (b ≡ true → a ≡ true) → a ≡ b
same_test true true there back = refl
same_test true false there back = sym (there refl)
same_test false true there back = back refl
same_test false false there back = refl

abbrev pub line_at : ℕ → Command → Line
line_at n c = record { line = n; command = c }

pub lines_from-append : (n : ℕ) (cs ds : List Command) → lines_from n (cs ++ ds) ≡ lines_from n cs ++ lines_from (length cs + n) ds
unfolding lines_from
lines_from-append n [] ds = ap (λ m. lines_from m ds) (omega arith)
lines_from-append n (c ∷ cs) ds =
    let next : length cs + (n + 1) ≡ length (c ∷ cs) + n = omega arith in
    ap (λ ls. line_at n c ∷ ls) (lines_from-append (n + 1) cs ds ∙ ap (λ m. lines_from (n + 1) cs ++ lines_from m ds) next)

pub length-lines_from : (n : ℕ) (cs : List Command) → length (lines_from n cs) ≡ length cs
unfolding lines_from
length-lines_from n [] = refl
length-lines_from n (c ∷ cs) = ap suc (length-lines_from (n + 1) cs)

-- one command more behind a script's end
pub lines_add : (first script next : List Line) (cs : List Command) (c : Command) → script ≡ first ++ lines_from (length first + 1) cs → next ≡ script ++ line_at (length script + 1) c ∷ []
    → next ≡ first ++ lines_from (length first + 1) (cs ++ c ∷ [])
unfolding lines_from
lines_add first script next cs c is more =
    let size : length script ≡ length first + length cs = ap length is ∙ length-append first _ ∙ ap (λ n. length first + n) (length-lines_from (length first + 1) cs) in
    let place : length script + 1 ≡ length cs + (length first + 1) = omega arith in
    more ∙ ap₂ (λ (ls : List Line) (n : ℕ). ls ++ line_at n c ∷ []) is place
    ∙ append_assoc first (lines_from (length first + 1) cs) (line_at (length cs + (length first + 1)) c ∷ [])
    ∙ ap (λ (ls : List Line). first ++ ls) (sym (lines_from-append (length first + 1) cs (c ∷ [])))

-- the count of all keys, by three of them
pub census_added : (first one two three : List Line) (name other : List ℕ) → name ≡ codes "g" → other ≡ codes "g"
    → one ≡ first ++ line_at (length first + 1) (command.Snap 0 name) ∷ []
    → two ≡ one ++ line_at (length one + 1) (command.Count 0 0 (2 ^ 64 - 1)) ∷ []
    → three ≡ two ++ line_at (length two + 1) (command.Forget 0 other) ∷ []
    → three ≡ first ++ lines_from (length first + 1) census
unfolding lines_from
census_added first one two three name other is_name is_other is_one is_two is_three =
    let begun = lines_add first first one [] (command.Snap 0 name) (sym (append-nil first)) is_one in
    let counted = lines_add first one two (command.Snap 0 name ∷ []) (command.Count 0 0 (2 ^ 64 - 1)) begun is_two in
    let whole = lines_add first two three (command.Snap 0 name ∷ command.Count 0 0 (2 ^ 64 - 1) ∷ []) (command.Forget 0 other) counted is_three in
    whole ∙ ap₂ (λ (a b : List ℕ). first ++ lines_from (length first + 1) (command.Snap 0 a ∷ command.Count 0 0 (2 ^ 64 - 1) ∷ command.Forget 0 b ∷ [])) is_name is_other

-- whether the count follows, by a test of the number
test_is : (b : Bool) (n : ℕ) → (IsTrue b ↔ (n ≡ 0)) → (n == 0) ≡ b
test_is b n told = same_test (n == 0) b (λ is. told.1 (eqb-true n 0 is)) (λ is. eq-eqb n 0 (told.0 is))

pub census_unless : (script : List Line) (drawn : ℕ) (b : Bool) → (IsTrue b ↔ (drawn % 10_000 ≡ 0)) → b ≡ false → script ≡ script ++ lines_from (length script + 1) (census_after drawn)
unfolding lines_from
census_unless script drawn b told is_not =
    sym (append-nil script) ∙ ap (λ (t : Bool). script ++ lines_from (length script + 1) (cond t census [])) (sym (test_is b (drawn % 10_000) told ∙ is_not))

pub census_when : (script counted : List Line) (drawn : ℕ) (b : Bool) → (IsTrue b ↔ (drawn % 10_000 ≡ 0)) → b ≡ true → counted ≡ script ++ lines_from (length script + 1) census
    → counted ≡ script ++ lines_from (length script + 1) (census_after drawn)
census_when script counted drawn b told so is =
    is ∙ ap (λ (t : Bool). script ++ lines_from (length script + 1) (cond t census [])) (sym (test_is b (drawn % 10_000) told ∙ so))

-- a worker's script after n commands that were drawn, and the number that it drew last
pub record IsMade (seed workers worker n : ℕ) (script : List Line) (number : ℕ) : Type 0 where
  pub lines : script ≡ lines_from 1 (first_commands seed workers worker n)
  pub number_is : number ≡ nth_number (first_number seed worker) (2 * n)

-- three lines more stand behind every 10,000th
length-census_after : (n : ℕ) → length (census_after (n + 1)) + 3 * (n / 10_000) ≤ 3 * ((n + 1) / 10_000)
length-census_after n = of_test ((n + 1) % 10_000 == 0) refl
  where
    of_test : (b : Bool) → ((n + 1) % 10_000 == 0) ≡ b → length (cond b census []) + 3 * (n / 10_000) ≤ 3 * ((n + 1) / 10_000)
    of_test true is =
        let even = eqb-true ((n + 1) % 10_000) 0 is in
        omega (arith, even, div-add-mod' n 10_000, div-add-mod' (n + 1) 10_000)
    of_test false is =
        let below = mod_below (n + 1) 10_000 (omega arith) in
        omega (arith, below, div-add-mod' n 10_000, div-add-mod' (n + 1) 10_000)

pub length-first_commands : (seed workers worker n : ℕ) → length (first_commands seed workers worker n) ≤ n + 3 * (n / 10_000)
unfolding first_commands
length-first_commands seed workers worker zero = omega arith
length-first_commands seed workers worker (suc n) =
    let before = length-first_commands seed workers worker n in
    let more = length-census_after n in
    let whole = length-append (first_commands seed workers worker n) (nth_command seed workers worker n ∷ census_after (n + 1)) in
    omega (arith, before, more, whole, ap (λ m. m / 10_000) (add-one n))

pub made_few : (seed workers worker n : ℕ) (script : List Line) (number : ℕ) → IsMade seed workers worker n script number → length script ≤ n + 3 * (n / 10_000)
made_few seed workers worker n script number made =
    let same = ap length made.lines ∙ length-lines_from 1 (first_commands seed workers worker n) in
    omega (arith, same, length-first_commands seed workers worker n)

-- no worker draws more than all the commands
pub share_few : (commands workers worker : ℕ) → worker < workers → share_of commands workers worker ≤ commands
share_few commands workers worker one = of_test (nat_lt worker (commands % workers)) refl
  where
    some : 1 ≤ workers
    some = omega (arith, one)

    of_test : (b : Bool) → nat_lt worker (commands % workers) ≡ b → commands / workers + cond b 1 0 ≤ commands
    of_test true is =
        let rest = ltb-true worker (commands % workers) is in
        omega (arith, rest, mul-le-mul_left (commands / workers) some, div-add-mod' commands workers)
    of_test false is = let few = div-le_self commands workers in omega (arith, few)

pub drawn_few : (script drawn : List Line) (line : Line) → drawn ≡ script ++ line ∷ [] → length drawn ≡ length script + 1
drawn_few script drawn line is = ap length is ∙ length-append script (line ∷ [])

pub drawn_as : (script drawn : List Line) (c d : Command) → drawn ≡ script ++ line_at (length script + 1) c ∷ [] → c ≡ d → drawn ≡ script ++ line_at (length script + 1) d ∷ []
drawn_as script drawn c d is same = is ∙ ap (λ (e : Command). script ++ line_at (length script + 1) e ∷ []) same

pub made_none : (seed workers worker number : ℕ) (script : List Line) → script ≡ [] → number ≡ first_number seed worker → IsMade seed workers worker 0 script number
unfolding first_commands nth_number lines_from
made_none seed workers worker number script empty is = record { lines = empty; number_is = is }

-- the numbers one after another
nth_number-one : (x n : ℕ) → nth_number x (n + 1) ≡ number_after (nth_number x n)
unfolding nth_number
nth_number-one x n = ap (nth_number x) (add-one n)

nth_number-two : (x n : ℕ) → nth_number x (n + 2) ≡ number_after (nth_number x (n + 1))
nth_number-two x n = let next : n + 2 ≡ (n + 1) + 1 = omega arith in ap (nth_number x) next ∙ nth_number-one x (n + 1)

-- a command in the next line, and those behind it
lines_more : (before : List Command) (script drawn : List Line) (c : Command) (behind : List Command) → script ≡ lines_from 1 before → drawn ≡ script ++ line_at (length script + 1) c ∷ []
    → drawn ++ lines_from (length drawn + 1) behind ≡ lines_from 1 (before ++ c ∷ behind)
unfolding lines_from
lines_more before script drawn c behind is is_drawn =
    let size : length script ≡ length before = ap length is ∙ length-lines_from 1 before in
    let next : length drawn ≡ length script + 1 = ap length is_drawn ∙ length-append script (line_at (length script + 1) c ∷ []) in
    let place : length drawn + 1 ≡ length before + 1 + 1 = omega arith in
    ap₂ (λ (ls : List Line) (m : ℕ). ls ++ lines_from m behind) is_drawn place
    ∙ append_assoc script (line_at (length script + 1) c ∷ []) (lines_from (length before + 1 + 1) behind)
    ∙ ap₂ (λ (ls : List Line) (m : ℕ). ls ++ line_at (m + 1) c ∷ lines_from (length before + 1 + 1) behind) is size
    ∙ sym (lines_from-append 1 before (c ∷ behind))

-- one more, with the count that may follow it
pub made_more : (seed workers worker n : ℕ) (script drawn counted : List Line) (number a b : ℕ) → IsMade seed workers worker n script number
    → a ≡ number_after number → b ≡ number_after a
    → drawn ≡ script ++ line_at (length script + 1) (command_of workers worker a b) ∷ []
    → counted ≡ drawn ++ lines_from (length drawn + 1) (census_after (n + 1))
    → IsMade seed workers worker (n + 1) counted b
unfolding first_commands nth_command
made_more seed workers worker n script drawn counted number a b made is_a is_b is_drawn is_counted =
    let first = first_number seed worker in
    let number_a : a ≡ nth_number first (2 * n + 1) = is_a ∙ ap number_after made.number_is ∙ sym (nth_number-one first (2 * n)) in
    let number_b : b ≡ nth_number first (2 * n + 2) = is_b ∙ ap number_after number_a ∙ sym (nth_number-two first (2 * n)) in
    let same : command_of workers worker a b ≡ nth_command seed workers worker n = ap₂ (command_of workers worker) number_a number_b in
    let place : 2 * n + 2 ≡ 2 * (n + 1) = omega arith in
    record {
      lines = is_counted ∙ lines_more (first_commands seed workers worker n) script drawn _ (census_after (n + 1)) made.lines is_drawn
          ∙ ap (λ (c : Command). lines_from 1 (first_commands seed workers worker n ++ c ∷ census_after (n + 1))) same
          ∙ ap (λ m. lines_from 1 (first_commands seed workers worker m)) (sym (add-one n));
      number_is = number_b ∙ ap (nth_number first) place;
    }
