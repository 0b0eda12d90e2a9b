-- From what the words give to the job that they ask for.
use Rattle.std.proofs.Common.{◌≡◌, ◌≤◌, ◌⊎◌, ℕ, List, [], ◌∷◌, ◌++◌, Option, None, Some, Result, Ok, Err, Bool, true, false, refl, sym, ◌∙◌, ap, subst, inl, inr, length, arith}
use Rattle.std.specs.Prelude.{◌≢◌, ◌&&◌, ◌||◌, ◌==◌, IfErr, IsErrAnd, is_some, not, nat_le, nat_lt, if◌then◌else◌}
use Rattle.std.specs.Str.Parse.{digits_value}
use Rattle.std.specs.Str.{all_ascii_digits}
use Rattle.std.proofs.lemmas.Bool.{eqb-true, leb-true}
use Rattle.clap.specs.Words.{Kinds}
use Rattle.snap_text.specs.Numbers.{is_number}
use Rattle.snap_words.specs.Checks.{checked, checked_by, numbers_in}
use Rattle.snap_words.specs.CommandLine.{Arguments, Text, arguments_of, misuse}
use Rattle.snap_words.specs.Outputs.{has_twice, outputs}
use Rattle.snap_words.specs.Words.{IsRefusedAs, IsWithinLimits, IsWorkWithin, answer_by, fault_in, has_choice, has_names, has_numbers, is_number_from, job_in, job_of, job_unless, most_commands, most_rows, most_scripts, most_seed, most_workers, number_or, passes, scripts_named, usual_rows, work_in}
use Rattle.snap_words.specs.declared.checking.Numbers.{Numbers}
use Rattle.snap_words.specs.declared.words.Job.{Job}
use Rattle.snap_words.specs.declared.words.WordsFault.{WordsFault}
use Rattle.snap_words.specs.declared.words.WordsFault.TheVariants as fault
use Rattle.snap_words.specs.declared.words.WordsRefusal.{WordsRefusal}
use Rattle.snap_words.specs.declared.words.WordsRefusal.TheVariants as refusal

-- both parts of a test
both : (a b : Bool) → (a && b) ≡ true → (a ≡ true) × (b ≡ true)
both true b is = (refl, is)
both false b is = absurd cc

-- what holds where there is no fault
record HasNone (a : Arguments) : Type 0 where
  numbers_hold : has_numbers a ≡ true
  choice_holds : has_choice a ≡ true
  no_twice : has_twice (outputs a.scripts a.last) ≡ false

no_fault : (numbers names choice twice : Bool)
    → (if not numbers then Some refusal.Number else if not names then Some refusal.Name else if not choice then Some refusal.Choice else if twice then Some refusal.Output else None) ≡ None
    → (numbers ≡ true) × (choice ≡ true) × (twice ≡ false)
no_fault false names choice twice is = absurd cc
no_fault true false choice twice is = absurd cc
no_fault true true false twice is = absurd cc
no_fault true true true true is = absurd cc
no_fault true true true false is = (refl, refl, refl)

no_fault_in : (a : Arguments) → fault_in a ≡ None → HasNone a
no_fault_in a is =
    let held = no_fault (has_numbers a) (has_names a) (has_choice a) (has_twice (outputs a.scripts a.last)) is in
    record { numbers_hold = held.0; choice_holds = held.1; no_twice = held.2 }

-- the text of a number has its range
in_range : (least most : ℕ) (text : Text) → is_number_from least most text ≡ true → (least ≤ digits_value 10 text) × (digits_value 10 text ≤ most)
in_range least most text is =
    let parts = both (is_number most text) (nat_le least (digits_value 10 text)) is in
    let digits = both (nat_lt 0 (length text)) (all_ascii_digits text && nat_le (digits_value 10 text) most) parts.0 in
    (leb-true least (digits_value 10 text) parts.1, leb-true (digits_value 10 text) most (both (all_ascii_digits text) (nat_le (digits_value 10 text) most) digits.1).1)

number_in_range : (least most usual : ℕ) (text : Option Text) → least ≤ usual → usual ≤ most → passes (is_number_from least most) text ≡ true → (least ≤ number_or usual text) × (number_or usual text ≤ most)
number_in_range least most usual None low high is = (low, high)
number_in_range least most usual (Some text) low high is = in_range least most text is

-- the numbers one by one
record AreInRange (a : Arguments) : Type 0 where
  rows : passes (is_number_from 1 most_rows) a.rows ≡ true
  generate : passes (is_number_from 1 most_commands) a.generate ≡ true
  workers : passes (is_number_from 1 most_workers) a.workers ≡ true

are_in_range : (a : Arguments) → has_numbers a ≡ true → AreInRange a
are_in_range a is =
    let seed_holds = passes (is_number_from 0 most_seed) a.seed in
    let workers_hold = passes (is_number_from 1 most_workers) a.workers in
    let made_holds = passes (is_number_from 1 most_commands) a.generate in
    let first = both (passes (is_number_from 1 most_rows) a.rows) (made_holds && (seed_holds && workers_hold)) is in
    let second = both made_holds (seed_holds && workers_hold) first.1 in
    record { rows = first.0; generate = second.0; workers = (both seed_holds workers_hold second.1).1 }

-- an empty list has no length
none_named : (scripts : List Text) → length scripts ≡ 0 → scripts ≡ []
none_named [] is = refl
none_named (script ∷ scripts) is = absurd cc

-- a job without a fault keeps to the limits
choice_held : (a : Arguments) (generate : Option Text) → a.generate ≡ generate → has_choice a ≡ true
    → (if is_some generate then length a.scripts == 0 else (nat_le 1 (length a.scripts) && nat_le (length a.scripts) most_scripts && not (is_some a.seed || is_some a.workers))) ≡ true
choice_held a generate is held = subst (λ (g : Option Text). (if is_some g then length a.scripts == 0 else (nat_le 1 (length a.scripts) && nat_le (length a.scripts) most_scripts && not (is_some a.seed || is_some a.workers))) ≡ true) is held

work_within : (a : Arguments) (generate : Option Text) → HasNone a → AreInRange a → a.generate ≡ generate → IsWorkWithin (work_in generate a) × (scripts_named (work_in generate a) ≡ a.scripts)
work_within a None none ranges is =
    let held = choice_held a None is none.choice_holds in
    let named = both (nat_le 1 (length a.scripts) && nat_le (length a.scripts) most_scripts) (not (is_some a.seed || is_some a.workers)) held in
    let few = both (nat_le 1 (length a.scripts)) (nat_le (length a.scripts) most_scripts) named.0 in
    ((leb-true 1 (length a.scripts) few.0, leb-true (length a.scripts) most_scripts few.1), refl)
work_within a (Some text) none ranges is =
    let held = choice_held a (Some text) is none.choice_holds in
    let commands = subst (λ (g : Option Text). passes (is_number_from 1 most_commands) g ≡ true) is ranges.generate in
    let workers = number_in_range 1 most_workers 1 a.workers (omega arith) (omega arith) ranges.workers in
    (((in_range 1 most_commands text commands).1, workers.0, workers.1), sym (none_named a.scripts (eqb-true (length a.scripts) 0 held)))

within_of : (a : Arguments) → fault_in a ≡ None → IsWithinLimits (job_in a)
within_of a is =
    let none = no_fault_in a is in
    let ranges = are_in_range a none.numbers_hold in
    let rows = number_in_range 1 most_rows usual_rows a.rows (omega arith) (omega arith) ranges.rows in
    let work = work_within a a.generate none ranges refl in
    record {
      some_rows = rows.0;
      few_rows = rows.1;
      work = work.0;
      outputs = ap (λ (names : List Text). has_twice (outputs names a.last)) work.1 ∙ none.no_twice;
    }

no_fault_where : (a : Arguments) (numbers : Numbers) (f : Option WordsRefusal) → checked_by f a ≡ Ok numbers → (f ≡ None) × (numbers ≡ numbers_in a)
no_fault_where a numbers None is = (refl, cc)
no_fault_where a numbers (Some f) is = absurd cc

pub numbers_found : (a : Arguments) (numbers : Numbers) → checked a ≡ Ok numbers → numbers ≡ numbers_in a
numbers_found a numbers is = (no_fault_where a numbers (fault_in a) is).1

pub job_found : (ws : List Text) (a : Arguments) (numbers : Numbers) (job : Job) → misuse ws ≡ [] → a ≡ arguments_of ws → checked a ≡ Ok numbers → job ≡ job_in a → job_of ws ≡ Ok job
unfolding job_of
job_found ws a numbers job taken is found made =
    let none = (no_fault_where a numbers (fault_in a) found).0 in
    ap (λ kinds. job_unless kinds (arguments_of ws)) taken ∙ ap (λ (b : Arguments). answer_by (fault_in b) b) (sym is) ∙ ap (λ f. answer_by f a) none ∙ ap Ok (sym made)

pub within_found : (a : Arguments) (numbers : Numbers) (job : Job) → checked a ≡ Ok numbers → job ≡ job_in a → IsWithinLimits job
within_found a numbers job found made = subst IsWithinLimits (sym made) (within_of a (no_fault_where a numbers (fault_in a) found).0)

pub fault_found : (ws : List Text) (a : Arguments) (why : WordsRefusal) → misuse ws ≡ [] → a ≡ arguments_of ws → checked a ≡ Err why → job_of ws ≡ Err why
unfolding job_of
fault_found ws a why taken is found = ap (λ kinds. job_unless kinds (arguments_of ws)) taken ∙ ap (λ (b : Arguments). answer_by (fault_in b) b) (sym is) ∙ of_fault (fault_in a) found
  where
    of_fault : (o : Option WordsRefusal) → checked_by o a ≡ Err why → answer_by o a ≡ Err why
    of_fault None is = absurd cc
    of_fault (Some other) is = cc

misuse_found : (ws : List Text) → misuse ws ≢ [] → job_of ws ≡ Err refusal.Usage
unfolding job_of
misuse_found ws misused = of_kinds (misuse ws) misused
  where
    of_kinds : (kinds : Kinds) → kinds ≢ [] → job_unless kinds (arguments_of ws) ≡ Err refusal.Usage
    of_kinds [] not_empty = absurd (not_empty refl)
    of_kinds (kind ∷ kinds) not_empty = refl

-- words that the command doesn't take
pub refused_by_misuse : (ws : List Text) (f : WordsFault) → (f ≢ fault.Memory → (f ≡ fault.Refused refusal.Usage) × (misuse ws ≢ [])) → IsRefusedAs (job_of ws) f
refused_by_misuse ws fault.Memory told = tt
refused_by_misuse ws (fault.Refused why) told = let misused = told (λ is. cc) in misuse_found ws misused.1 ∙ ap Err (sym cc)

-- a fault that is handed on
pub handed_on : {T : Type 0} (ws : List Text) (r : Result T WordsFault) (f : WordsFault) → IsErrAnd r (λ e. e ≡ f) → IsRefusedAs (job_of ws) f → IfErr r (IsRefusedAs (job_of ws))
handed_on ws (Ok x) f is refused = tt
handed_on ws (Err e) f is refused = subst (IsRefusedAs (job_of ws)) (sym is) refused
