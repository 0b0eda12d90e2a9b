-- The words of the command line: which are accepted, and what they ask for.
use Rattle.std.specs.Prelude.{◌≡◌, ◌≤◌, ◌==◌, ◌&&◌, ◌||◌, ℕ, Bool, true, false, not, List, [], ◌∷◌, Option, None, Some, Result, Ok, Err, ⊤, is_some, length, map, nat_le, if◌then◌else◌}
use Rattle.std.specs.List.{list_all}
use Rattle.std.specs.Str.Parse.{digits_value}
use Rattle.clap.specs.Words.{Kinds}
use Rattle.snap_text.specs.Names.{is_file}
use Rattle.snap_text.specs.Numbers.{is_number}
use Rattle.snap_words.specs.CommandLine.{Arguments, Text, arguments_of, misuse}
use Rattle.snap_words.specs.Outputs.{has_twice, outputs}
use Rattle.snap_words.specs.declared.words.Job.{Job}
use Rattle.snap_words.specs.declared.words.Work.{Work}
use Rattle.snap_words.specs.declared.words.Work.TheVariants.{Made, Scripts}
use Rattle.snap_words.specs.declared.words.WordsFault.{WordsFault}
use Rattle.snap_words.specs.declared.words.WordsFault.TheVariants as faults
use Rattle.snap_words.specs.declared.words.WordsRefusal.{WordsRefusal}
use Rattle.snap_words.specs.declared.words.WordsRefusal.TheVariants as refusal

-- the limits, and what holds where an option isn't given
abbrev pub most_rows : ℕ
most_rows = 1_048_576

abbrev pub most_commands : ℕ
most_commands = 1_000_000

abbrev pub most_seed : ℕ
most_seed = 2_147_483_647

abbrev pub most_workers : ℕ
most_workers = 32

abbrev pub most_scripts : ℕ
most_scripts = 32

abbrev pub usual_rows : ℕ
usual_rows = 65_536

-- the text is a number from `least` to `most`
abbrev pub is_number_from : ℕ → ℕ → Text → Bool
is_number_from least most text = is_number most text && nat_le least (digits_value 10 text)

-- a value that is given passes the test
abbrev pub passes : (Text → Bool) → Option Text → Bool
passes test None = true
passes test (Some text) = test text

-- the number that is given, or the usual one
abbrev pub number_or : ℕ → Option Text → ℕ
number_or usual None = usual
number_or usual (Some text) = digits_value 10 text

-- each number is one in its range
abbrev pub has_numbers : Arguments → Bool
has_numbers a = passes (is_number_from 1 most_rows) a.rows
    && (passes (is_number_from 1 most_commands) a.generate
    && (passes (is_number_from 0 most_seed) a.seed
    && passes (is_number_from 1 most_workers) a.workers))

-- each name is a file name
abbrev pub has_names : Arguments → Bool
has_names a = passes is_file a.last && list_all is_file a.scripts

-- either scripts are named, or scripts are to be made
abbrev pub has_choice : Arguments → Bool
has_choice a =
    if is_some a.generate then length a.scripts == 0
    else (nat_le 1 (length a.scripts) && nat_le (length a.scripts) most_scripts
    && not (is_some a.seed || is_some a.workers))

-- the first fault of what the words give
abbrev pub fault_in : Arguments → Option WordsRefusal
fault_in a =
    if not (has_numbers a) then Some refusal.Number
    else if not (has_names a) then Some refusal.Name
    else if not (has_choice a) then Some refusal.Choice
    else if has_twice (outputs a.scripts a.last) then Some refusal.Output
    else None

-- what they ask for, where there is none
abbrev pub work_in : Option Text → Arguments → Work
work_in None a = Scripts a.scripts
work_in (Some commands) a =
    Made (digits_value 10 commands) (number_or 1 a.seed) (number_or 1 a.workers)

abbrev pub job_in : Arguments → Job
job_in a = record { rows = number_or usual_rows a.rows; last = a.last; work = work_in a.generate a }

abbrev pub answer_by : Option WordsRefusal → Arguments → Result Job WordsRefusal
answer_by None a = Ok (job_in a)
answer_by (Some why) a = Err why

-- the job of words that the command takes, which are none where it is misused
abbrev pub job_unless : Kinds → Arguments → Result Job WordsRefusal
job_unless [] a = answer_by (fault_in a) a
job_unless (kind ∷ kinds) a = Err refusal.Usage

-- what the words ask for, or their first fault
unfoldable pub job_of : List Text → Result Job WordsRefusal
job_of words = job_unless (misuse words) (arguments_of words)

-- why words make no job: by what is wrong with them, unless memory is wanting
abbrev pub IsRefusedAs : Result Job WordsRefusal → WordsFault → Type 0
IsRefusedAs job (faults.Refused why) = job ≡ Err why
IsRefusedAs job faults.Memory = ⊤

-- the scripts that a job names
abbrev pub scripts_named : Work → List Text
scripts_named (Scripts names) = names
scripts_named (Made commands seed workers) = []

-- what every job keeps to: the limits, and no two outputs in one file
abbrev pub IsWorkWithin : Work → Type 0
IsWorkWithin (Scripts names) = (1 ≤ length names) × (length names ≤ most_scripts)
IsWorkWithin (Made commands seed workers) =
    (commands ≤ most_commands) × (1 ≤ workers) × (workers ≤ most_workers)

pub record IsWithinLimits (job : Job) : Type 0 where
  pub some_rows : 1 ≤ job.rows
  pub few_rows : job.rows ≤ most_rows
  pub work : IsWorkWithin job.work
  pub outputs : has_twice (outputs (scripts_named job.work) job.last) ≡ false
