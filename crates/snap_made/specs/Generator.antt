-- Scripts that are made up: a sequence of numbers, and the commands that it gives to each worker.
use Rattle.std.specs.Prelude.{◌+◌, ◌*◌, ◌/◌, ◌%◌, ◌^◌, ◌-◌, ◌==◌, ℕ, zero, suc, nat_lt, List, [], ◌∷◌, ◌++◌, codes, if◌then◌else◌}
use Rattle.snap_model.specs.declared.command.Command.{Command}
use Rattle.snap_model.specs.declared.command.Command.TheVariants as command
use Rattle.snap_text.specs.declared.script.Line.{Line}

-- the number that follows another
abbrev pub number_after : ℕ → ℕ
number_after x = (1_103_515_245 * x + 12_345) % 2 ^ 31

-- the number that a worker begins with, and the nth number after one
abbrev pub first_number : ℕ → ℕ → ℕ
first_number seed worker = (seed + 4096 * worker) % 2 ^ 31

unfoldable pub nth_number : ℕ → ℕ → ℕ
nth_number x zero = x
nth_number x (suc n) = number_after (nth_number x n)

-- how many of the commands a worker draws
abbrev pub share_of : ℕ → ℕ → ℕ → ℕ
share_of commands workers worker =
    commands / workers + (if nat_lt worker (commands % workers) then 1 else 0)

-- a worker's command of two numbers: of sixteen kinds nine put, three remove and four ask, and no
-- key is another worker's
abbrev pub command_of_kind : ℕ → ℕ → ℕ → Command
command_of_kind kind key value =
    if nat_lt kind 9 then command.Put key value
    else if nat_lt kind 12 then command.Remove key
    else command.Get key

abbrev pub key_of : ℕ → ℕ → ℕ → ℕ
key_of workers worker number = number / 65_536 % 10_000 * workers + worker

abbrev pub command_of : ℕ → ℕ → ℕ → ℕ → Command
command_of workers worker a b = command_of_kind (a / 65_536 % 16) (key_of workers worker b) b

-- the nth command that is drawn, from 0
unfoldable pub nth_command : ℕ → ℕ → ℕ → ℕ → Command
nth_command seed workers worker n =
    let first = first_number seed worker in
    command_of workers worker (nth_number first (2 * n + 1)) (nth_number first (2 * n + 2))

-- a count of all keys, which follows every 10,000th command that is drawn
abbrev pub census : List Command
census =
    command.Snap 0 (codes "g") ∷ command.Count 0 0 (2 ^ 64 - 1) ∷ command.Forget 0 (codes "g") ∷ []

abbrev pub census_after : ℕ → List Command
census_after n = if n % 10_000 == 0 then census else []

-- the first n commands that are drawn, with the counts among them
unfoldable pub first_commands : ℕ → ℕ → ℕ → ℕ → List Command
first_commands seed workers worker zero = []
first_commands seed workers worker (suc n) =
    first_commands seed workers worker n ++ nth_command seed workers worker n ∷ census_after (n + 1)

-- commands as the lines of a script, counted from n
unfoldable pub lines_from : ℕ → List Command → List Line
lines_from n [] = []
lines_from n (c ∷ cs) = record { line = n; command = c } ∷ lines_from (n + 1) cs

-- the script that is made for a worker
abbrev pub made_script : ℕ → ℕ → ℕ → ℕ → List Line
made_script commands seed workers worker =
    lines_from 1 (first_commands seed workers worker (share_of commands workers worker))

-- the most commands of a run, and the lines of the script of so many for a worker alone: none has
-- more
abbrev pub most_made : ℕ
most_made = 1_000_000

abbrev pub most_made_lines : ℕ
most_made_lines = most_made + 3 * (most_made / 10_000)

-- the scripts of the first n of the workers, in their order
unfoldable pub made_scripts : ℕ → ℕ → ℕ → ℕ → List (List Line)
made_scripts commands seed workers zero = []
made_scripts commands seed workers (suc n) =
    made_scripts commands seed workers n ++ made_script commands seed workers n ∷ []
