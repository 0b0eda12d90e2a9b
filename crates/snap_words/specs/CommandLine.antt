-- What the words of the command line give, as one simple command with options and scripts.
use Rattle.std.specs.Prelude.{ℕ, List, [], Option, Some, codes, true, unwrap_or}
use Rattle.clap.specs.Lexer.{usize_max}
use Rattle.clap.specs.Words.{App, Kinds, Row, Rule, all_of, fault_of, first_of, matches_of, new_app, new_rule, with_rule}
use Rattle.clap.specs.Simple.{on_top}
use Rattle.clap.specs.declared.builder.ArgAction.TheVariants.{Append, Set}

abbrev pub Text : Type 0
Text = List ℕ

-- an option by its long name: it may be used once, and takes one value
abbrev pub option_rule : Text → Rule
option_rule name = record (new_rule name) { long = Some name; action = Some Set }

-- the words that belong to no option, any number of them
abbrev pub scripts_rule : Text → Rule
scripts_rule name = record (new_rule name) {
  action = Some Append;
  range = Some (record { start_inclusive = 1; end_inclusive = usize_max });
}

-- the command before it has arguments; the program's own name is none of its words
abbrev pub bare_command : App
bare_command = on_top (λ s. record s { no_binary_name = true }) (new_app (codes "snaptable"))

abbrev pub command : App
command = with_rule (with_rule (with_rule (with_rule (with_rule (with_rule bare_command
    (option_rule (codes "rows"))) (option_rule (codes "final"))) (option_rule (codes "generate")))
    (option_rule (codes "seed"))) (option_rule (codes "workers"))) (scripts_rule (codes "SCRIPT"))

-- why the command doesn't take the words; empty where it does
unfoldable pub misuse : List Text → Kinds
misuse words = fault_of command words

-- what the words give for each part of the command
pub record Arguments : Type 0 where
  pub rows : Option Text
  pub last : Option Text
  pub generate : Option Text
  pub seed : Option Text
  pub workers : Option Text
  pub scripts : List Text

abbrev pub arguments_in : List Row → Arguments
arguments_in rows = record {
  rows = first_of (codes "rows") rows;
  last = first_of (codes "final") rows;
  generate = first_of (codes "generate") rows;
  seed = first_of (codes "seed") rows;
  workers = first_of (codes "workers") rows;
  scripts = unwrap_or (all_of (codes "SCRIPT") rows) [];
}

unfoldable pub arguments_of : List Text → Arguments
arguments_of words = arguments_in (matches_of command words)
