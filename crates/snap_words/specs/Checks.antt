-- What is found of words that the command takes: their numbers, or the first fault.
use Rattle.std.specs.Prelude.{Option, None, Some, Result, Ok, Err, option_map}
use Rattle.std.specs.Str.Parse.{digits_value}
use Rattle.snap_words.specs.CommandLine.{Arguments}
use Rattle.snap_words.specs.Words.{fault_in, number_or, usual_rows}
use Rattle.snap_words.specs.declared.checking.Numbers.{Numbers}
use Rattle.snap_words.specs.declared.words.WordsRefusal.{WordsRefusal}

abbrev pub numbers_in : Arguments → Numbers
numbers_in a = record {
  rows = number_or usual_rows a.rows;
  commands = option_map (digits_value 10) a.generate;
  seed = number_or 1 a.seed;
  workers = number_or 1 a.workers;
}

abbrev pub checked_by : Option WordsRefusal → Arguments → Result Numbers WordsRefusal
checked_by None a = Ok (numbers_in a)
checked_by (Some why) a = Err why

abbrev pub checked : Arguments → Result Numbers WordsRefusal
checked a = checked_by (fault_in a) a
