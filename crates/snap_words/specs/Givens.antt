-- What the words give, as their texts.
use Rattle.std.specs.Prelude.{map, option_map}
use Rattle.snap_words.specs.CommandLine.{Arguments}
use Rattle.snap_words.specs.declared.command_line.Given.{Given}

abbrev pub given_by : Given → Arguments
given_by g = record {
  rows = option_map (λ text. text.now) g.rows;
  last = option_map (λ text. text.now) g.last;
  generate = option_map (λ text. text.now) g.generate;
  seed = option_map (λ text. text.now) g.seed;
  workers = option_map (λ text. text.now) g.workers;
  scripts = map (λ text. text.now) g.scripts.now;
}
