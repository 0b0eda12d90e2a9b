-- What is told of a stop.
use Rattle.std.specs.Prelude.{ℕ, List, ◌++◌, codes, decimal}
use Rattle.snap_text.specs.declared.fault.LineKind.{LineKind}
use Rattle.snap_text.specs.declared.fault.LineKind.TheVariants as kind
use Rattle.snap_words.specs.declared.words.WordsRefusal.{WordsRefusal}
use Rattle.snap_words.specs.declared.words.WordsRefusal.TheVariants as words
use Rattle.snap_plan.specs.declared.needs.Limit.{Limit}
use Rattle.snap_plan.specs.declared.needs.Limit.TheVariants as limit
use Rattle.snap_plan.specs.declared.stop.Stop.{Stop}
use Rattle.snap_plan.specs.declared.stop.Stop.TheVariants as stop

abbrev pub words_name : WordsRefusal → List ℕ
words_name words.Usage = codes "usage"
words_name words.Number = codes "number"
words_name words.Name = codes "name"
words_name words.Choice = codes "choice"
words_name words.Output = codes "output"

abbrev pub kind_name : LineKind → List ℕ
kind_name kind.UnknownWord = codes "UnknownWord"
kind_name kind.WordCount = codes "WordCount"
kind_name kind.BadNumber = codes "BadNumber"
kind_name kind.BadName = codes "BadName"
kind_name kind.NoSuchClone = codes "NoSuchClone"
kind_name kind.CloneTaken = codes "CloneTaken"
kind_name kind.TooManyClones = codes "TooManyClones"

abbrev pub limit_name : Limit → List ℕ
limit_name limit.OutputTaken = codes "OutputTaken"
limit_name limit.TooManyTables = codes "TooManyTables"
limit_name limit.TooManyLoads = codes "TooManyLoads"

-- the text on a line of a script
abbrev pub line_text : List ℕ → ℕ → List ℕ → List ℕ
line_text name line what =
    codes "script " ++ name ++ codes " line " ++ decimal line ++ codes ": " ++ what ++ codes "\n"

abbrev pub record_text : List ℕ → ℕ → List ℕ
record_text name number =
    codes "load " ++ name ++ codes " record " ++ decimal number ++ codes ": BadPair\n"

-- the text on a stop
abbrev pub stop_text : Stop → List ℕ
stop_text (stop.Words why) = codes "words refused: " ++ words_name why ++ codes "\n"
stop_text (stop.Read name) = codes "read fault: " ++ name ++ codes "\n"
stop_text (stop.Line name line kind) = line_text name line (kind_name kind)
stop_text (stop.LongScript name) = codes "script " ++ name ++ codes ": too long\n"
stop_text (stop.Limit name line limit) = line_text name line (limit_name limit)
stop_text (stop.Record name number) = record_text name number
stop_text (stop.LongLoad name) = codes "load " ++ name ++ codes ": too long\n"
stop_text stop.Memory = codes "out of memory\n"
