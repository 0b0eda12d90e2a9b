-- Scripts that are accepted, and scripts that are refused.
use Rattle.std.specs.Prelude.{◌≡◌, ℕ, [], ◌∷◌, Ok, Err, codes, refl}
use Rattle.snap_model.specs.declared.command.Command.{Command}
use Rattle.snap_model.specs.declared.command.Command.TheVariants.{Table, Put, Remove, Get, Snap, Forget, See, Depth, Load}
use Rattle.snap_text.specs.declared.fault.LineKind.TheVariants.{UnknownWord, WordCount, BadNumber, BadName, NoSuchClone, CloneTaken}
use Rattle.snap_text.specs.declared.fault.ScriptFault.TheVariants as fault
use Rattle.snap_text.specs.declared.script.Line.{Line}
use Rattle.snap_text.specs.Clones.{all_free}
use Rattle.snap_text.specs.Scripts.{script_of}
use Rattle.snap_text.specs.Verbs.{verb_of}

abbrev at_line : ℕ → Command → Line
at_line n command = record { line = n; command = command }

the_empty_text : script_of [] ≡ Ok []
unfolding script_of all_free verb_of
the_empty_text = refl

a_put : script_of (codes "put 5 50\n") ≡ Ok (at_line 1 (Put 5 50) ∷ [])
unfolding script_of all_free verb_of
a_put = refl

a_line_with_return : script_of (codes "get 7\r\n") ≡ Ok (at_line 1 (Get 7) ∷ [])
unfolding script_of all_free verb_of
a_line_with_return = refl

no_feed_at_the_end : script_of (codes "get 1\nremove 2")
    ≡ Ok (at_line 1 (Get 1) ∷ at_line 2 (Remove 2) ∷ [])
unfolding script_of all_free verb_of
no_feed_at_the_end = refl

-- a CR that no LF follows belongs to its word
a_lone_return : script_of (codes "get 7\r") ≡ Err (fault.Line 1 BadNumber)
unfolding script_of all_free verb_of
a_lone_return = refl

tabs_and_spaces : script_of (codes " \tput\t5  50 \n") ≡ Ok (at_line 1 (Put 5 50) ∷ [])
unfolding script_of all_free verb_of
tabs_and_spaces = refl

skipped_lines_count : script_of (codes "# a note\n\n \t\n#\nget 007\n")
    ≡ Ok (at_line 5 (Get 7) ∷ [])
unfolding script_of all_free verb_of
skipped_lines_count = refl

a_word_too_few : script_of (codes "put 1") ≡ Err (fault.Line 1 WordCount)
unfolding script_of all_free verb_of
a_word_too_few = refl

the_word_count_comes_first : script_of (codes "get x y") ≡ Err (fault.Line 1 WordCount)
unfolding script_of all_free verb_of
the_word_count_comes_first = refl

case_matters : script_of (codes "PUT 1 1") ≡ Err (fault.Line 1 UnknownWord)
unfolding script_of all_free verb_of
case_matters = refl

the_greatest_key : script_of (codes "put 18446744073709551615 0")
    ≡ Ok (at_line 1 (Put 18446744073709551615 0) ∷ [])
unfolding script_of all_free verb_of
the_greatest_key = refl

the_greatest_value : script_of (codes "put 1 18446744073709551614")
    ≡ Ok (at_line 1 (Put 1 18446744073709551614) ∷ [])
unfolding script_of all_free verb_of
the_greatest_value = refl

a_value_too_large : script_of (codes "put 1 18446744073709551615") ≡ Err (fault.Line 1 BadNumber)
unfolding script_of all_free verb_of
a_value_too_large = refl

the_second_line : script_of (codes "put 1 1\nput 1 one\nget\n") ≡ Err (fault.Line 2 BadNumber)
unfolding script_of all_free verb_of
the_second_line = refl

-- clones and their slots
slots_are_used_again : script_of (codes "clone a\nclone b\ndrop a\nclone c\nsee b 7\n")
    ≡ Ok
    (at_line 1 (Snap 0 (codes "a")) ∷ at_line 2 (Snap 1 (codes "b"))
    ∷ at_line 3 (Forget 0 (codes "a")) ∷ at_line 4 (Snap 0 (codes "c")) ∷ at_line 5 (See 1 7) ∷ [])
unfolding script_of all_free verb_of
slots_are_used_again = refl

a_live_name : script_of (codes "clone a\nclone a\n") ≡ Err (fault.Line 2 CloneTaken)
unfolding script_of all_free verb_of
a_live_name = refl

the_depth_of_a_clone : script_of (codes "clone a\nclone b\ndepth b\n")
    ≡ Ok
    (at_line 1 (Snap 0 (codes "a")) ∷ at_line 2 (Snap 1 (codes "b")) ∷ at_line 3 (Depth 1) ∷ [])
unfolding script_of all_free verb_of
the_depth_of_a_clone = refl

no_live_clone : script_of (codes "see a 1\n") ≡ Err (fault.Line 1 NoSuchClone)
unfolding script_of all_free verb_of
no_live_clone = refl

no_name : script_of (codes "clone a!\n") ≡ Err (fault.Line 1 BadName)
unfolding script_of all_free verb_of
no_name = refl

words_come_before_clones : script_of (codes "see a x\n") ≡ Err (fault.Line 1 BadNumber)
unfolding script_of all_free verb_of
words_come_before_clones = refl

words_from_left_to_right : script_of (codes "clone a\nexport a 0 x -f\n")
    ≡ Err (fault.Line 2 BadNumber)
unfolding script_of all_free verb_of
words_from_left_to_right = refl

files_and_tables : script_of (codes "use t\nload a/b.csv\n")
    ≡ Ok (at_line 1 (Table (codes "t")) ∷ at_line 2 (Load (codes "a/b.csv")) ∷ [])
unfolding script_of all_free verb_of
files_and_tables = refl
