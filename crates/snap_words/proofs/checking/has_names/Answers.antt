use Rattle.std.proofs.Common.{◌≡◌, ◌∙◌, Bool, true, ap, rules, sym}
use Rattle.std.specs.Prelude.{◌&&◌, option_map}
use Rattle.std.specs.List.{list_all}
use Rattle.snap_text.specs.Names.{is_file}
use Rattle.snap_words.specs.Words.{passes}
use Rattle.snap_words.proofs.Outputs.{Lent, files_of, texts}
use Rattle.snap_words.proofs.checking.has_names.Goals as goal

-- a final file with a file name leaves the scripts to be looked at
pub returns-then-is_none_or : goal.returns-then-is_none_or
returns-then-is_none_or c =
    let last : passes is_file (option_map (λ (name : Lent). name.now) c.args.given.now.last) ≡ true = search rules in
    c.are_files.ensures ∙ sym (files_of c.args.given.now.scripts.now) ∙ ap (λ (b : Bool). b && list_all is_file (texts c.args.given.now.scripts.now)) (sym last)
