use Rattle.std.proofs.Common.{◌≡◌, false, inl, inr, refl}
use Rattle.std.proofs.lemmas.Bool.{cases_Bool}
use Rattle.snap_text.specs.Names.{is_file}
use Rattle.snap_text.proofs.Ascii.{file_is_text}
use Rattle.snap_text.proofs.words.read_file.Goals as goal

pub returns-in_default : goal.returns-in_default
returns-in_default c =
    let no : is_file c.args.word.now ≡ false =
    elim (cases_Bool (is_file c.args.word.now)) [ inl is ↦ absurd (c.in_default.ensures.cases.0 (file_is_text c.args.word.now is)) | inr not ↦ not ] in
    rw no refl
