use Rattle.std.proofs.Common.{◌∙◌, None, Some, codes, sym}
use Rattle.std.proofs.lemmas.Bool.Decides.{Decides-eqb}
use Rattle.std.proofs.lemmas.Slice.Eq.{strip_suffix_is}
use Rattle.snap_words.proofs.Outputs.{no_reply_among, reply_among, texts}
use Rattle.snap_words.proofs.checking.is_reply_name.Goals as goal

pub returns-in-None : goal.returns-in-None
returns-in-None c =
    let other = strip_suffix_is Decides-eqb c.as_bytes.result.now (codes ".out") None c.in-None.ensures.cases in
    sym (no_reply_among c.args.name.now (texts c.args.scripts.now) (λ script is. other script (c.as_bytes.ensures.value ∙ is)))

pub returns-in-Some : goal.returns-in-Some
returns-in-Some c =
    let stripped = strip_suffix_is Decides-eqb c.as_bytes.result.now (codes ".out") (Some c.in-Some.script) c.in-Some.ensures.cases in
    c.is_among.ensures ∙ sym (reply_among c.args.name.now c.in-Some.script.now c.args.scripts.now (sym c.as_bytes.ensures.value ∙ stripped))
