use Rattle.std.proofs.Common.{◌≡◌, ◌∙◌, ℕ, List, [], Option, None, Some, ap, codes}
use Rattle.std.specs.Borrow.{Bor}
use Rattle.std.specs.Option.{UnwrapsOrElse, option_map, unwrap_or}
use Rattle.clap.proofs.WalkLemmas.{raw_values-rows}
use Rattle.clap.specs.Words.{found_of}
use Rattle.snap_words.proofs.Outputs.{Lent, texts}
use Rattle.snap_words.proofs.command_line.scripts_of.Goals as goal

-- what was found, or nothing
found_or_none : (found : Option (Bor (List Lent))) (all : Option (List (List ℕ))) (r : Bor (List Lent)) → option_map (λ (s : Bor (List Lent)). texts s.now) found ≡ all
    → UnwrapsOrElse found (λ (s : Bor (List Lent)). s.now ≡ []) r → texts r.now ≡ unwrap_or all []
found_or_none None all r is gives = ap texts gives ∙ ap (λ (a : Option (List (List ℕ))). unwrap_or a []) is
found_or_none (Some s) all r is gives = ap (λ (t : Bor (List Lent)). texts t.now) gives ∙ ap (λ (a : Option (List (List ℕ))). unwrap_or a []) is

pub returns : goal.returns
returns c =
    found_or_none c.get_strs.result _ c.unwrap_or_default.result (c.get_strs.ensures ∙ raw_values-rows (found_of c.args.matches.now) (codes "SCRIPT")) c.unwrap_or_default.ensures
