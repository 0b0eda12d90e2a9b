use Rattle.std.proofs.Common.{◌≡◌, ◌∙◌, ap, ap₂, true}
use Rattle.std.proofs.lemmas.Result.{IfOk-weaker}
use Rattle.clap.specs.Simple.{app_of_fields, on_top}
use Rattle.clap.specs.Words.{app_of, with_rule}
use Rattle.snap_words.specs.CommandLine.{bare_command}
use Rattle.snap_words.proofs.command_line.new_command.Goals as goal

-- each step adds the rule of its argument
pub returns : goal.returns
returns c =
    let bare : app_of c.no_binary_name.result ≡ bare_command = ap app_of_fields c.no_binary_name.ensures ∙ ap (on_top (λ s. record s { no_binary_name = true })) c.new.ensures.app in
    let rows = c.in_ok-arg.ensures.shape c.option.ensures.local ∙ ap₂ with_rule bare c.option.ensures.rule in
    let last = c.in_ok-arg-2.ensures.shape c.option-2.ensures.local ∙ ap₂ with_rule rows c.option-2.ensures.rule in
    let generate = c.in_ok-arg-3.ensures.shape c.option-3.ensures.local ∙ ap₂ with_rule last c.option-3.ensures.rule in
    let seed = c.in_ok-arg-4.ensures.shape c.option-4.ensures.local ∙ ap₂ with_rule generate c.option-4.ensures.rule in
    let workers = c.in_ok-arg-5.ensures.shape c.option-5.ensures.local ∙ ap₂ with_rule seed c.option-5.ensures.rule in
    IfOk-weaker c.arg-6.result _ _ (λ made added. added.shape c.scripts.ensures.local ∙ ap₂ with_rule workers c.scripts.ensures.rule) c.arg-6.ensures
