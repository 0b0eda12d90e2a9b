use Rattle.std.proofs.Common.{◌∙◌, ap, sym}
use Rattle.std.specs.Prelude.{◌||◌, bytes_eq}
use Rattle.std.proofs.lemmas.List.{take_all}
use Rattle.snap_plan.specs.Needs.{among}
use Rattle.snap_plan.proofs.Names.{among-take}
use Rattle.snap_plan.proofs.needs.Taken.of.Goals as goal

pub loop-file-preserved : goal.loop-file-preserved
loop-file-preserved c = λ name.
    c.in_ok-add.ensures.names name ∙ ap (λ b. b || bytes_eq c.file-item.result name) (c.loop-file.invariant name)
    ∙ sym (among-take c.args.files.now c.loop-file.file-index c.file-item.result name c.loop-file-test.true c.file-item.is)

pub returns : goal.returns
returns c = λ name. c.loop-file.invariant name ∙ ap (λ names. among names name) (take_all c.loop-file.file-index c.args.files.now c.loop-file-test.false)
