use Rattle.std.proofs.Common.{◌∙◌}
use Rattle.snap_desk.proofs.Putting.{export_in, export_put, one_for}
use Rattle.snap_desk.proofs.desk.Desk.put_export.Goals as goal

pub returns-in-Export-clause-adds : goal.returns-in-Export-clause-adds
returns-in-Export-clause-adds g c =
    export_put c.put.result c.args.self.now c.put.new.self c.args.command.now _ _ _ _ c.in_ok-file.file c.args.text.items c.in-Export.is c.requires.some c.requires.others c.put.ensures.same c.put.ensures.full c.put.ensures.lines
    (c.in_ok-file.ensures ∙ c.text.ensures) c.put.ensures.put

pub returns-in-Export-clause-pieces : goal.returns-in-Export-clause-pieces
returns-in-Export-clause-pieces g c = λ names ini all.
    one_for c.put.result c.args.self.now c.put.new.self c.in_ok-file.file c.args.text.items names c.put.ensures.put c.put.ensures.stays
    (export_in names c.args.command.now _ _ _ _ c.in_ok-file.file c.args.text.items c.in-Export.is (c.in_ok-file.ensures ∙ c.text.ensures) ini) all
