use Rattle.std.proofs.Common.{◌≡◌, ◌++◌, subst, IfOk, OnOk}
use Rattle.snap_prelude.specs.{count, Pairs, range, Reply}
use Rattle.snap_text.specs.Tables.{table_text}
use Rattle.snap_service.proofs.session.Session.export.Goals as goal

pub returns-clause-reply : goal.returns-clause-reply
returns-clause-reply c = subst (λ (m : Pairs). IfOk c.export_range.result (λ r. r ≡ Reply.Exported (count m c.args.lo c.args.hi))) c.clone_in-view.ensures.map c.export_range.ensures.reply

pub returns-clause-out : goal.returns-clause-out
returns-clause-out c = subst (λ (m : Pairs). OnOk c.export_range.result (c.export_range.new.out.items ≡ c.args.out.now.items ++ table_text (range m c.args.lo c.args.hi))) c.clone_in-view.ensures.map c.export_range.ensures.out
