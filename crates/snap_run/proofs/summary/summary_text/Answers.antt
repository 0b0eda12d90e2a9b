use Rattle.std.proofs.Common.{◌≡◌, ◌++◌, ◌∙◌, List, ℕ, ap, sym, append_assoc, append-nil, get_or, take}
use Rattle.snap_prelude.specs.{Ended}
use Rattle.snap_run.specs.Printed.{first_line, table_line, table_lines}
use Rattle.snap_run.proofs.Summaries.{lines_all, lines_next}
use Rattle.snap_run.proofs.summary.summary_text.Goals as goal

pub loop-place-init : goal.loop-place-init
loop-place-init c = c.in_ok-text.ensures ∙ sym (append-nil (first_line c.args.counts.now.scripts c.args.counts.now.commands c.args.counts.now.full))

pub loop-place-preserved : goal.loop-place-preserved
loop-place-preserved c =
    let place = c.loop-place.place in let names = c.args.tables.now in let fronts = c.args.fronts.now in
    let head = first_line c.args.counts.now.scripts c.args.counts.now.commands c.args.counts.now.full in
    let lines = table_lines (take place names) (take place fronts) in let f = c.index-fronts-place.result in
    let line : c.as_str.result.now ≡ table_line c.index-tables-place.result f.writes f.pairs = c.as_str.ensures.value ∙ c.in_ok-line.ensures ∙ ap (λ (e : Ended). table_line c.text.result.now e.writes e.pairs) c.front.view_is ∙ ap (λ (n : List ℕ). table_line n f.writes f.pairs) c.text.ensures in
    let at : f ≡ get_or fronts place f = c.index-fronts-place.is ∙ ap (λ l. get_or l place f) c.list-fronts.ensures in
    c.in_ok-push_str.ensures.bytes
    ∙ ap (λ (t : List ℕ). t ++ c.as_str.result.now) c.loop-place.invariant
    ∙ append_assoc head lines c.as_str.result.now
    ∙ ap (λ (l : List ℕ). head ++ (lines ++ l)) line
    ∙ ap (λ (l : List ℕ). head ++ l) (sym (lines_next names fronts place c.index-tables-place.result f c.loop-place-test.true c.requires c.index-tables-place.is at))

pub returns : goal.returns
returns c = c.loop-place.invariant ∙ ap (λ (l : List ℕ). first_line c.args.counts.now.scripts c.args.counts.now.commands c.args.counts.now.full ++ l) (lines_all c.args.tables.now c.args.fronts.now c.loop-place.place c.requires c.loop-place-test.false)
