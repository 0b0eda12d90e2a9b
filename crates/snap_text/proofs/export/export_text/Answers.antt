use Rattle.std.proofs.Common.{rules, ◌∙◌, sym, ap, ◌++◌, List, ℕ, append_assoc, take}
use Rattle.std.proofs.lemmas.List.{append-nil}
use Rattle.snap_text.specs.Tables.{header_line, pair_lines}
use Rattle.snap_text.proofs.Rows.{lines_more}
use Rattle.snap_text.proofs.export.export_text.Goals as goal

pub loop-pair-init : goal.loop-pair-init
unfolding pair_lines
loop-pair-init c =
    let text = rw (c.from_writer-writer.ensures.wtr, c.from_writer-writer.ensures.empty, c.new.ensures.items) at c.in_ok-write_header.ensures.text in
    (c.in_ok-write_header.ensures.between, text ∙ sym (append-nil header_line))

pub loop-pair-preserved : goal.loop-pair-preserved
loop-pair-preserved c =
    let ps = c.args.pairs.now in
    let i = c.loop-pair.pair-index in
    let text = rw c.loop-pair.invariant.1 at c.in_ok-write_pair.ensures.text in
    let step = lines_more ps i (0, 0) (search rules) in (
      c.in_ok-write_pair.ensures.between,
      text ∙ append_assoc header_line (pair_lines (take i ps)) _ ∙ ap (λ (t : List ℕ). header_line ++ t) (sym step),
    )
