use Rattle.std.proofs.Common.{◌≡◌, ◌∙◌, ◌++◌, ◌∷◌, [], ℕ, sym}
use Rattle.snap_text.proofs.Rows.{on_ok}
use Rattle.snap_text.proofs.load.add_pair.Goals as goal

pub returns-clause-added : goal.returns-clause-added
returns-clause-added c =
    let pair : ℕ × ℕ = (c.in-Some.key, c.in-Some.value) in
    let added = on_ok c.add.result (c.add.new.self ≡ c.args.pairs.now ++ pair ∷ []) (sym c.is_err.ensures.value ∙ c.if-is_err.false) c.add.ensures.ok in
    rw c.in-Ok.is (pair, sym c.in-Some.ensures.value, c.in-Some.ensures.in_range, added)
