use Rattle.std.proofs.Common.{rules, ◌≡◌, ◌<◌, ℕ, Bool, true, false, MatchBool, subst}
use Rattle.snap_repair.proofs.{Inner.worn_here, Mending.read_looks}
use Rattle.snap_repair.specs.Answers.{FindsWorn}
use Rattle.snap_prelude.specs.{Becomes, count_of, last_count, read, Stamp}
use Rattle.snap_repair.proofs.held.is_worn_out.Goals as goal

pub returns-clause-looks : goal.returns-clause-looks
returns-clause-looks c = read_looks c.args.pass.now c.load_word-stamp.new.pass c.args.row.now.row Stamp c.load_word-stamp.result c.load_word-stamp.ensures.pass

pub returns-clause-worn : goal.returns-clause-worn
returns-clause-worn c =
    let g = c.args.row.now in let a = c.args.pass.now in let b = c.load_word-stamp.new.pass in
    let tells : MatchBool c.is_last.result (count_of g.stamp ≡ last_count) (count_of g.stamp < last_count) = search rules in
    let loads : Becomes a b (read a.view g.row Stamp g.stamp) = subst (λ (x : ℕ). Becomes a b (read a.view g.row Stamp x)) (c.load_word-stamp.ensures.known g.stamp c.requires.grip.is_stamp) c.load_word-stamp.ensures.pass in
    go (count_of g.stamp ≡ last_count) (FindsWorn a b g.row) (count_of g.stamp < last_count) c.is_last.result tells (λ last. worn_here a b g c.requires.grip loads last)
  where
    go : (L A B : Type 0) (t : Bool) → MatchBool t L B → (L → A) → MatchBool t A B
    go L A B true l f = f l
    go L A B false l f = l
