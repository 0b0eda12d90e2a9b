use Rattle.std.proofs.Common.{◌≤◌, ℕ, List, length, ap, sym, ◌∙◌, subst, arith}
use Rattle.std.specs.Prelude.{bytes_eq}
use Rattle.std.specs.Option.{option_copied}
use Rattle.snap_model.specs.SortedMap.{Pairs}
use Rattle.snap_text.specs.Loads.{most_pairs}
use Rattle.snap_text.specs.LoadFiles.{HaveFewPairs}
use Rattle.snap_text.proofs.Files.{found}
use Rattle.snap_text.proofs.loads.Loads.pairs_of.Goals as goal

pub returns-clause-few : goal.returns-clause-few
returns-clause-few c =
    let e = sym c.file.ensures ∙ ap option_copied c.in-Some.is in
    let few = found (λ (f : List ℕ × Pairs). length f.1 ≤ most_pairs) (λ (f : List ℕ × Pairs). bytes_eq f.0 c.args.name.now) c.args.self.now _ (subst HaveFewPairs c.self.view_is c.self.invariant) e in
    omega (arith, few, ap length c.list.ensures)
