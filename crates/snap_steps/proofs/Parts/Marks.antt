-- Shrinking marks, once words or changes of passes are others; and a table in which no pass is in a write.
use Rattle.std.proofs.Common.{◌≡◌, ◌∙◌, ◌<◌, ℕ, List, length, set, inl, inr, refl, sym, ap, subst, arith}
use lib.ListN.{get_elem?}
use mathlib.Core.Logic.{dite}
use mathlib.Core.Option.{some}
use native.Mathlib.Decide.{ℕ_discrete}
use Rattle.snap_rule.specs.Doing.{Concerns}
use Rattle.snap_rule.specs.Rule.{NoneWrites}
use Rattle.snap_rule.specs.declared.change.Doing.{Doing}
use Rattle.snap_rule.specs.declared.change.Doing.TheVariants.{Nothing, Unlinked, Shrunk, Lowered, Lifted, Turned}
use Rattle.snap_stamp.specs.Stamps.{IsShrinking}
use Rattle.snap_stamp.specs.declared.side.Side.{Side}
use Rattle.snap_stamp.specs.declared.side.Side.TheVariants as sides
use Rattle.snap_steps.specs.Counting.{times}
use Rattle.snap_steps.specs.Memory.{Row, row, with_field}
use Rattle.snap_steps.specs.Rule.{Kept}
use Rattle.snap_steps.specs.Rule.Changes.{changing}
use Rattle.snap_steps.specs.Rule.Marks.{lowers, AreMarked}
use Rattle.snap_steps.specs.Stages.{in_write}
use Rattle.snap_steps.specs.States.{link_field, state_of}
use Rattle.snap_steps.specs.declared.rule.About.{About}
use Rattle.snap_steps.specs.declared.view.View.{View}
use Rattle.snap_steps.proofs.Cells.{row_same, row_other}
use Rattle.snap_steps.proofs.EachView.{none_total}
use Rattle.snap_steps.proofs.Tables.{none_changing}
use Rattle.snap_steps.proofs.Totals.{one_other, total-set, term_le}

-- one row is another, with the same stamp
pub stamps_same : (rows : List Row) (r : ℕ) (x : Row) → r < length rows → x.stamp ≡ (row rows r).stamp → (n : ℕ) → (row (set rows r x) n).stamp ≡ (row rows n).stamp
stamps_same rows r x near e n =
    dite (ℕ_discrete n r)
    (λ q. ap (λ (i : ℕ). (row (set rows r x) i).stamp) q ∙ ap (λ (y : Row). y.stamp) (row_same rows r x near) ∙ e ∙ ap (λ (i : ℕ). (row rows i).stamp) (sym q))
    (λ ne. ap (λ (y : Row). y.stamp) (row_other rows r n x ne))

pub link_stamp : (d : Side) (c : ℕ) (x : Row) → (with_field (link_field d) c x).stamp ≡ x.stamp
link_stamp sides.Left c x = refl
link_stamp sides.Right c x = refl

-- a step that changes no stamp, and no change
pub marks_stay : (views : List View) (id : ℕ) (v w : View) (rows rows' : List Row) → get_elem? views id ≡ some v → AreMarked rows views → ((n : ℕ) → (row rows' n).stamp ≡ (row rows n).stamp) → w.doing ≡ v.doing → AreMarked rows' (set views id w)
marks_stay views id v w rows rows' at h same doing n none z =
    h n (omega (arith, none, total-set (λ u. lowers n u.doing) views id v w at, ap (lowers n) doing)) (subst IsShrinking (same n) z)

-- who doesn't hold a row isn't lowering it
pub none_lowers : (g : Doing) (holds : List ℕ) (n : ℕ) → ((m : ℕ) → Concerns g m → 0 < times m holds) → times n holds ≡ 0 → lowers n g ≡ 0
none_lowers Nothing holds n h none = refl
none_lowers (Unlinked p e row only) holds n h none = refl
none_lowers (Shrunk p q row e raised) holds n h none = one_other n row (λ q. omega (arith, none, h row (inr (inl refl)), ap (λ (y : ℕ). times y holds) q))
none_lowers (Lowered p q row e raised) holds n h none = one_other n row (λ q. omega (arith, none, h row (inr (inl refl)), ap (λ (y : ℕ). times y holds) q))
none_lowers (Lifted p q row e raised) holds n h none = one_other n row (λ q. omega (arith, none, h row (inr (inl refl)), ap (λ (y : ℕ). times y holds) q))
none_lowers (Turned row) holds n h none = one_other n row (λ q. omega (arith, none, h row refl, ap (λ (y : ℕ). times y holds) q))

-- where no pass is in a write, no link is in a change and no row of the tree has a mark
pub none_writes : {about : About} {words : List ℕ} {views : List View} (k : Kept about words views) → NoneWrites (state_of k.m k.g)
none_writes {views = views} k = record {
  no_change = λ z n d. k.changes n d (none_total (λ u. changing n d u.doing) views (λ j u there. none_changing u.doing u.holds n d (k.held j u there) (free z j u there n)));
  no_mark = λ z n stands. let even = (k.table.tree.rows n stands).1 in
      let clean = k.marked n (none_total (λ u. lowers n u.doing) views (λ j u there. none_lowers u.doing u.holds n (k.held j u there) (free z j u there n))) in
      omega (arith, even, clean);
}
  where
    free : k.g.writers ≡ 0 → (j : ℕ) (u : View) → get_elem? views j ≡ some u → (n : ℕ) → times n u.holds ≡ 0
    free z j u there n = omega (arith, z, k.writers, term_le (λ y. in_write y.stage) views j u there, k.locked.writing j u there n)
