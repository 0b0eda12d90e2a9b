-- Which rows of the tree have a mark after a step.
use Rattle.std.proofs.Common.{◌≡◌, ◌≢◌, ℕ, ◌+◌, ◌^◌, inl, inr, refl, sym, subst, arith}
use Rattle.snap_model.specs.History.{call_value}
use Rattle.snap_stamp.specs.Stamps.{IsUnmarked}
use Rattle.snap_rule.specs.Laws.Marks.{KindsMark}
use Rattle.snap_rule.specs.Rule.{TableOk}
use Rattle.snap_rule.specs.State.{State}
use Rattle.snap_rule.specs.Tree.{Stands}
use Rattle.snap_rule.specs.TreeChanges.{leaf_of, without}
use Rattle.snap_rule.specs.Updates.{changed}
use Rattle.snap_rule.proofs.Updates.{changed_same, changed_other}
use Rattle.snap_rule.proofs.Trees.Rows.{with_value_stands, with_height_stands, renamed_stands, without_stands, rotated_stands, grown_stands}
use Rattle.snap_rule.proofs.Parts.Tree.{without_gone}

-- a stamp of another row changes
other_stamp : (s : State) (row x n : ℕ) → n ≢ row → IsUnmarked (s.stamp n) → IsUnmarked (changed s.stamp row x n)
other_stamp s row x n z u = subst IsUnmarked (sym (changed_other s.stamp row x n z)) u

pub marks_kept : (s : State) (n : ℕ) → TableOk s → KindsMark s n
marks_kept s n ok = record {
  own = λ row k b h v l i f. f i;
  lock = λ row x i f. f i;
  header = λ g a w i f. f i;
  height = λ row x i f. f (with_height_stands row x s.tree n i);
  leaf = λ parent d row e may i f. elim (grown_stands parent d (leaf_of row e) s.tree n i) [ inl q ↦ fresh row q may.stamp | inr h ↦ f h ];
  store = λ row e i f. f (with_value_stands row (call_value e.call) s.tree n i);
  absent = λ e i f. f i;
  cut_made = λ i f. f i;
  copy = λ parent d row copy may i f. elim (renamed_stands row copy s.tree n i) [ inl q ↦ fresh copy q may.stamp | inr h ↦ f h.1 ];
  unlink = λ parent d row may i f. other_stamp s row (s.stamp row + 1) n (λ q. without_gone s s.links row 0 (2 ^ 64) s.tree ok.tree.ordered ok.tree.reads (subst (λ (x : ℕ). Stands x (without row s.tree)) q i)) (f (without_stands row s.tree n i));
  splice = λ parent d i f. f i;
  shrink = λ row z i f. other_stamp s row (s.stamp row + 2) n z (f i);
  lower = λ row d raised i f. f i;
  lift = λ row d raised i f. f i;
  raise = λ parent p row d raised i f. f (rotated_stands row d s.tree n i);
  clear = λ row z i f. other_stamp s row (s.stamp row + 2) n z (f i);
  cleared = λ may. let e = changed_same s.stamp n (s.stamp n + 2) in let m = may.marked in omega arith;
}
  where
    fresh : (row : ℕ) → n ≡ row → s.stamp row ≡ 0 → IsUnmarked (s.stamp n)
    fresh row q z = subst (λ (x : ℕ). IsUnmarked (s.stamp x)) (sym q) (subst IsUnmarked (sym z) refl)
