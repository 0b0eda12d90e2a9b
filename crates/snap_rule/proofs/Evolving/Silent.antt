-- More kinds of step evolve the table.
use Rattle.std.proofs.Common.{◌≡◌, ◌≢◌, ℕ, ◌+◌, ◌<◌, inl, inr, [], ◌∷◌, refl, ap, subst, arith}
use native.Mathlib.Decide.{ℕ_discrete}
use mathlib.Core.Logic.{dite}
use Rattle.snap_model.specs.declared.call.Entry.{Entry}
use Rattle.snap_stamp.specs.Sides.{other}
use Rattle.snap_stamp.specs.declared.side.Side.{Side}
use Rattle.snap_stamp.specs.declared.side.Side.TheVariants.{Left}
use Rattle.snap_rule.specs.State.{State, Change, In, WasLinked}
use Rattle.snap_stamp.specs.Stamps.{IsUnlinked}
use Rattle.snap_rule.specs.State.Change.{plain, lowering, raising}
use Rattle.snap_rule.specs.Evolves.{Evolves, SameRow}
use Rattle.snap_rule.specs.Rule.{TreeOk, IsParent}
use Rattle.snap_rule.specs.Updates.{changed, relink}
use Rattle.snap_rule.specs.Kinds.Unlinking.{spliced, MaySplice}
use Rattle.snap_rule.specs.Kinds.Rotation.{lowered_linked, MayLinkLowered, raised_linked, MayLinkRaised, shrinking_cleared, MayClearShrinking}
use Rattle.snap_rule.specs.Kinds.Words.{height_stored, MayStoreHeight, own_stored, MayStoreOwn, lock_stored, header_stored, MayCount}
use Rattle.snap_rule.specs.Kinds.Entries.{leaf_linked, MayLinkLeaf}
use Rattle.snap_rule.specs.TreeChanges.{leaf_of}
use Rattle.snap_rule.proofs.Moments.{begins_refl}
use Rattle.snap_rule.proofs.Trees.{way_stands}
use Rattle.snap_rule.proofs.Updates.{changed_same, changed_other, relink_other}
use Rattle.snap_rule.proofs.Trees.Ways.{way_with_height, way_grown}
use Rattle.snap_rule.proofs.Evolving.Telling.{not_shared, same_row, stamp_up}

-- a link of row 0 or of a live row is another
link_evolves : (s : State) (r : ℕ) (d : Side) (v : ℕ) (p : ℕ → Side → Change) → IsParent s r d → s.writers ≢ 0
    → Evolves s (record s { link = relink s.link r d v; pending = p })
link_evolves s r d v p live writing = record {
  history = begins_refl s.history;
  linked = λ n h. h;
  epoch = omega arith;
  key = λ n h. refl;
  birth = λ n h. refl;
  stamp = λ n h. omega arith;
  place = λ n k w u m q. inr (inl ((λ x. u (record { is_row = x.is_row; older = x.older })), w));
  shared = λ n h u. record { key = refl; birth = refl; stamp = refl; height = refl; value = refl; link = λ e. relink_other s.link r d v n e (not_shared s r d n live u) };
  unlinked = λ n h u m. absurd (u m);
  gone = λ n h u. refl;
  value = λ n h z. absurd (z refl);
  entered = omega arith;
  none_enters = λ q z. z;
  quiet = λ z. absurd (writing z);
}

pub splice_evolves : (s : State) (parent : ℕ) (d : Side) (row : ℕ) → MaySplice s parent d row → Evolves s (spliced s parent d)
splice_evolves s parent d row may = link_evolves s parent d (s.links parent d) (relink s.pending parent d plain) may.parent_live may.writing

pub lower_evolves : (s : State) (row : ℕ) (d : Side) (raised : ℕ) → MayLinkLowered s row d raised → Evolves s (lowered_linked s row d raised)
lower_evolves s row d raised may = link_evolves s row d (s.link raised (other d)) (relink s.pending row d (lowering (s.link raised (other d)))) (inr may.live) may.writing

pub lift_evolves : (s : State) (row : ℕ) (d : Side) (raised : ℕ) → MayLinkRaised s row d raised → Evolves s (raised_linked s row d raised)
lift_evolves s row d raised may = link_evolves s raised (other d) row (relink s.pending raised (other d) (raising row)) (inr may.raised_live) may.writing

pub clear_evolves : (s : State) (row : ℕ) → MayClearShrinking s row → Evolves s (shrinking_cleared s row)
clear_evolves s row may =
    let away : (n : ℕ) → n ≢ row → changed s.stamp row (s.stamp row + 2) n ≡ s.stamp n = λ n z. changed_other s.stamp row (s.stamp row + 2) n z in
    record {
      history = begins_refl s.history;
      linked = λ n h. h;
      epoch = omega arith;
      key = λ n h. refl;
      birth = λ n h. refl;
      stamp = λ n h. stamp_up s row 2 n;
      place = λ n k w u m q. inr (inl ((λ x. u (record { is_row = x.is_row; older = x.older })), w));
      shared = λ n h u. record { key = refl; birth = refl; stamp = away n (not_shared s row Left n (inr may.live) u); height = refl; value = refl; link = λ e. refl };
      unlinked = λ n h u m. dite (ℕ_discrete n row)
          (λ q. let g : IsUnlinked (s.stamp row + 2) = subst IsUnlinked (changed_same s.stamp row (s.stamp row + 2)) (subst (λ (x : ℕ). IsUnlinked (changed s.stamp row (s.stamp row + 2) x)) q m) in let f = may.marked in absurd (omega arith))
          (λ q. absurd (u (subst IsUnlinked (away n q) m)));
      gone = λ n h u. refl;
      value = λ n h z. absurd (z refl);
      entered = omega arith;
      none_enters = λ q z. z;
      quiet = λ z. absurd (may.writing z);
    }

pub height_evolves : (s : State) (row x : ℕ) → MayStoreHeight s row → Evolves s (height_stored s row x)
height_evolves s row x may = record {
  history = begins_refl s.history;
  linked = λ n h. h;
  epoch = omega arith;
  key = λ n h. refl;
  birth = λ n h. refl;
  stamp = λ n h. omega arith;
  place = λ n k w u m q. inr (inl ((λ y. u (record { is_row = y.is_row; older = y.older })), way_with_height row x s.tree k n w));
  shared = λ n h u. record { key = refl; birth = refl; stamp = refl; height = changed_other s.height row x n (not_shared s row Left n (inr may.live) u); value = refl; link = λ e. refl };
  unlinked = λ n h u m. absurd (u m);
  gone = λ n h u. refl;
  value = λ n h z. absurd (z refl);
  entered = omega arith;
  none_enters = λ q z. z;
  quiet = λ z. absurd (may.writing z);
}

pub leaf_evolves : (s : State) (parent : ℕ) (d : Side) (row : ℕ) (e : Entry) → MayLinkLeaf s parent d row e → Evolves s (leaf_linked s parent d row e)
leaf_evolves s parent d row e may = record {
  history = record { rest = e ∷ []; is = refl };
  linked = λ n h. inr h;
  epoch = omega arith;
  key = λ n h. refl;
  birth = λ n h. refl;
  stamp = λ n h. omega arith;
  place = λ n k w u m q. inr (inl ((λ y. u (record { is_row = y.is_row; older = y.older })), way_grown parent d (leaf_of row e) s.tree k n w));
  shared = λ n h u. record { key = refl; birth = refl; stamp = refl; height = refl; value = refl; link = λ x. relink_other s.link parent d row n x (not_shared s parent d n may.parent_live u) };
  unlinked = λ n h u m. absurd (u m);
  gone = λ n h u. refl;
  value = λ n h z. absurd (z refl);
  entered = omega arith;
  none_enters = λ q z. z;
  quiet = λ z. absurd (may.writing z);
}

pub linked_other : (s : State) (row n : ℕ) → MayStoreOwn s row → WasLinked s n → n ≢ row
linked_other s row n may (inl z) e = let p = may.is_row in omega (arith, z, e)
linked_other s row n may (inr h) e = may.fresh (subst (λ (x : ℕ). In x s.linked) e h)

pub own_evolves : (s : State) (row k b h v : ℕ) (l : Side → ℕ) → TreeOk s → MayStoreOwn s row → Evolves s (own_stored s row k b h v l)
own_evolves s row k b h v l tree_ok may =
    let same : (n : ℕ) → n ≢ row → SameRow s (own_stored s row k b h v l) n = λ n z. record { key = changed_other s.key row k n z; birth = changed_other s.birth row b n z; stamp = refl; height = changed_other s.height row h n z; value = changed_other s.value row v n z; link = λ d. ap (λ (f : Side → ℕ). f d) (changed_other s.link row l n z) } in
    record {
      history = begins_refl s.history;
      linked = λ n i. i;
      epoch = omega arith;
      key = λ n i. (same n (linked_other s row n may (inr i))).key;
      birth = λ n i. (same n (linked_other s row n may (inr i))).birth;
      stamp = λ n i. omega arith;
      place = λ n j w u m q. inr (inl ((λ y. u (record { is_row = y.is_row; older = subst (λ (x : ℕ). x < s.epoch) (same n (linked_other s row n may (inr (tree_ok.rows n (way_stands s.tree j n w)).0))).birth y.older })), w));
      shared = λ n i u. same n (linked_other s row n may (inr i));
      unlinked = λ n i u m. absurd (u m);
      gone = λ n i u. (same n (linked_other s row n may (inr i))).value;
      value = λ n i z. absurd (z (same n (linked_other s row n may (inr i))).value);
      entered = omega arith;
      none_enters = λ q z. z;
      quiet = λ z n i. (same n (linked_other s row n may i), refl);
    }

pub lock_evolves : (s : State) (row x : ℕ) → s.writers ≢ 0 → Evolves s (lock_stored s row x)
lock_evolves s row x writing = record {
  history = begins_refl s.history;
  linked = λ n h. h;
  epoch = omega arith;
  key = λ n h. refl;
  birth = λ n h. refl;
  stamp = λ n h. omega arith;
  place = λ n k w u m q. inr (inl ((λ y. u (record { is_row = y.is_row; older = y.older })), w));
  shared = λ n h u. record { key = refl; birth = refl; stamp = refl; height = refl; value = refl; link = λ e. refl };
  unlinked = λ n h u m. absurd (u m);
  gone = λ n h u. refl;
  value = λ n h z. absurd (z refl);
  entered = omega arith;
  none_enters = λ q z. z;
  quiet = λ z. absurd (writing z);
}

pub header_evolves : (s : State) (g a w : ℕ) → MayCount s g a w → Evolves s (header_stored s g a w)
header_evolves s g a w may = record {
  history = begins_refl s.history;
  linked = λ n h. h;
  epoch = omega arith;
  key = λ n h. refl;
  birth = λ n h. refl;
  stamp = λ n h. omega arith;
  place = λ n k w u m q. inr (inl ((λ y. u (record { is_row = y.is_row; older = y.older })), w));
  shared = λ n h u. record { key = refl; birth = refl; stamp = refl; height = refl; value = refl; link = λ e. refl };
  unlinked = λ n h u m. absurd (u m);
  gone = λ n h u. refl;
  value = λ n h z. absurd (z refl);
  entered = may.up;
  none_enters = may.entering;
  quiet = λ z n h. (record { key = refl; birth = refl; stamp = refl; height = refl; value = refl; link = λ e. refl }, refl);
}

-- no step at all
pub same_evolves : (s : State) → Evolves s s
same_evolves s = record {
  history = begins_refl s.history;
  linked = λ n h. h;
  epoch = omega arith;
  key = λ n h. refl;
  birth = λ n h. refl;
  stamp = λ n h. omega arith;
  place = λ n k w u m q. inr (inl (u, w));
  shared = λ n h u. same_row s n;
  unlinked = λ n h u m. absurd (u m);
  gone = λ n h u. refl;
  value = λ n h z. absurd (z refl);
  entered = omega arith;
  none_enters = λ e z. z;
  quiet = λ z n h. (same_row s n, refl);
}
