-- Silent steps, by which no debt changes, and which kinds are silent.
use Rattle.std.proofs.Common.{◌≡◌, ◌≢◌, ℕ, refl, sym, ◌∙◌, subst, arith, inl, inr}
use Rattle.snap_stamp.specs.declared.side.Side.{Side}
use Rattle.snap_rule.specs.Tree.{Stands, Tree, OnWay}
use Rattle.snap_rule.specs.State.{State, In}
use Rattle.snap_rule.specs.Rule.{TableOk}
use Rattle.snap_rule.specs.Updates.{changed}
use Rattle.snap_rule.specs.Kinds.Words.{own_stored, MayStoreOwn, lock_stored, header_stored}
use Rattle.snap_rule.specs.Settled.{height_at}
use Rattle.snap_rule.specs.Debt.Step.{IsSilent}
use Rattle.snap_rule.proofs.Updates.{changed_other}
use Rattle.snap_rule.proofs.Trees.Unique.{child_stands}
use Rattle.snap_rule.proofs.Debts.{settled_same, same_live}
use Rattle.snap_rule.proofs.Debts.Turns.{height_at_other}
use Rattle.snap_model.specs.declared.call.Entry.{Entry}
use Rattle.snap_rule.specs.Kinds.Entries.{absent_confirmed}
use Rattle.snap_rule.specs.Kinds.Unlinking.{spliced}
use Rattle.snap_rule.specs.Kinds.Rotation.{lowered_linked, raised_linked}
use Rattle.snap_rule.specs.declared.debt.Debt.{Debt}
use Rattle.snap_rule.specs.Debt.{IsListed, DebtOk}

pub silent_owes : (s s' : State) (debts : ℕ → Debt) → IsSilent s s' → DebtOk s debts → DebtOk s' debts
silent_owes s s' debts q ok = record {
  settled = λ n h. let i = subst (λ (t : Tree). Stands n t) q.tree h in elim (ok.settled n i) [ inl a ↦ inl (q.settled n i a) | inr o ↦ inr (record { pass = o.pass; owes = subst (λ (x : ℕ). IsListed n x (debts o.pass).list) (sym (q.stamp n)) o.owes }) ];
  each = λ j. let u = ok.each j in record {
    past = λ n x h. let p = u.past n x h in let e = q.stamp n in (q.linked n p.0, omega (arith, p.1));
    owed = λ n h. let o = u.owed n (subst (λ (x : ℕ). IsListed n x (debts j).list) (q.stamp n) h) in
        (record { stands = subst (λ (t : Tree). Stands n t) (sym q.tree) o.0.stands; own = q.live n o.0 }, record { key = o.1.key; to_do = o.1.to_do; way = subst (λ (t : Tree). OnWay t o.1.key n) (sym q.tree) o.1.way });
  };
  alone = λ i j n t o. ok.alone i j n t (subst (λ (x : ℕ). IsListed n x (debts i).list) (q.stamp n) o);
}

pub absent_silent : (s : State) (e : Entry) → IsSilent s (absent_confirmed s e)
absent_silent s e = record {
  linked = λ n h. h;
  stamp = λ n. refl;
  tree = refl;
  live = λ n l. same_live s (absent_confirmed s e) n refl refl l;
  settled = λ n h a. a;
}

pub lock_silent : (s : State) (row x : ℕ) → IsSilent s (lock_stored s row x)
lock_silent s row x = record {
  linked = λ n h. h;
  stamp = λ n. refl;
  tree = refl;
  live = λ n l. same_live s (lock_stored s row x) n refl refl l;
  settled = λ n h a. a;
}

pub header_silent : (s : State) (g a w : ℕ) → IsSilent s (header_stored s g a w)
header_silent s g a w = record {
  linked = λ n h. h;
  stamp = λ n. refl;
  tree = refl;
  live = λ n l. same_live s (header_stored s g a w) n refl refl l;
  settled = λ n h x. x;
}

pub splice_silent : (s : State) (parent : ℕ) (d : Side) → IsSilent s (spliced s parent d)
splice_silent s parent d = record {
  linked = λ n h. h;
  stamp = λ n. refl;
  tree = refl;
  live = λ n l. same_live s (spliced s parent d) n refl refl l;
  settled = λ n h x. x;
}

pub lower_silent : (s : State) (row : ℕ) (d : Side) (raised : ℕ) → IsSilent s (lowered_linked s row d raised)
lower_silent s row d raised = record {
  linked = λ n h. h;
  stamp = λ n. refl;
  tree = refl;
  live = λ n l. same_live s (lowered_linked s row d raised) n refl refl l;
  settled = λ n h x. x;
}

pub lift_silent : (s : State) (row : ℕ) (d : Side) (raised : ℕ) → IsSilent s (raised_linked s row d raised)
lift_silent s row d raised = record {
  linked = λ n h. h;
  stamp = λ n. refl;
  tree = refl;
  live = λ n l. same_live s (raised_linked s row d raised) n refl refl l;
  settled = λ n h x. x;
}

-- a row of its own is filled
pub own_silent : (s : State) (row k b h v : ℕ) (l : Side → ℕ) → TableOk s → MayStoreOwn s row → IsSilent s (own_stored s row k b h v l)
own_silent s row k b h v l ok may = record {
  linked = λ n i. i;
  stamp = λ n. refl;
  tree = refl;
  live = λ n i. same_live s (own_stored s row k b h v l) n (changed_other s.birth row b n (fresh n i.stands)) refl i;
  settled = λ n i. settled_same s (own_stored s row k b h v l) n n (changed_other s.height row h n (fresh n i)) (λ y z. y (sym (changed_other s.value row v n (fresh n i)) ∙ z)) (λ d y. y)
      (λ d. below n d i);
}
  where
    fresh : (n : ℕ) → Stands n s.tree → n ≢ row
    fresh n i e = may.fresh (subst (λ (x : ℕ). In x s.linked) e (ok.tree.rows n i).0)

    below : (n : ℕ) (d : Side) → Stands n s.tree → height_at (changed s.height row h) (s.links n d) ≡ height_at s.height (s.links n d)
    below n d i = height_at_other s.height row h (s.links n d) (λ e. fresh (s.links n d) (child_stands s s.links s.tree n d ok.tree.reads i (λ z. let p = may.is_row in omega arith)) e)
