-- What passes know of the rows that are being lowered.
use Rattle.std.proofs.Common.{◌≡◌, ◌≢◌, ℕ, inl, inr, Some, refl, ap, sym, ◌∙◌, subst}
use Rattle.snap_stamp.specs.declared.side.Side.{Side}
use Rattle.snap_rule.specs.State.{State, In}
use Rattle.snap_rule.specs.Evolves.{Evolves}
use Rattle.snap_rule.specs.Rule.{IsLive, TableOk, opened}
use Rattle.snap_rule.specs.Kinds.Rotation.{parent_linked}
use Rattle.snap_rule.specs.Debt.{no_debt, IsListed, DebtOk}
use Rattle.snap_rule.specs.declared.debt.Debt.{Debt}
use Rattle.snap_rule.specs.Debt.Lists.{noted}
use Rattle.snap_rule.specs.Debt.Kinds.{raise_debt}
use Rattle.snap_rule.specs.Debt.Changes.{Turning, AimsAtTurn, DebtDoing}
use Rattle.snap_rule.proofs.Debts.{noted_here}
use Rattle.snap_rule.specs.declared.change.Doing.{Doing}
use Rattle.snap_rule.specs.Doing.{DoingOk, Concerns}
use Rattle.snap_rule.specs.declared.change.Doing.TheVariants.{Nothing, Unlinked, Shrunk, Lowered, Lifted, Turned}

-- what a pass knows of its debt that has raised a row
pub raise_turns : (s : State) (parent : ℕ) (p : Side) (row : ℕ) (d : Side) (raised : ℕ) (v : Debt) → row ≢ 0
    → Turning (parent_linked s parent p row d raised) (raise_debt s parent row raised v) row
raise_turns s parent p row d raised v z = record { turning = refl; owes = noted_here s row (noted s raised (noted s parent v.list)) z }

pub turn_kept : (s s' : State) (v : Debt) (row raised : ℕ) → Evolves s s' → In row s.linked → In raised s.linked → s'.stamp row ≡ s.stamp row
    → Turning s v row × AimsAtTurn s v row raised
    → Turning s' v row × AimsAtTurn s' v row raised
turn_kept s s' v row raised ev h i e t = (
  record { turning = t.0.turning; owes = subst (λ (x : ℕ). IsListed row x v.list) (sym e) t.0.owes },
  elim t.1 [ inl y ↦ inl (y ∙ ap Some (sym (ev.key row h))) | inr y ↦ inr (y ∙ ap Some (sym (ev.key raised i))) ],
)

pub opens_owes : DebtOk opened (λ j. no_debt)
opens_owes = record {
  settled = λ n h. absurd h;
  each = λ j. record { past = λ n x h. absurd h; owed = λ n h. absurd h };
  alone = λ i j n t o. absurd o;
}

same_row : (v : Debt) (row n : ℕ) → v.turning ≡ Some row → v.turning ≡ Some n → n ≡ row
same_row v row n p q = go (sym q ∙ p)
  where
    go : Some n ≡ Some row → n ≡ row
    go e = cc e

-- the row that a pass turns is a row of its change
pub turned_row : (s : State) (g : Doing) (v : Debt) (n : ℕ) → DebtDoing s g v → v.turning ≡ Some n → Concerns g n
turned_row s Nothing v n h t = cc (h, t)
turned_row s (Unlinked parent d row only) v n h t = cc (h, t)
turned_row s (Shrunk parent p row d raised) v n h t = inr (inl (same_row v row n h.0.turning t))
turned_row s (Lowered parent p row d raised) v n h t = inr (inl (same_row v row n h.0.turning t))
turned_row s (Lifted parent p row d raised) v n h t = inr (inl (same_row v row n h.0.turning t))
turned_row s (Turned row) v n h t = same_row v row n h.turning t

-- a step of another pass leaves a pass in a change what it knows of its debt
module _ (s s' : State) (ok : TableOk s) (ev : Evolves s s') where
  linked_live : (n : ℕ) → IsLive s n → In n s.linked
  linked_live n l = (ok.tree.rows n l.stands).0

  still : (v : Debt) (row : ℕ) → s'.stamp row ≡ s.stamp row → Turning s v row → Turning s' v row
  still v row e t = record { turning = t.turning; owes = subst (λ (x : ℕ). IsListed row x v.list) (sym e) t.owes }

  pub debt_doing_kept : (g : Doing) (v : Debt) → DoingOk s g → ((n : ℕ) → In n s.linked → Concerns g n → s'.stamp n ≡ s.stamp n) → DebtDoing s g v
      → DebtDoing s' g v
  debt_doing_kept Nothing v d f h = h
  debt_doing_kept (Unlinked parent x row only) v d f h = h
  debt_doing_kept (Shrunk parent p row x raised) v d f h = let r = linked_live row d.turn.live in turn_kept s s' v row raised ev r (linked_live raised d.turn.raised_live) (f row r (inr (inl refl))) h
  debt_doing_kept (Lowered parent p row x raised) v d f h = let r = linked_live row d.turn.live in turn_kept s s' v row raised ev r (linked_live raised d.turn.raised_live) (f row r (inr (inl refl))) h
  debt_doing_kept (Lifted parent p row x raised) v d f h = let r = linked_live row d.turn.live in turn_kept s s' v row raised ev r (linked_live raised d.turn.raised_live) (f row r (inr (inl refl))) h
  debt_doing_kept (Turned row) v d f h = still v row (f row (linked_live row d.live) refl) h
