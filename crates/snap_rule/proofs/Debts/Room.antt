-- Room to repair, and the reasons that take it away.
use Rattle.std.proofs.Common.{◌≡◌, ℕ, ◌<◌, ◌≤◌, ◌/◌, ◌⊎◌, inl, inr, List, [], ◌∷◌, refl, ap, sym, ◌∙◌, subst, arith}
use native.Mathlib.Decide.{dec_lt}
use mathlib.Core.Logic.{dite}
use Rattle.snap_rule.specs.State.{State, In, WasLinked}
use Rattle.snap_rule.specs.Evolves.{Evolves}
use Rattle.snap_rule.specs.Rule.{TableOk}
use Rattle.snap_rule.specs.Debt.{DebtOk}
use Rattle.snap_rule.specs.Room.{HasReason, StampOut, HasRoom}
use Rattle.snap_rule.specs.declared.debt.Debt.{Debt}

-- room
pub room_before : (s s' : State) (next next' rows : ℕ) → Evolves s s' → next ≤ next' → HasRoom s' next' rows → HasRoom s next rows
room_before s s' next next' rows ev up room = record {
  rows_left = (let r = room.rows_left in omega arith);
  stamps = λ n h. below (s.stamp n) (s'.stamp n) (ev.stamp n h) (room.stamps n (later n h));
}
  where
    later : (n : ℕ) → WasLinked s n → WasLinked s' n
    later n (inl z) = inl z
    later n (inr h) = inr (ev.linked n h)

    below : (x y : ℕ) → x ≤ y → y / 4 < 4611686018427387903 → x / 4 < 4611686018427387903
    below x y l h = omega arith

pub reason_lasts : (s s' : State) (next next' rows : ℕ) → Evolves s s' → next ≤ next' → HasReason s next rows
    → HasReason s' next' rows × ¬ HasRoom s next rows
reason_lasts s s' next next' rows ev up (inl h) = (inl (omega arith), λ r. let l = r.rows_left in omega arith)
reason_lasts s s' next next' rows ev up (inr o) = (
  inr (record { row = o.row; linked = later o.linked; last = above (s.stamp o.row) (s'.stamp o.row) (ev.stamp o.row o.linked) o.last }),
  λ r. let l = r.stamps o.row o.linked in let m = o.last in omega arith,
)
  where
    later : WasLinked s o.row → WasLinked s' o.row
    later (inl z) = inl z
    later (inr h) = inr (ev.linked o.row h)

    above : (x y : ℕ) → x ≤ y → 4611686018427387903 ≤ x / 4 → 4611686018427387903 ≤ y / 4
    above x y l h = omega arith

stamp_search : (s : State) (l : List ℕ) → ((n : ℕ) → In n l → In n s.linked) → StampOut s ⊎ ((n : ℕ) → In n l → s.stamp n / 4 < 4611686018427387903)
stamp_search s [] f = inr (λ n h. absurd h)
stamp_search s (r ∷ l) f = dite (dec_lt (s.stamp r / 4) 4611686018427387903)
    (λ y. elim (stamp_search s l (λ n h. f n (inr h))) [ inl o ↦ inl o | inr g ↦ inr (both y g) ])
    (λ z. inl (record { row = r; linked = inr (f r (inl refl)); last = (let w : ¬ s.stamp r / 4 < 4611686018427387903 = z in omega arith) }))
  where
    both : s.stamp r / 4 < 4611686018427387903 → ((n : ℕ) → In n l → s.stamp n / 4 < 4611686018427387903) → (n : ℕ) → In n (r ∷ l)
        → s.stamp n / 4 < 4611686018427387903
    both y g n (inl e) = subst (λ (x : ℕ). s.stamp x / 4 < 4611686018427387903) (sym e) y
    both y g n (inr h) = g n h

pub stamp_found : (s : State) (next rows : ℕ) → TableOk s → next < rows → HasRoom s next rows ⊎ StampOut s
stamp_found s next rows ok l = elim (stamp_search s s.linked (λ n h. h)) [ inl o ↦ inr o | inr g ↦ inl (record { rows_left = l; stamps = each g }) ]
  where
    each : ((n : ℕ) → In n s.linked → s.stamp n / 4 < 4611686018427387903) → (n : ℕ) → WasLinked s n → s.stamp n / 4 < 4611686018427387903
    each g n (inl z) = let e : s.stamp n ≡ 0 = ap s.stamp z ∙ ok.links.zero_stamp in omega arith
    each g n (inr h) = g n h

pub under_room : (s s' : State) (next next' rows : ℕ) (debts debts' : ℕ → Debt) → Evolves s s' → next ≤ next'
    → (HasRoom s next rows → DebtOk s debts → DebtOk s' debts') → (HasRoom s next rows → DebtOk s debts) → HasRoom s' next' rows
    → DebtOk s' debts'
under_room s s' next next' rows debts debts' ev up law ok room = let r = room_before s s' next next' rows ev up room in law r (ok r)
