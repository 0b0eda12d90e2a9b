-- One law for the whole step.
use Rattle.std.proofs.Common.{◌≡◌, ◌≢◌, ℕ, zero, suc, ◌⊎◌, inl, inr, List, [], ◌∷◌, Some, refl, ap, sym, ◌∙◌, subst, arith}
use Rattle.snap_model.specs.History.{Begins}
use Rattle.snap_model.specs.declared.call.Entry.{Entry}
use Rattle.snap_stamp.specs.declared.side.Side.{Side}
use Rattle.snap_rule.specs.State.{State, WasLinked}
use Rattle.snap_rule.specs.Evolves.{Evolves}
use Rattle.snap_rule.specs.Rule.{TreeOk, TableOk, IsParent}
use Rattle.snap_rule.specs.Doing.{Concerns, DoingOk, Apart}
use Rattle.snap_rule.specs.declared.change.Doing.{Doing}
use Rattle.snap_rule.specs.declared.change.Doing.TheVariants.{Nothing, Unlinked, Shrunk, Lowered, Lifted, Turned}
use Rattle.snap_rule.specs.Views.{View, ReadingOk, TryingOk, ViewOk, at_seat, with_seat, HoldsFor, LeavesOthers}
use Rattle.snap_rule.specs.declared.quiescence.Trying.{Trying}
use Rattle.snap_rule.specs.declared.reader.Reading.{Reading}
use Rattle.snap_rule.specs.declared.reader.Reading.TheVariants.{Resting, On}
use Rattle.snap_rule.specs.declared.quiescence.Trying.TheVariants.{Idle, Since, Troubled}
use Rattle.snap_rule.proofs.Moments.{begins_trans}
use Rattle.snap_rule.proofs.Readers.Kept.{point_kept}
use Rattle.snap_rule.proofs.Quiet.{quiet_kept}
use Rattle.snap_rule.proofs.Calm.{calm_kept}
use Rattle.snap_rule.proofs.InChange.{doing_kept}

-- the seat that a step changes, or another
pub seat_back : (views : List View) (id j : ℕ) (w u : View) → at_seat (with_seat views id w) j ≡ Some u
    → ((j ≡ id) × (u ≡ w)) ⊎ (j ≢ id) × (at_seat views j ≡ Some u)
seat_back [] id j w u e = inr ((λ q. cc e), e)
seat_back (v ∷ vs) zero zero w u e = inl (refl, cc e)
seat_back (v ∷ vs) zero (suc j) w u e = inr ((λ q. omega (arith, q)), e)
seat_back (v ∷ vs) (suc id) zero w u e = inr ((λ q. omega (arith, q)), e)
seat_back (v ∷ vs) (suc id) (suc j) w u e = elim (seat_back vs id j w u e) [ inl q ↦ inl (ap suc q.0, q.1) | inr q ↦ inr ((λ x. q.0 (omega (arith, x))), q.1) ]

-- the rows of a change were linked
linked_parent : (s : State) (n : ℕ) (d : Side) → TreeOk s → IsParent s n d → WasLinked s n
linked_parent s n d ok (inl z) = inl z.0
linked_parent s n d ok (inr l) = inr (ok.rows n l.stands).0

concerned : (s : State) (g : Doing) (n : ℕ) → TreeOk s → DoingOk s g → Concerns g n → WasLinked s n
concerned s Nothing n ok h c = absurd c
concerned s (Unlinked parent d row only) n ok h c = subst (WasLinked s) (sym c) (linked_parent s parent d ok h.parent_live)
concerned s (Shrunk parent p row d raised) n ok h (inl c) = subst (WasLinked s) (sym c) (linked_parent s parent p ok h.turn.parent_live)
concerned s (Shrunk parent p row d raised) n ok h (inr (inl c)) = subst (WasLinked s) (sym c) (inr (ok.rows row h.turn.live.stands).0)
concerned s (Shrunk parent p row d raised) n ok h (inr (inr c)) = subst (WasLinked s) (sym c) (inr (ok.rows raised h.turn.raised_live.stands).0)
concerned s (Lowered parent p row d raised) n ok h (inl c) = subst (WasLinked s) (sym c) (linked_parent s parent p ok h.turn.parent_live)
concerned s (Lowered parent p row d raised) n ok h (inr (inl c)) = subst (WasLinked s) (sym c) (inr (ok.rows row h.turn.live.stands).0)
concerned s (Lowered parent p row d raised) n ok h (inr (inr c)) = subst (WasLinked s) (sym c) (inr (ok.rows raised h.turn.raised_live.stands).0)
concerned s (Lifted parent p row d raised) n ok h (inl c) = subst (WasLinked s) (sym c) (linked_parent s parent p ok h.turn.parent_live)
concerned s (Lifted parent p row d raised) n ok h (inr (inl c)) = subst (WasLinked s) (sym c) (inr (ok.rows row h.turn.live.stands).0)
concerned s (Lifted parent p row d raised) n ok h (inr (inr c)) = subst (WasLinked s) (sym c) (inr (ok.rows raised h.turn.raised_live.stands).0)
concerned s (Turned row) n ok h c = subst (WasLinked s) (sym c) (inr (ok.rows row h.live.stands).0)

module _ (s s' : State) (ev : Evolves s s') where
  reading_kept : (seen : List Entry) (r : Reading) → Begins seen s.history → ReadingOk s seen r → ReadingOk s' seen r
  reading_kept seen Resting b h = tt
  reading_kept seen (On k t) b h = point_kept s s' ev seen k t b h

  pub trying_kept : (t : Trying) → TryingOk s t → TryingOk s' t
  trying_kept Idle h = tt
  trying_kept (Since ended l low high c) h = (quiet_kept s s' ended l ev h.0, calm_kept s s' ended low high c l ev h.0 h.1)
  trying_kept (Troubled ended) h = omega (arith, ev.entered, h)

  -- another pass's view
  view_kept : (u : View) (who : ℕ) → TreeOk s → u.who ≢ who → LeavesOthers s s' who → ViewOk s u → ViewOk s' u
  view_kept u who ok z left h =
      let away : (n : ℕ) → Concerns u.doing n → Apart s s' n × (s'.lock n ≡ s.lock n) = λ n c. let l = h.held n c in left n (concerned s u.doing n ok h.doing c) (λ q. omega arith) (λ q. z (omega arith)) in
      record {
        seen = begins_trans u.seen s.history s'.history h.seen ev.history;
        reads = reading_kept u.seen u.reads h.seen h.reads;
        tries = trying_kept u.tries h.tries;
        doing = doing_kept s s' u.doing (λ n c. (away n c).0) h.doing;
        held = λ n c. (away n c).1 ∙ h.held n c;
      }

pub step_holds : (s s' : State) (views : List View) (id : ℕ) (v w : View) → HoldsFor s views → at_seat views id ≡ Some v → w.who ≡ v.who → Evolves s s'
    → TableOk s' → LeavesOthers s s' v.who → ViewOk s' w
    → HoldsFor s' (with_seat views id w)
step_holds s s' views id v w h at same ev ok left new = record {
  table = ok;
  each = λ j u e. elim (seat_back views id j w u e) [
    | inl q ↦ subst (ViewOk s') (sym q.1) new
    | inr q ↦ view_kept s s' ev u v.who h.table.tree (λ x. q.0 (h.alone j id u v q.1 at x)) left (h.each j u q.1)
  ];
  alone = λ i j u x a b e. elim (seat_back views id i w u a) [
    | inl p ↦ elim (seat_back views id j w x b) [
      | inl q ↦ p.0 ∙ sym q.0
      | inr q ↦ absurd (q.0 (h.alone j id x v q.1 at (sym e ∙ ap (λ (y : View). y.who) p.1 ∙ same)))
    ]
    | inr p ↦ elim (seat_back views id j w x b) [
      | inl q ↦ absurd (p.0 (h.alone i id u v p.1 at (e ∙ ap (λ (y : View). y.who) q.1 ∙ same)))
      | inr q ↦ h.alone i j u x p.1 q.1 e
    ]
  ];
}
