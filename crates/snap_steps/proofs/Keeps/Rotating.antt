-- The steps of a rotation inside it keep the rule, and so does its last.
use Rattle.std.proofs.Common.{◌≡◌, ◌≢◌, ◌<◌, ◌≤◌, ◌+◌, ◌%◌, ◌∙◌, inl, inr, ℕ, refl, sym, ap, subst, arith, List, length, set, Some, None, Option}
use lib.ListN.{get_elem?}
use mathlib.Core.Logic.{dite}
use mathlib.Core.Option.{some, some-injective}
use mathlib.Core.Option as maybe
use native.Mathlib.Decide.{ℕ_discrete}
use Rattle.atomic_table.specs.Table.{step, keeps, Allows}
use Rattle.snap_rule.proofs.Debts.Silent.{silent_owes, lower_silent, lift_silent}
use Rattle.snap_rule.proofs.Debts.Turns.{clear_owes}
use Rattle.snap_rule.proofs.Evolving.Silent.{lower_evolves, lift_evolves, clear_evolves}
use Rattle.snap_rule.proofs.InChange.{lower_doing, lift_doing, clear_doing}
use Rattle.snap_rule.proofs.LeftAlone.{lower_apart, lift_apart, clear_apart}
use Rattle.snap_rule.proofs.Table.{lower_keeps, lift_keeps, clear_keeps}
use Rattle.snap_rule.proofs.Updates.{relink_away, changed_same}
use Rattle.snap_rule.specs.Debt.{DebtOk, Owes}
use Rattle.snap_rule.specs.Debt.Changes.{DebtDoing, Turning}
use Rattle.snap_rule.specs.Debt.Kinds.{clear_debt}
use Rattle.snap_rule.specs.Doing.{Concerns, DoingOk}
use Rattle.snap_rule.specs.Kinds.Rotation as kinds
use Rattle.snap_rule.specs.Rule.{IsLive}
use Rattle.snap_rule.specs.State.{State as Table, Beside}
use Rattle.snap_rule.specs.State.Change.{plain, lowering, raising}
use Rattle.snap_rule.specs.Updates as updates
use Rattle.snap_rule.specs.declared.change.Doing.{Doing}
use Rattle.snap_rule.specs.declared.change.Doing.TheVariants.{Nothing, Shrunk, Lowered, Lifted, Turned}
use Rattle.snap_rule.specs.declared.debt.Debt.{Debt}
use Rattle.snap_rule.specs.declared.debt.Mark.{Mark}
use Rattle.snap_stamp.specs.Layout.{word_at}
use Rattle.snap_stamp.specs.Sides.{other}
use Rattle.snap_stamp.specs.Stamps.{IsLowering, IsShrinking}
use Rattle.snap_stamp.specs.declared.layout.Field.{Field}
use Rattle.snap_stamp.specs.declared.layout.Field.TheVariants.{Stamp, Lock}
use Rattle.snap_stamp.specs.declared.side.Side.{Side}
use Rattle.snap_steps.specs.Numbers.{times_drawn}
use Rattle.snap_steps.specs.Counting.{times}
use Rattle.snap_steps.specs.Facts.{IsKnown}
use Rattle.snap_steps.specs.Memory.{Row, row, field, with_field}
use Rattle.snap_steps.specs.Rule.{Kept}
use Rattle.snap_steps.specs.Rule.Changes.{at_link, changing}
use Rattle.snap_steps.specs.Rule.Debts.{debts_of}
use Rattle.snap_steps.specs.Rule.Marks.{lowers}
use Rattle.snap_steps.specs.Stages.{in_write}
use Rattle.snap_steps.specs.States.{state_of, link_field, with_word}
use Rattle.snap_steps.specs.Steps.Rotating.{lowered, lowered_stored, lifted, lifted_stored, cleared, cleared_stored}
use Rattle.snap_steps.specs.Steps.Told.{Sat}
use Rattle.snap_steps.specs.declared.rule.About.{About}
use Rattle.snap_steps.specs.declared.view.View.{View}
use Rattle.snap_steps.proofs.Cells.{changed, cell_set, row_same, row_other, field_same, field_other}
use Rattle.snap_steps.proofs.Classes.Entering.{some_write}
use Rattle.snap_steps.proofs.Classes.Rewriting.{rewriting}
use Rattle.snap_steps.proofs.Classes.Turning.{Rule}
use Rattle.snap_steps.proofs.EachView.{each_others, none_total}
use Rattle.snap_steps.proofs.Keeps.Leaf.{with_link, no_lock}
use Rattle.snap_steps.proofs.Keeps.Unlinking.{same_live, at_same}
use Rattle.snap_steps.proofs.Knowing.{facts_elsewhere, facts_left, known_is}
use Rattle.snap_steps.proofs.Owing.{held_free, listing_is}
use Rattle.snap_steps.proofs.Parts.Apart.{apart_changed}
use Rattle.snap_steps.proofs.Parts.Counts.{in_write_le}
use Rattle.snap_steps.proofs.Parts.Debts.{debts_at, owed_itself}
use Rattle.snap_steps.proofs.Parts.Heights.{leaves_apart, heights_same, heights_kept, heights_plain, link_height}
use Rattle.snap_steps.proofs.Parts.Locks.{others_apart, locks_stay}
use Rattle.snap_steps.proofs.Parts.Marks.{stamps_same, link_stamp}
use Rattle.snap_steps.proofs.States.{sets}
use Rattle.snap_steps.proofs.Tables.{Moves, in_times, none_changing}
use Rattle.snap_steps.proofs.Totals.{total-set, term_le, one_other}

-- nothing is pending at a link of a held row that the pass's own change leaves alone
pub held_still : {about : About} {words : List ℕ} {views : List View} (k : Kept about words views) (id : ℕ) (v : View) → get_elem? views id ≡ some v → (n : ℕ) (d : Side) → 0 < times n v.holds → changing n d v.doing ≡ 0 → k.g.pending n d ≡ plain
held_still {views = views} k id v at n d held none = k.changes n d (none_total (λ u. changing n d u.doing) views (λ j u there. dite (ℕ_discrete j id)
    (λ same. ap (λ (z : View). changing n d z.doing) (some-injective u v (sym there ∙ ap (get_elem? views) same ∙ at)) ∙ none)
    (λ ne. none_changing u.doing u.holds n d (k.held j u there) (others_apart views id v at k.m.rows n k.locked held j u ne there))))

-- `link_lowered`
pub lowers_link : (about : About) (slots id : ℕ) (me : Sat) (parent : ℕ) (p : Side) (r : ℕ) (d : Side) (raised middle : ℕ) → r ≤ about.rows → me.0.doing ≡ Shrunk parent p r d raised → IsKnown me.0.words.knows raised (link_field (other d)) middle
    → Allows (Rule about) slots id me (word_at r (link_field d)) (λ _. middle) (λ _. lowered_stored (step slots (word_at r (link_field d)) middle 0 maybe.none) me 0)
lowers_link about slots id me parent p r d raised middle low change middle_known s k wide at small =
    let v : View = me.0 in let w : View = lowered v parent p r d raised middle in let rows_wide = k.memory.wide in let near : r < length k.m.rows = omega arith in
    let f : Field = link_field d in
    let o : Row = with_field f middle (row k.m.rows r) in let rows' : List Row = changed k.m.rows r f middle in let st : Table = state_of k.m k.g in
    let holds : (n : ℕ) → Concerns (Shrunk parent p r d raised) n → 0 < times n v.holds = λ n c. k.held id v at n (subst (λ (g : Doing). Concerns g n) (sym change) c) in
    let held : 0 < times r v.holds = holds r (inr (inl refl)) in
    let writing : in_write v.stage ≡ 1 = omega (arith, k.locked.writing id v at r, in_write_le v.stage, held) in
    let writers = some_write s.views id v k.g.writers at k.writers writing in
    let doing : DoingOk st (Shrunk parent p r d raised) = subst (DoingOk st) change (k.doing id v at) in
    let free : k.g.pending raised (other d) ≡ plain = held_still k id v at raised (other d) (holds raised (inr (inr refl))) (ap (changing raised (other d)) change) in
    let may = lower_doing st parent p r d raised writers k.table.changes free doing in
    let is_middle : st.link raised (other d) ≡ middle = known_is k.m.rows v.holds v.words.knows raised (link_field (other d)) middle (k.known id v at) middle_known in
    let b : Beside = record k.g { pending = updates.relink k.g.pending r d (lowering (st.link raised (other d))) } in
    let s' : Table = state_of (record k.m { rows = rows' }) b in
    let path : s' ≡ kinds.lowered_linked st r d raised = sets k.m b r f middle near ∙ with_link (state_of k.m b) r d middle ∙ ap (λ (y : ℕ). let z : Table = record (state_of k.m b) { link = updates.relink st.link r d y } in z) (sym is_middle) in
    let away : ℕ → Type 0 = λ (n : ℕ). n ≢ r in
    let moves : Moves st s' away × DoingOk s' (Lowered parent p r d raised) = subst (λ (z : Table). Moves st z away × DoingOk z (Lowered parent p r d raised)) (sym path)
    ((lower_evolves st r d raised may.0, lower_keeps st k.table r d raised may.0, λ n ne. lower_apart st n r d raised ne), may.1) in
    let theirs : (j : ℕ) (u : View) → j ≢ id → get_elem? s.views j ≡ some u → (n : ℕ) → 0 < times n u.holds → n ≢ r = λ j u ne there n c q. omega (arith, c, others_apart s.views id v at k.m.rows r k.locked held j u ne there, ap (λ (i : ℕ). times i u.holds) q) in
    let heights : (n : ℕ) → (row rows' n).height ≡ (row k.m.rows n).height = heights_same k.m.rows r o near (link_height d middle (row k.m.rows r)) in
    let was : (n : ℕ) (e : Side) → changing n e v.doing ≡ 0 = λ n e. ap (changing n e) change in
    let owed : DebtDoing st (Shrunk parent p r d raised) v.debt = subst (λ (g : Doing). DebtDoing st g v.debt) change (k.debts id v at).0 in (
      w,
      keeps,
      tt,
      rewriting about s.words s.views k id v w at (set s.words (word_at r f) middle) rows' b away (cell_set k.memory r f low middle) moves
          (λ n e none. let sum = total-set (λ u. changing n e u.doing) s.views id v w at in let apart : at_link n e r d ≡ 0 = omega (arith, none, sum, was n e) in
          relink_away k.g.pending r d (lowering (st.link raised (other d))) n e (λ q. let one : at_link n e r d ≡ 1 = (λ i. at_link (q.0 i) (q.1 i) r d) ∙ at_same r d in omega (arith, apart, one)) ∙ k.changes n e (omega (arith, none, sum, was n e)))
          holds
          (λ j u ne there n c. theirs j u ne there n (k.held j u there n c))
          (locks_stay s.views id v at k.m.rows r o w k.locked (field_other Lock f middle (row k.m.rows r) (λ z. no_lock d (sym z))) near refl refl refl)
          (each_others s.views id v at w (λ j u ne there. facts_elsewhere k.m.rows r o u.holds u.holds u.words.knows (k.known j u there) (others_apart s.views id v at k.m.rows r k.locked held j u ne there) (λ y. omega arith))
          (ap (field f) (row_same k.m.rows r o near) ∙ field_same f middle (row k.m.rows r), held, facts_left k.m.rows r f middle v.holds v.words.knows near (k.known id v at)))
          (k.reached id v at)
          (apart_changed s.views id v w at k.m.next k.m.rows k.g.linked k.apart (λ u j there. omega (arith, k.drawn.none_zero, term_le (times_drawn 0) s.views j u there)) r o
          (λ y pos z ne. let q = row_other k.m.rows r y o ne in let h = k.apart.fresh y pos z in (ap (λ (i : Row). i.lock) q ∙ h.0, ap (λ (i : Row). i.stamp) q ∙ h.1)) (λ pos. in_times r k.g.linked (k.table.tree.rows r doing.turn.live.stands).0) refl refl refl)
          (λ n none z. k.marked n (omega (arith, none, total-set (λ u. lowers n u.doing) s.views id v w at, ap (lowers n) change)) (subst IsShrinking (stamps_same k.m.rows r o near (link_stamp d middle (row k.m.rows r)) n) z)) (
            (λ j u ne there n c. leaves_apart st s' n (moves.0.2 n (theirs j u ne there n c)) heights),
            heights_kept st s' v.holds v.heights (λ n c. ((λ l. subst (λ (z : Table). IsLive z n) (sym path) (same_live st (kinds.lowered_linked st r d raised) n refl refl refl l)), λ l e. heights_plain s' st n e heights refl)) (k.heights id v at),
            (subst (λ (z : Table). DebtDoing z (Lowered parent p r d raised) v.debt) (sym path) (record { turning = owed.0.turning; owes = owed.0.owes }, owed.1), (λ z. absurd (omega (arith, z, writing)))),
            λ room ok. owed_itself s.views id v at s' (subst (λ (z : Table). DebtOk z (debts_of s.views)) (sym path) (silent_owes st (kinds.lowered_linked st r d raised) (debts_of s.views) (lower_silent st r d raised) ok)),
          ),
      λ parent' row' raised' p' d' same. let q : Shrunk parent p r d raised ≡ Shrunk parent' p' row' d' raised' = sym change ∙ same in told parent' row' raised' p' d' q,
    )
  where
    told : (parent' row' raised' : ℕ) (p' d' : Side) → Shrunk parent p r d raised ≡ Shrunk parent' p' row' d' raised' → (let n : Sat = (lowered me.0 parent p r d raised middle, me.1) in n ≡ (lowered me.0 parent' p' row' d' raised' middle, me.1))
    told parent' row' raised' p' d' q = let a : parent ≡ parent' = cc in let b : p ≡ p' = cc in let c : r ≡ row' = cc in let e : d ≡ d' = cc in let g : raised ≡ raised' = cc in (λ i. (lowered me.0 (a i) (b i) (c i) (e i) (g i) middle, me.1))

-- `link_raised`
pub lifts_link : (about : About) (slots id : ℕ) (me : Sat) (parent : ℕ) (p : Side) (r : ℕ) (d : Side) (raised : ℕ) → raised ≤ about.rows → me.0.doing ≡ Lowered parent p r d raised
    → Allows (Rule about) slots id me (word_at raised (link_field (other d))) (λ _. r) (λ _. lifted_stored (step slots (word_at raised (link_field (other d))) r 0 maybe.none) me 0)
lifts_link about slots id me parent p r d raised low change s k wide at small =
    let v : View = me.0 in let w : View = lifted v parent p r d raised in let rows_wide = k.memory.wide in let near : raised < length k.m.rows = omega arith in
    let f : Field = link_field (other d) in
    let o : Row = with_field f r (row k.m.rows raised) in let rows' : List Row = changed k.m.rows raised f r in let st : Table = state_of k.m k.g in
    let holds : (n : ℕ) → Concerns (Lowered parent p r d raised) n → 0 < times n v.holds = λ n c. k.held id v at n (subst (λ (g : Doing). Concerns g n) (sym change) c) in
    let held_row : 0 < times r v.holds = holds r (inr (inl refl)) in
    let held : 0 < times raised v.holds = holds raised (inr (inr refl)) in
    let writing : in_write v.stage ≡ 1 = omega (arith, k.locked.writing id v at raised, in_write_le v.stage, held) in
    let writers = some_write s.views id v k.g.writers at k.writers writing in
    let doing : DoingOk st (Lowered parent p r d raised) = subst (DoingOk st) change (k.doing id v at) in
    let may = lift_doing st parent p r d raised writers doing in
    let b : Beside = record k.g { pending = updates.relink k.g.pending raised (other d) (raising r) } in
    let s' : Table = state_of (record k.m { rows = rows' }) b in
    let path : s' ≡ kinds.raised_linked st r d raised = sets k.m b raised f r near ∙ with_link (state_of k.m b) raised (other d) r in
    let away : ℕ → Type 0 = λ (n : ℕ). (n ≢ r) × (n ≢ raised) in
    let moves : Moves st s' away × DoingOk s' (Lifted parent p r d raised) = subst (λ (z : Table). Moves st z away × DoingOk z (Lifted parent p r d raised)) (sym path)
    ((lift_evolves st r d raised may.0, lift_keeps st k.table r d raised may.0, λ n q. lift_apart st n r d raised q.0 q.1), may.1) in
    let theirs : (j : ℕ) (u : View) → j ≢ id → get_elem? s.views j ≡ some u → (n : ℕ) → 0 < times n u.holds → (n ≢ r) × (n ≢ raised) = λ j u ne there n c. (
      (λ q. omega (arith, c, others_apart s.views id v at k.m.rows r k.locked held_row j u ne there, ap (λ (i : ℕ). times i u.holds) q)),
      (λ q. omega (arith, c, others_apart s.views id v at k.m.rows raised k.locked held j u ne there, ap (λ (i : ℕ). times i u.holds) q)),
    ) in
    let heights : (n : ℕ) → (row rows' n).height ≡ (row k.m.rows n).height = heights_same k.m.rows raised o near (link_height (other d) r (row k.m.rows raised)) in
    let was : (n : ℕ) (e : Side) → changing n e v.doing ≡ at_link n e r d = λ n e. ap (changing n e) change in
    let owed : DebtDoing st (Lowered parent p r d raised) v.debt = subst (λ (g : Doing). DebtDoing st g v.debt) change (k.debts id v at).0 in (
      w,
      keeps,
      tt,
      rewriting about s.words s.views k id v w at (set s.words (word_at raised f) r) rows' b away (cell_set k.memory raised f low r) moves
          (λ n e none. let sum = total-set (λ u. changing n e u.doing) s.views id v w at in let apart : at_link n e raised (other d) ≡ 0 = omega (arith, none, sum, was n e) in
          relink_away k.g.pending raised (other d) (raising r) n e (λ q. let one : at_link n e raised (other d) ≡ 1 = (λ i. at_link (q.0 i) (q.1 i) raised (other d)) ∙ at_same raised (other d) in omega (arith, apart, one)) ∙ k.changes n e (omega (arith, none, sum, was n e)))
          holds
          (λ j u ne there n c. theirs j u ne there n (k.held j u there n c))
          (locks_stay s.views id v at k.m.rows raised o w k.locked (field_other Lock f r (row k.m.rows raised) (λ z. no_lock (other d) (sym z))) near refl refl refl)
          (each_others s.views id v at w (λ j u ne there. facts_elsewhere k.m.rows raised o u.holds u.holds u.words.knows (k.known j u there) (others_apart s.views id v at k.m.rows raised k.locked held j u ne there) (λ y. omega arith))
          (ap (field f) (row_same k.m.rows raised o near) ∙ field_same f r (row k.m.rows raised), held, facts_left k.m.rows raised f r v.holds v.words.knows near (k.known id v at)))
          (k.reached id v at)
          (apart_changed s.views id v w at k.m.next k.m.rows k.g.linked k.apart (λ u j there. omega (arith, k.drawn.none_zero, term_le (times_drawn 0) s.views j u there)) raised o
          (λ y pos z ne. let q = row_other k.m.rows raised y o ne in let h = k.apart.fresh y pos z in (ap (λ (i : Row). i.lock) q ∙ h.0, ap (λ (i : Row). i.stamp) q ∙ h.1)) (λ pos. in_times raised k.g.linked (k.table.tree.rows raised doing.turn.raised_live.stands).0) refl refl refl)
          (λ n none z. k.marked n (omega (arith, none, total-set (λ u. lowers n u.doing) s.views id v w at, ap (lowers n) change)) (subst IsShrinking (stamps_same k.m.rows raised o near (link_stamp (other d) r (row k.m.rows raised)) n) z)) (
            (λ j u ne there n c. leaves_apart st s' n (moves.0.2 n (theirs j u ne there n c)) heights),
            heights_kept st s' v.holds v.heights (λ n c. ((λ l. subst (λ (z : Table). IsLive z n) (sym path) (same_live st (kinds.raised_linked st r d raised) n refl refl refl l)), λ l e. heights_plain s' st n e heights refl)) (k.heights id v at),
            (subst (λ (z : Table). DebtDoing z (Lifted parent p r d raised) v.debt) (sym path) (record { turning = owed.0.turning; owes = owed.0.owes }, owed.1), (λ z. absurd (omega (arith, z, writing)))),
            λ room ok. owed_itself s.views id v at s' (subst (λ (z : Table). DebtOk z (debts_of s.views)) (sym path) (silent_owes st (kinds.raised_linked st r d raised) (debts_of s.views) (lift_silent st r d raised) ok)),
          ),
      λ parent' row' raised' p' d' same. let q : Lowered parent p r d raised ≡ Lowered parent' p' row' d' raised' = sym change ∙ same in told parent' row' raised' p' d' q,
    )
  where
    told : (parent' row' raised' : ℕ) (p' d' : Side) → Lowered parent p r d raised ≡ Lowered parent' p' row' d' raised' → (let n : Sat = (lifted me.0 parent p r d raised, me.1) in n ≡ (lifted me.0 parent' p' row' d' raised', me.1))
    told parent' row' raised' p' d' q = let a : parent ≡ parent' = cc in let b : p ≡ p' = cc in let c : r ≡ row' = cc in let e : d ≡ d' = cc in let g : raised ≡ raised' = cc in (λ i. (lifted me.0 (a i) (b i) (c i) (e i) (g i), me.1))

abbrev cleared_debt : Option ℕ → List Mark → Debt
cleared_debt to_do l = record { to_do = to_do; list = l; turning = None }

-- `clear_shrinking`
pub clears_mark : (about : About) (slots id : ℕ) (me : Sat) (r x : ℕ) → r ≤ about.rows → me.0.doing ≡ Turned r → IsKnown me.0.words.knows r Stamp x
    → Allows (Rule about) slots id me (word_at r Stamp) (λ _. x + 2) (λ _. cleared_stored (step slots (word_at r Stamp) (x + 2) 0 maybe.none) me 0)
clears_mark about slots id me r x low change stamp_known s k wide at small =
    let v : View = me.0 in let w : View = cleared v r (x + 2) in let rows_wide = k.memory.wide in let near : r < length k.m.rows = omega arith in
    let o : Row = with_field Stamp (x + 2) (row k.m.rows r) in let rows' : List Row = changed k.m.rows r Stamp (x + 2) in let st : Table = state_of k.m k.g in
    let known = k.known id v at in
    let held : 0 < times r v.holds = k.held id v at r (subst (λ (g : Doing). Concerns g r) (sym change) refl) in
    let writing : in_write v.stage ≡ 1 = omega (arith, k.locked.writing id v at r, in_write_le v.stage, held) in
    let writers = some_write s.views id v k.g.writers at k.writers writing in
    let may : kinds.MayClearShrinking st r = clear_doing st r writers (subst (DoingOk st) change (k.doing id v at)) in
    let stamp : (row k.m.rows r).stamp ≡ x = known_is k.m.rows v.holds v.words.knows r Stamp x known stamp_known in
    let marked : x % 4 ≡ 2 = subst IsLowering stamp may.marked in
    let s' : Table = state_of (record k.m { rows = rows' }) k.g in
    let cleared_st : Table = kinds.shrinking_cleared st r in
    let path : s' ≡ cleared_st = sets k.m k.g r Stamp (x + 2) near ∙ ap (λ (y : ℕ). with_word st r Stamp (y + 2)) (sym stamp) in
    let away : ℕ → Type 0 = λ (n : ℕ). n ≢ r in
    let moves : Moves st s' away × DoingOk s' Nothing = (subst (λ (z : Table). Moves st z away) (sym path) (clear_evolves st r may, clear_keeps st k.table r may, λ n ne. clear_apart st n r ne), tt) in
    let theirs : (j : ℕ) (u : View) → j ≢ id → get_elem? s.views j ≡ some u → (n : ℕ) → 0 < times n u.holds → n ≢ r = λ j u ne there n c q. omega (arith, c, others_apart s.views id v at k.m.rows r k.locked held j u ne there, ap (λ (i : ℕ). times i u.holds) q) in
    let heights : (n : ℕ) → (row rows' n).height ≡ (row k.m.rows n).height = heights_same k.m.rows r o near refl in
    let owed : Turning st v.debt r = subst (λ (g : Doing). DebtDoing st g v.debt) change (k.debts id v at).0 in
    let debt_at : debts_of s.views id ≡ v.debt = debts_at s.views id v at in
    let new_stamp : cleared_st.stamp r ≡ x + 2 = changed_same st.stamp r (st.stamp r + 2) ∙ ap (λ y. y + 2) stamp in
    let debt_is : clear_debt cleared_st r (debts_of s.views id) ≡ w.debt = ap (clear_debt cleared_st r) debt_at ∙ ap (cleared_debt v.debt.to_do) (listing_is cleared_st r (x + 2) v.debt.list new_stamp) in (
      w,
      keeps,
      tt,
      rewriting about s.words s.views k id v w at (set s.words (word_at r Stamp) (x + 2)) rows' k.g away (cell_set k.memory r Stamp low (x + 2)) moves
          (λ n e none. k.changes n e (omega (arith, none, ap (changing n e) change, total-set (λ u. changing n e u.doing) s.views id v w at)))
          (λ n c. absurd c)
          (λ j u ne there n c. theirs j u ne there n (k.held j u there n c))
          (locks_stay s.views id v at k.m.rows r o w k.locked refl near refl refl refl)
          (each_others s.views id v at w (λ j u ne there. facts_elsewhere k.m.rows r o u.holds u.holds u.words.knows (k.known j u there) (others_apart s.views id v at k.m.rows r k.locked held j u ne there) (λ y. omega arith))
          (ap (λ (y : Row). y.stamp) (row_same k.m.rows r o near), held, facts_left k.m.rows r Stamp (x + 2) v.holds v.words.knows near known))
          (k.reached id v at)
          (apart_changed s.views id v w at k.m.next k.m.rows k.g.linked k.apart (λ u j there. omega (arith, k.drawn.none_zero, term_le (times_drawn 0) s.views j u there)) r o
          (λ y pos z ne. let q = row_other k.m.rows r y o ne in let h = k.apart.fresh y pos z in (ap (λ (i : Row). i.lock) q ∙ h.0, ap (λ (i : Row). i.stamp) q ∙ h.1)) (λ pos. in_times r k.g.linked (k.table.tree.rows r may.live.stands).0) refl refl refl)
          (λ n none z. dite (ℕ_discrete n r)
          (λ e. let now : (row rows' n).stamp ≡ x + 2 = ap (λ (y : ℕ). (row rows' y).stamp) e ∙ ap (λ (y : Row). y.stamp) (row_same k.m.rows r o near) in absurd (clean x marked (subst IsShrinking now z)))
          (λ ne. k.marked n (omega (arith, none, total-set (λ u. lowers n u.doing) s.views id v w at, ap (lowers n) change, one_other n r ne)) (subst (λ (y : Row). IsShrinking y.stamp) (row_other k.m.rows r n o ne) z))) (
            (λ j u ne there n c. leaves_apart st s' n (moves.0.2 n (theirs j u ne there n c)) heights),
            heights_kept st s' v.holds v.heights (λ n c. ((λ l. subst (λ (z : Table). IsLive z n) (sym path) (same_live st cleared_st n refl refl refl l)), λ l e. heights_plain s' st n e heights refl)) (k.heights id v at),
            (refl, (λ z. absurd (omega (arith, z, writing)))),
            λ room ok. subst (λ (z : Table). DebtOk z (updates.changed (debts_of s.views) id w.debt)) (sym path)
                (subst (λ (u : Debt). DebtOk cleared_st (updates.changed (debts_of s.views) id u)) debt_is
                (clear_owes st (debts_of s.views) id r k.table ok may (subst (λ (u : Debt). Owes st u r) (sym debt_at) owed.owes) (held_free k id v at r held))),
          ),
      λ row' same. let q : Turned r ≡ Turned row' = sym change ∙ same in let e : r ≡ row' = cc in ((λ i. (cleared me.0 (e i) (x + 2), me.1)), owed.turning ∙ ap Some e),
    )
  where
    clean : (y : ℕ) → y % 4 ≡ 2 → ¬ IsShrinking (y + 2)
    clean y e z = omega (arith, e, z)
