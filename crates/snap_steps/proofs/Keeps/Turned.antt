-- The step of a rotation at which the tree takes its new form keeps the rule.
use Rattle.std.proofs.Common.{◌≡◌, ◌≢◌, ◌<◌, ◌≤◌, ◌⊎◌, ◌+◌, ◌∙◌, inl, inr, ℕ, zero, suc, refl, sym, ap, subst, arith, List, [], ◌∷◌, length, set, Some}
use lib.ListN.{get_elem?}
use mathlib.Core.Logic.{dite}
use mathlib.Core.Option.{some}
use mathlib.Core.Option as maybe
use native.Mathlib.Decide.{ℕ_discrete}
use Rattle.atomic_table.specs.Table.{step, keeps, Allows}
use Rattle.snap_rule.proofs.Debts.Trees.{raise_owes}
use Rattle.snap_rule.proofs.Debts.Turning.{raise_turns}
use Rattle.snap_rule.proofs.Debts.Turns.{not_zero}
use Rattle.snap_rule.proofs.Evolving.Telling.{raise_evolves}
use Rattle.snap_rule.proofs.InChange.{raise_doing}
use Rattle.snap_rule.proofs.LeftAlone.{raise_apart}
use Rattle.snap_rule.proofs.Table.{raise_keeps}
use Rattle.snap_rule.proofs.Updates.{relink_same, relink_away}
use Rattle.snap_rule.specs.Debt.{DebtOk, IsListed}
use Rattle.snap_rule.specs.Debt.Changes.{AimsAtTurn, DebtDoing, Turning}
use Rattle.snap_rule.specs.Debt.Kinds.{raise_debt}
use Rattle.snap_rule.specs.Debt.Lists.{noted}
use Rattle.snap_rule.specs.Doing.{Concerns, DoingOk}
use Rattle.snap_rule.specs.Kinds.Rotation as kinds
use Rattle.snap_rule.specs.State.{State as Table, Beside, Change}
use Rattle.snap_rule.specs.State.Change.{plain}
use Rattle.snap_rule.specs.TreeChanges.{rotated}
use Rattle.snap_rule.specs.Updates as updates
use Rattle.snap_rule.specs.declared.change.Doing.{Doing}
use Rattle.snap_rule.specs.declared.change.Doing.TheVariants.{Lifted, Turned}
use Rattle.snap_rule.specs.declared.debt.Debt.{Debt}
use Rattle.snap_rule.specs.declared.debt.Mark.{Mark}
use Rattle.snap_stamp.specs.Layout.{word_at}
use Rattle.snap_stamp.specs.Sides.{other}
use Rattle.snap_stamp.specs.Stamps.{IsShrinking}
use Rattle.snap_stamp.specs.declared.layout.Field.{Field}
use Rattle.snap_stamp.specs.declared.layout.Field.TheVariants.{Key, Stamp, Lock}
use Rattle.snap_stamp.specs.declared.side.Side.{Side}
use Rattle.snap_steps.specs.Numbers.{times_drawn}
use Rattle.snap_steps.specs.Counting.{times}
use Rattle.snap_steps.specs.Facts.{IsKnown, heights_forgotten, word_in}
use Rattle.snap_steps.specs.Memory.{Row, row, field, with_field}
use Rattle.snap_steps.specs.Rule.Changes.{at_link, changing}
use Rattle.snap_steps.specs.Rule.Debts.{debts_of}
use Rattle.snap_steps.specs.Rule.Marks.{lowers}
use Rattle.snap_steps.specs.Stages.{in_write}
use Rattle.snap_steps.specs.States.{state_of, link_field}
use Rattle.snap_steps.specs.Steps.Debts.{listing}
use Rattle.snap_steps.specs.Steps.Rotating.{HasStamp, HasStamps, link_turned, turn_stored}
use Rattle.snap_steps.specs.Steps.Told.{Sat}
use Rattle.snap_steps.specs.declared.rule.About.{About}
use Rattle.snap_steps.specs.declared.view.ChildHeight.{ChildHeight}
use Rattle.snap_steps.specs.declared.view.View.{View}
use Rattle.snap_steps.proofs.Cells.{changed, cell_set, row_same, row_other, field_same, field_other}
use Rattle.snap_steps.proofs.Classes.Entering.{some_write}
use Rattle.snap_steps.proofs.Classes.Rewriting.{rewriting}
use Rattle.snap_steps.proofs.Classes.Turning.{Rule}
use Rattle.snap_steps.proofs.EachView.{each_others}
use Rattle.snap_steps.proofs.Keeps.Changes.{link_is}
use Rattle.snap_steps.proofs.Keeps.Leaf.{with_link, no_lock}
use Rattle.snap_steps.proofs.Keeps.Raising.{noted_is}
use Rattle.snap_steps.proofs.Keeps.Unlinking.{at_same, upper_in}
use Rattle.snap_steps.proofs.Knowing.{facts_elsewhere, facts_left, known_is, known_word}
use Rattle.snap_steps.proofs.Owing.{held_free, listing_is}
use Rattle.snap_steps.proofs.Parts.Apart.{apart_changed}
use Rattle.snap_steps.proofs.Parts.Counts.{in_write_le}
use Rattle.snap_steps.proofs.Parts.Debts.{debts_at}
use Rattle.snap_steps.proofs.Parts.Heights.{AllRows, leaves_apart, heights_same, heights_where, heights_fewer, rows_but, rows_still, link_height}
use Rattle.snap_steps.proofs.Parts.Locks.{others_apart, locks_stay}
use Rattle.snap_steps.proofs.Parts.Marks.{stamps_same, link_stamp}
use Rattle.snap_steps.proofs.States.{sets}
use Rattle.snap_steps.proofs.Tables.{Moves, in_times}
use Rattle.snap_steps.proofs.Totals.{total-set, term_le}

-- the links are two
not_at : (n : ℕ) (e : Side) (m : ℕ) (c : Side) → at_link n e m c ≡ 0 → (n ≡ m) × (e ≡ c) → ⊥
not_at n e m c z q = let one : at_link n e m c ≡ 1 = (λ i. at_link (q.0 i) (q.1 i) m c) ∙ at_same m c in omega (arith, z, one)

-- rows of which two things hold
rows_both : (P Q : ℕ → Type 0) (l : List ChildHeight) → AllRows P l → AllRows Q l → AllRows (λ n. P n × Q n) l
rows_both P Q [] a b = tt
rows_both P Q (x ∷ xs) a b = ((a.0, b.0), rows_both P Q xs a.1 b.1)

-- what a listing lists
listed_here : (n x y : ℕ) (l : List Mark) → n ≢ 0 → x ≡ y → IsListed n x (listing n y l)
listed_here zero x y l ne e = absurd (ne refl)
listed_here (suc n) x y l ne e = inl (ap (λ (z : ℕ). Rattle.snap_rule.specs.Debt.mark (suc n) z) e)

listed_more : (m y n x : ℕ) (l : List Mark) → IsListed n x l → IsListed n x (listing m y l)
listed_more zero y n x l h = h
listed_more (suc m) y n x l h = inr h

abbrev debt_of : ℕ → ℕ → List Mark → Debt
debt_of key r l = record { to_do = Some key; list = l; turning = Some r }

-- `link_parent`
pub turns : (about : About) (slots id : ℕ) (me : Sat) (parent : ℕ) (p : Side) (r : ℕ) (d : Side) (raised key : ℕ) → parent ≤ about.rows → me.0.doing ≡ Lifted parent p r d raised → IsKnown me.0.words.knows r Key key → HasStamps me.0 parent r raised
    → Allows (Rule about) slots id me (word_at parent (link_field p)) (λ _. raised) (λ _. turn_stored (step slots (word_at parent (link_field p)) raised 0 maybe.none) me 0)
turns about slots id me parent p r d raised key low change key_known stamps s k wide at small =
    let v : View = me.0 in let w : View = link_turned v parent p r raised key in let rows_wide = k.memory.wide in let near : parent < length k.m.rows = omega arith in
    let f : Field = link_field p in
    let o : Row = with_field f raised (row k.m.rows parent) in let rows' : List Row = changed k.m.rows parent f raised in let st : Table = state_of k.m k.g in
    let known = k.known id v at in
    let concerned : (n : ℕ) → (n ≡ parent) ⊎ (n ≡ r) ⊎ (n ≡ raised) → 0 < times n v.holds = λ n c. k.held id v at n (subst (λ (g : Doing). Concerns g n) (sym change) c) in
    let held = concerned parent (inl refl) in let held_row = concerned r (inr (inl refl)) in let held_raised = concerned raised (inr (inr refl)) in
    let writing : in_write v.stage ≡ 1 = omega (arith, k.locked.writing id v at parent, in_write_le v.stage, held) in
    let doing : DoingOk st (Lifted parent p r d raised) = subst (DoingOk st) change (k.doing id v at) in
    let may = raise_doing st parent p r d raised (some_write s.views id v k.g.writers at k.writers writing) doing in
    let first : ℕ → Side → Change = updates.relink k.g.pending r d plain in
    let b : Beside = record k.g {
      links = updates.relink (updates.relink (updates.relink k.g.links r d (st.link r d)) raised (other d) r) parent p raised;
      tree = rotated r d k.g.tree;
      pending = updates.relink first raised (other d) plain;
    } in
    let s' : Table = state_of (record k.m { rows = rows' }) b in
    let turned_st : Table = kinds.parent_linked st parent p r d raised in
    let path : s' ≡ turned_st = sets k.m b parent f raised near ∙ with_link (state_of k.m b) parent p raised in
    let away : ℕ → Type 0 = λ (n : ℕ). (n ≢ parent) × (n ≢ r) × (n ≢ raised) in
    let moves : Moves st s' away × DoingOk s' (Turned r) = subst (λ (z : Table). Moves st z away × DoingOk z (Turned r)) (sym path)
    ((raise_evolves st parent p r d raised k.table.tree may.0, raise_keeps st k.table parent p r d raised may.0, λ n q. raise_apart st n parent p r d raised q.0 q.1 q.2), may.1) in
    let other_row : (j : ℕ) (u : View) → j ≢ id → get_elem? s.views j ≡ some u → (n m : ℕ) → 0 < times n u.holds → 0 < times m v.holds → n ≢ m = λ j u ne there n m c h q. omega (arith, c, others_apart s.views id v at k.m.rows m k.locked h j u ne there, ap (λ (i : ℕ). times i u.holds) q) in
    let theirs : (j : ℕ) (u : View) → j ≢ id → get_elem? s.views j ≡ some u → (n : ℕ) → 0 < times n u.holds → away n = λ j u ne there n c. (other_row j u ne there n parent c held, other_row j u ne there n r c held_row, other_row j u ne there n raised c held_raised) in
    let heights : (n : ℕ) → (row rows' n).height ≡ (row k.m.rows n).height = heights_same k.m.rows parent o near (link_height p raised (row k.m.rows parent)) in
    let was : (n : ℕ) (e : Side) → changing n e v.doing ≡ at_link n e r d + at_link n e raised (other d) = λ n e. ap (changing n e) change in
    let is_row = not_zero st k.table r may.0.live.stands in
    let key_is : st.key r ≡ key = known_is k.m.rows v.holds v.words.knows r Key key known key_known in
    let stamp_is : (n : ℕ) → HasStamp v n → st.stamp n ≡ word_in v.words.knows n Stamp = λ n h. known_word k.m.rows v.holds v.words.knows n Stamp h.0 known h.1 in
    let parent_stamp : (parent ≡ 0) ⊎ (st.stamp parent ≡ word_in v.words.knows parent Stamp) = elim stamps.0 [ inl z ↦ inl z | inr h ↦ inr (stamp_is parent h) ] in
    let l0 : List Mark = v.debt.list in let l1 : List Mark = listing parent (word_in v.words.knows parent Stamp) l0 in let l2 : List Mark = listing raised (word_in v.words.knows raised Stamp) l1 in
    let list_is : noted st r (noted st raised (noted st parent l0)) ≡ w.debt.list =
    ap (λ (l : List Mark). noted st r (noted st raised l)) (noted_is st parent (word_in v.words.knows parent Stamp) l0 parent_stamp)
    ∙ ap (noted st r) (listing_is st raised (word_in v.words.knows raised Stamp) l1 (stamp_is raised stamps.2))
    ∙ listing_is st r (word_in v.words.knows r Stamp) l2 (stamp_is r stamps.1) in
    let debt_at : debts_of s.views id ≡ v.debt = debts_at s.views id v at in
    let debt_is : raise_debt st parent r raised (debts_of s.views id) ≡ w.debt = ap (raise_debt st parent r raised) debt_at ∙ (λ i. debt_of (key_is i) r (list_is i)) in
    let own : Turning st v.debt r × AimsAtTurn st v.debt r raised = subst (λ (g : Doing). DebtDoing st g v.debt) change (k.debts id v at).0 in (
      w,
      keeps,
      tt,
      rewriting about s.words s.views k id v w at (set s.words (word_at parent f) raised) rows' b away (cell_set k.memory parent f low raised) moves
          (λ n e none. let sum = total-set (λ u. changing n e u.doing) s.views id v w at in
          dite (ℕ_discrete (at_link n e raised (other d)) 0)
          (λ z. relink_away first raised (other d) plain n e (not_at n e raised (other d) z) ∙ dite (ℕ_discrete (at_link n e r d) 0)
          (λ y. relink_away k.g.pending r d plain n e (not_at n e r d y) ∙ k.changes n e (omega (arith, none, sum, was n e, z, y)))
          (λ ny. let q = link_is n r e d ny in (λ i. first (q.0 i) (q.1 i)) ∙ relink_same k.g.pending r d plain))
          (λ nz. let q = link_is n raised e (other d) nz in (λ i. b.pending (q.0 i) (q.1 i)) ∙ relink_same first raised (other d) plain))
          (λ n c. concerned n (inr (inl c)))
          (λ j u ne there n c. theirs j u ne there n (k.held j u there n c))
          (locks_stay s.views id v at k.m.rows parent o w k.locked (field_other Lock f raised (row k.m.rows parent) (λ z. no_lock p (sym z))) near refl refl refl)
          (each_others s.views id v at w (λ j u ne there. facts_elsewhere k.m.rows parent o u.holds u.holds u.words.knows (k.known j u there) (others_apart s.views id v at k.m.rows parent k.locked held j u ne there) (λ y. omega arith))
          (ap (field f) (row_same k.m.rows parent o near) ∙ field_same f raised (row k.m.rows parent), held, facts_left k.m.rows parent f raised v.holds v.words.knows near known))
          (k.reached id v at)
          (apart_changed s.views id v w at k.m.next k.m.rows k.g.linked k.apart (λ u j there. omega (arith, k.drawn.none_zero, term_le (times_drawn 0) s.views j u there)) parent o
          (λ y pos z ne. let q = row_other k.m.rows parent y o ne in let h = k.apart.fresh y pos z in (ap (λ (i : Row). i.lock) q ∙ h.0, ap (λ (i : Row). i.stamp) q ∙ h.1)) (λ pos. in_times parent k.g.linked (upper_in st parent p (λ m l. (k.table.tree.rows m l.stands).0) may.0.parent_live pos)) refl refl refl)
          (λ n none z. k.marked n (omega (arith, none, total-set (λ u. lowers n u.doing) s.views id v w at, ap (lowers n) change)) (subst IsShrinking (stamps_same k.m.rows parent o near (link_stamp p raised (row k.m.rows parent)) n) z)) (
            (λ j u ne there n c. leaves_apart st s' n (moves.0.2 n (theirs j u ne there n c)) heights),
            heights_where (λ n. n ≢ parent) (λ n. (n ≢ r) × (n ≢ raised)) st s' v.holds w.heights (λ n c a e. leaves_apart st s' n (moves.0.2 n (a, e.0, e.1)) heights) (rows_left v.heights).0 (rows_left v.heights).1
                (heights_fewer st raised v.holds (heights_forgotten (heights_forgotten v.heights parent) r) (heights_fewer st r v.holds (heights_forgotten v.heights parent) (heights_fewer st parent v.holds v.heights (k.heights id v at)))),
            (subst (λ (z : Table). DebtDoing z (Turned r) w.debt) (sym path) (subst (DebtDoing turned_st (Turned r)) debt_is (raise_turns st parent p r d raised (debts_of s.views id) is_row)), (λ z. absurd (omega (arith, z, writing)))),
            λ room ok. subst (λ (z : Table). DebtOk z (updates.changed (debts_of s.views) id w.debt)) (sym path)
                (subst (λ (u : Debt). DebtOk turned_st (updates.changed (debts_of s.views) id u)) debt_is
                (raise_owes st (debts_of s.views) id parent p r d raised k.table ok may.0 (record {
                  turning = ap (λ (u : Debt). u.turning) debt_at ∙ own.0.turning;
                  to_do = subst (λ (u : Debt). AimsAtTurn st u r raised) (sym debt_at) own.1;
                  free = (held_free k id v at r held_row, held_free k id v at raised held_raised, held_free k id v at parent held);
                }))),
          ),
      λ parent' row' raised' key' p' d' same key_known'. (
        told parent' row' raised' key' p' d' (sym change ∙ same) (λ e. sym key_is ∙ ap (λ (y : ℕ). st.key y) e ∙ known_is k.m.rows v.holds v.words.knows row' Key key' known key_known'),
        λ x ne is. let e : x ≡ word_in v.words.knows parent' Stamp = sym (known_is k.m.rows v.holds v.words.knows parent' Stamp x known is) ∙ known_word k.m.rows v.holds v.words.knows parent' Stamp x known is in
            listed_more row' (word_in v.words.knows row' Stamp) parent' x _ (listed_more raised' (word_in v.words.knows raised' Stamp) parent' x _ (listed_here parent' x (word_in v.words.knows parent' Stamp) v.debt.list ne e)),
      ),
    )
  where
    rows_left : (h : List ChildHeight) → (let l : List ChildHeight = heights_forgotten (heights_forgotten (heights_forgotten h parent) r) raised in AllRows (λ n. n ≢ parent) l × AllRows (λ n. (n ≢ r) × (n ≢ raised)) l)
    rows_left h = let a = heights_forgotten h parent in let c = heights_forgotten a r in (
      rows_still (λ n. n ≢ parent) c raised (rows_still (λ n. n ≢ parent) a r (rows_but h parent)),
      rows_both (λ n. n ≢ r) (λ n. n ≢ raised) (heights_forgotten c raised) (rows_still (λ n. n ≢ r) c raised (rows_but a r)) (rows_but c raised),
    )

    told : (parent' row' raised' key' : ℕ) (p' d' : Side) → Lifted parent p r d raised ≡ Lifted parent' p' row' d' raised' → (r ≡ row' → key ≡ key') → (let n : Sat = (link_turned me.0 parent p r raised key, me.1) in n ≡ (link_turned me.0 parent' p' row' raised' key', me.1))
    told parent' row' raised' key' p' d' q keys =
        let a : parent ≡ parent' = cc in let e : p ≡ p' = cc in let b : r ≡ row' = cc in let c : raised ≡ raised' = cc in let y = keys b in
        (λ i. (link_turned me.0 (a i) (e i) (b i) (c i) (y i), me.1))
