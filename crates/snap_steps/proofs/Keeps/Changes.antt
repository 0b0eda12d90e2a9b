-- Marking a row as shrinking keeps the rule.
use Rattle.snap_rule.specs.Debt.{DebtOk, OwesNone}
use Rattle.snap_rule.specs.Debt.Changes.{DebtDoing, AimsAtTurn}
use Rattle.snap_rule.specs.Debt.Kinds.{shrink_debt}
use Rattle.snap_rule.specs.Debt.Lists.{Aims}
use Rattle.snap_rule.specs.Room.{HasRoom}
use Rattle.snap_rule.specs.Tree.{Stands}
use Rattle.snap_rule.specs.Updates as updates
use Rattle.snap_rule.specs.declared.debt.Debt.{Debt}
use Rattle.snap_rule.specs.declared.debt.Mark.{Mark}
use Rattle.snap_rule.proofs.Debts.{noted_here}
use Rattle.snap_rule.proofs.Debts.Turns.{not_zero, shrink_owes}
use Rattle.snap_rule.proofs.Updates.{changed_same}
use Rattle.snap_steps.specs.Roles.{is_live}
use Rattle.snap_steps.specs.Rule.Debts.{debts_of}
use Rattle.snap_steps.specs.Steps.Changes.{TurnsFor, AimsAt}
use Rattle.snap_steps.proofs.Owing.{owes_none, no_room, held_free, listing_is}
use Rattle.snap_steps.proofs.Parts.Debts.{debts_at}
use Rattle.snap_steps.proofs.Parts.Heights.{leaves_apart, heights_same, heights_kept, heights_plain}
use Rattle.std.proofs.Common.{⊎_elim, Some}
use Rattle.snap_stamp.specs.declared.layout.Field.TheVariants.{Key}
use Rattle.std.proofs.Common.{◌≡◌, ◌≢◌, ℕ, refl, inl, inr, sym, ◌∙◌, arith, List, ap, ◌<◌, ◌⊎◌, ◌+◌, ◌%◌, ◌≤◌, length, set, subst}
use lib.ListN.{get_elem?}
use mathlib.Core.Logic.{dite}
use mathlib.Core.Option.{some, some-injective}
use native.Mathlib.Decide.{ℕ_discrete}
use Rattle.atomic_table.specs.Table.{step, keeps, Allows}
use Rattle.snap_rule.proofs.InChange.{shrink_doing}
use Rattle.snap_rule.proofs.LeftAlone.{shrink_apart}
use Rattle.snap_rule.proofs.Evolving.Telling.{shrink_evolves}
use Rattle.snap_rule.proofs.Table.{shrink_keeps}
use Rattle.snap_rule.specs.Doing.{Concerns, DoingOk, NotNamed, IsRotation}
use Rattle.snap_rule.specs.Rule.{IsLive}
use Rattle.snap_rule.specs.State.{State as Table, In}
use Rattle.snap_rule.specs.State.Change.{unlinking, lowering, raising, plain}
use Rattle.snap_rule.specs.declared.change.Doing.{Doing}
use Rattle.snap_rule.specs.declared.change.Doing.TheVariants.{Nothing, Unlinked, Shrunk, Lowered, Lifted, Turned}
use Rattle.snap_stamp.specs.Layout.{word_at}
use Rattle.snap_stamp.specs.Sides.{other}
use Rattle.snap_stamp.specs.Stamps.{IsUnmarked, IsShrinking, count_of, last_count}
use Rattle.snap_stamp.specs.declared.layout.Field.TheVariants.{Stamp}
use Rattle.snap_stamp.specs.declared.side.Side.{Side}
use Rattle.snap_steps.specs.Rule.Changes.{at_link, changing}
use Rattle.snap_steps.specs.Rule.Marks.{lowers}
use Rattle.snap_steps.proofs.Totals.{one_other, one_same, total-set, term_le}
use Rattle.snap_steps.specs.Rule.{Kept}
use Rattle.snap_steps.specs.declared.view.View.{View}
use Rattle.snap_steps.specs.declared.rule.About.{About}
use Rattle.snap_steps.specs.Numbers.{times_drawn}
use Rattle.snap_steps.specs.Counting.{times}
use Rattle.snap_steps.proofs.Tables.{none_changing, Moves, in_times}
use Rattle.snap_steps.proofs.EachView.{none_total, each_others}
use Rattle.snap_steps.proofs.Parts.Locks.{others_apart, locks_stay}
use Rattle.snap_steps.specs.States.{state_of, link_field, with_word}
use Rattle.snap_steps.specs.Memory.{Row, with_field, row}
use Rattle.snap_steps.specs.Facts.{IsBorn, IsKnown}
use Rattle.snap_steps.specs.Steps.Changes.{IsTurn, shrunk, shrinking_stored}
use Rattle.snap_steps.specs.Stages.{in_write}
use Rattle.snap_steps.proofs.Cells.{changed, cell_set, row_same, row_other}
use Rattle.snap_steps.proofs.States.{sets}
use Rattle.snap_steps.proofs.Knowing.{facts_elsewhere, facts_left, known_is}
use Rattle.snap_steps.proofs.Reached.{in_of}
use Rattle.snap_steps.proofs.Parts.Counts.{in_write_le}
use Rattle.snap_steps.proofs.Parts.Apart.{apart_changed}
use Rattle.snap_steps.proofs.Classes.Entering.{some_write, born_live}
use Rattle.snap_steps.proofs.Classes.Turning.{Rule}
use Rattle.snap_steps.specs.Steps.Told.{Sat}
use Rattle.snap_steps.proofs.Classes.Rewriting.{rewriting}
use Rattle.snap_stamp.specs.declared.side.Side.TheVariants as sides
use mathlib.Core.Option as maybe
use Rattle.snap_rule.specs.Rule as rule
use Rattle.snap_rule.specs.Kinds.Rotation as rotation_kinds
use Rattle.snap_steps.specs.Rule.History.{whole}

pub link_is : (n m : ℕ) (d e : Side) → at_link n d m e ≢ 0 → (n ≡ m) × (d ≡ e)
link_is n m sides.Left sides.Left h = (dite (ℕ_discrete n m) (λ q. q) (λ ne. absurd (h (one_other n m ne))), refl)
link_is n m sides.Left sides.Right h = absurd (h refl)
link_is n m sides.Right sides.Left h = absurd (h refl)
link_is n m sides.Right sides.Right h = (dite (ℕ_discrete n m) (λ q. q) (λ ne. absurd (h (one_other n m ne))), refl)

-- a link that is raising a row is in no change of a pass that doesn't hold the row
not_raising : (s : Table) (g : Doing) (n : ℕ) (e : Side) (r : ℕ) → DoingOk s g → s.pending n e ≡ raising r → (Concerns g r → ⊥) → changing n e g ≡ 0
not_raising s Nothing n e r ok q away = refl
not_raising s (Unlinked p d m only) n e r ok q away = dite (ℕ_discrete (at_link n e p d) 0) (λ z. z) (λ nz. let t = link_is n p e d nz in let x : raising r ≡ unlinking m = sym q ∙ (λ i. s.pending (t.0 i) (t.1 i)) ∙ ok.change in absurd (cc))
not_raising s (Shrunk p c m d raised) n e r ok q away = refl
not_raising s (Lowered p c m d raised) n e r ok q away = dite (ℕ_discrete (at_link n e m d) 0) (λ z. z) (λ nz. let t = link_is n m e d nz in let x : raising r ≡ lowering (s.link m d) = sym q ∙ (λ i. s.pending (t.0 i) (t.1 i)) ∙ ok.row_link in absurd (cc))
not_raising s (Lifted p c m d raised) n e r ok q away =
    let a : at_link n e m d ≡ 0 = dite (ℕ_discrete (at_link n e m d) 0) (λ z. z) (λ nz. let t = link_is n m e d nz in let x : raising r ≡ lowering (s.link m d) = sym q ∙ (λ i. s.pending (t.0 i) (t.1 i)) ∙ ok.row_link in absurd (cc)) in
    let b : at_link n e raised (other d) ≡ 0 = dite (ℕ_discrete (at_link n e raised (other d)) 0) (λ z. z) (λ nz. let t = link_is n raised e (other d) nz in let x : raising r ≡ raising m = sym q ∙ (λ i. s.pending (t.0 i) (t.1 i)) ∙ ok.raised_link in let same : r ≡ m = cc in absurd (away (inr (inl same)))) in omega (arith, a, b)
not_raising s (Turned m) n e r ok q away = refl

module _ {about : About} {words : List ℕ} {views : List View} (k : Kept about words views) (id : ℕ) (v : View) (at : get_elem? views id ≡ some v) (whole : v.doing ≡ Nothing) where
  own_view : (j : ℕ) (u : View) → get_elem? views j ≡ some u → j ≡ id → u.doing ≡ Nothing
  own_view j u there same = ap (λ (z : View). z.doing) (some-injective u v (sym there ∙ ap (get_elem? views) same ∙ at)) ∙ whole

  -- nothing is pending at a row that the pass holds outside a change
  pub held_plain : (n : ℕ) → 0 < times n v.holds → (d : Side) → k.g.pending n d ≡ plain
  held_plain n held d = k.changes n d (none_total (λ u. changing n d u.doing) views (λ j u there. dite (ℕ_discrete j id)
      (λ same. ap (changing n d) (own_view j u there same))
      (λ ne. none_changing u.doing u.holds n d (k.held j u there) (others_apart views id v at k.m.rows n k.locked held j u ne there))))

  -- and none is raising it
  pub held_not_named : (r : ℕ) → 0 < times r v.holds → NotNamed (state_of k.m k.g) r
  held_not_named r held n e q =
      let z : k.g.pending n e ≡ plain = k.changes n e (none_total (λ u. changing n e u.doing) views (λ j u there. dite (ℕ_discrete j id)
      (λ same. ap (changing n e) (own_view j u there same))
      (λ ne. not_raising (state_of k.m k.g) u.doing n e r (k.doing j u there) q (λ c. omega (arith, k.held j u there r c, others_apart views id v at k.m.rows r k.locked held j u ne there))))) in
      let x : plain ≡ raising r = sym z ∙ q in cc

abbrev turning_debt : ℕ → ℕ → List Mark → Debt
turning_debt key r l = record { to_do = Some key; list = l; turning = Some r }

-- `mark_shrinking`
pub shrinks : (about : About) (slots id : ℕ) (me : Sat) (parent : ℕ) (p : Side) (r : ℕ) (d : Side) (raised x key : ℕ) → r ≤ about.rows → is_live me.0.role ≡ 1 → IsTurn me.0 parent p r d raised → TurnsFor me.0 parent r raised key → IsKnown me.0.words.knows r Stamp x → x % 4 ≡ 0 → count_of x < last_count → me.0.doing ≡ Nothing
    → Allows (Rule about) slots id me (word_at r Stamp) (λ _. x + 2) (λ _. shrinking_stored parent p r d raised key (step slots (word_at r Stamp) (x + 2) 0 maybe.none) me 0)
shrinks about slots id me parent p r d raised x key low is_pass turn aims stamp_known unmarked below_last whole s k wide at small =
    let v : View = me.0 in let w : View = shrunk v parent p r d raised (x + 2) key in let rows_wide = k.memory.wide in let near : r < length k.m.rows = omega arith in
    let o : Row = with_field Stamp (x + 2) (row k.m.rows r) in let rows' : List Row = changed k.m.rows r Stamp (x + 2) in let st : Table = state_of k.m k.g in
    let known = k.known id v at in let present = (k.present id v at).0 in
    let linked : (n : ℕ) → 0 < times n v.trail.reached → In n k.g.linked = λ n. in_of k.g.linked v.trail.reached n (k.reached id v at) in
    let alive : (n : ℕ) → 0 < times n v.trail.reached → IsBorn v n → IsLive st n = λ n l. born_live st k.m.rows k.m.epoch v n k.table refl refl refl known present (linked n l) in
    let live : IsLive st r = alive r turn.reached turn.born in
    let stamp : (row k.m.rows r).stamp ≡ x = known_is k.m.rows v.holds v.words.knows r Stamp x known stamp_known in
    let writing : in_write v.stage ≡ 1 = let held = turn.held in omega (arith, k.locked.writing id v at r, in_write_le v.stage) in
    let plain_at = held_plain k id v at whole in
    let child = known_is k.m.rows v.holds v.words.knows parent (link_field p) r known turn.child in
    let raised_link = known_is k.m.rows v.holds v.words.knows r (link_field d) raised known turn.raised_child in
    let links : k.g.links r d ≡ raised = sym (subst (kinds_fits st r d) (plain_at r turn.held d) (k.table.changes.fits r d (inr live.stands))) ∙ raised_link in
    let is_turn : IsRotation st parent p r d raised = record {
      parent_live = parent_is st p turn.parent_born (λ l b. alive parent l b);
      live = live;
      raised_live = alive raised turn.raised_reached turn.raised_born;
      child = child;
      raised_child = links;
      parent_plain = plain_at parent turn.held_parent p;
      row_plain = plain_at r turn.held (other d);
      apart = turn.apart;
    } in
    let clean : IsUnmarked (st.stamp r) = ap (λ (y : ℕ). y % 4) stamp ∙ unmarked in
    let may : rotation_kinds.MayMarkShrinking st r = record { writing = some_write s.views id v k.g.writers at k.writers writing; live = live; unmarked = clean; below_last = subst (λ (y : ℕ). count_of y < last_count) (sym stamp) below_last } in
    let s' : Table = state_of (record k.m { rows = rows' }) k.g in
    let path : s' ≡ rotation_kinds.shrinking_marked st r = sets k.m k.g r Stamp (x + 2) near ∙ ap (λ (y : ℕ). with_word st r Stamp (y + 2)) (sym stamp) in
    let away : ℕ → Type 0 = λ (n : ℕ). n ≢ r in
    let marked_st : Table = rotation_kinds.shrinking_marked st r in
    let new_stamp : marked_st.stamp r ≡ x + 2 = changed_same st.stamp r (st.stamp r + 2) ∙ ap (λ y. y + 2) stamp in
    let debt_is : shrink_debt marked_st r key v.debt ≡ w.debt = ap (turning_debt key r) (listing_is marked_st r (x + 2) v.debt.list new_stamp) in
    let debt_at : debts_of s.views id ≡ v.debt = debts_at s.views id v at in
    let parent_links : k.g.links parent p ≡ r = sym (subst (kinds_fits st parent p) (plain_at parent turn.held_parent p) (k.table.changes.fits parent p (parent_stands st p is_turn.parent_live))) ∙ child in
    let key_of : (n y : ℕ) → IsKnown v.words.knows n Key y → st.key n ≡ y = λ n y. known_is k.m.rows v.holds v.words.knows n Key y known in
    let key_is : AimsAtTurn marked_st (shrink_debt marked_st r key v.debt) r raised = ⊎_elim (λ h. inl (ap Some (sym (key_of r key h.0)))) (λ h. inr (ap Some (sym (key_of raised key h.0)))) aims in
    let aims_at : (n : ℕ) → AimsAt v n → Aims st (debts_of s.views id) n = λ n h. (h.is_row, ap (λ (u : Debt). u.to_do) debt_at ∙ h.to_do ∙ ap Some (sym (key_of n h.key h.is_key))) in
    let owe : HasRoom st k.m.next about.rows → (key ≡ st.key r) × (OwesNone st (debts_of s.views id) ⊎ Aims st (debts_of s.views id) r ⊎ Aims st (debts_of s.views id) parent) ⊎ (key ≡ st.key raised) × ((debts_of s.views id).to_do ≡ Some key) = λ room.
    ⊎_elim (λ h. inl (sym (key_of r key h.0), elim h.1 [ inl n ↦ inl (owes_none k id v at is_pass (inl n) room) | inr y ↦ elim y [ inl w ↦ inl (owes_none k id v at is_pass (inr w) room) | inr z ↦ elim z [ inl a ↦ inr (inl (aims_at r a)) | inr b ↦ inr (inr (aims_at parent b)) ] ] ]))
    (λ h. elim h.1 [ inl w ↦ absurd (no_room k id v at is_pass w room) | inr t ↦ inr (sym (key_of raised key h.0), ap (λ (u : Debt). u.to_do) debt_at ∙ t) ]) aims in
    let moves : Moves st s' away × DoingOk s' (Shrunk parent p r d raised) = subst (λ (z : Table). Moves st z away × DoingOk z (Shrunk parent p r d raised)) (sym path)
    ((shrink_evolves st r may, shrink_keeps st k.table r may, λ n ne. shrink_apart st n r ne), shrink_doing st parent p r d raised is_turn clean (plain_at r turn.held d) (held_not_named k id v at whole r turn.held)) in (
      w,
      keeps,
      tt,
      rewriting about s.words s.views k id v w at (set s.words (word_at r Stamp) (x + 2)) rows' k.g away (cell_set k.memory r Stamp low (x + 2)) moves
          (λ n e none. k.changes n e (omega (arith, none, ap (changing n e) whole, total-set (λ u. changing n e u.doing) s.views id v w at)))
          (λ n c. concerned v turn n c)
          (λ j u ne there n c q. omega (arith, k.held j u there n c, others_apart s.views id v at k.m.rows r k.locked turn.held j u ne there, ap (λ (i : ℕ). times i u.holds) q))
          (locks_stay s.views id v at k.m.rows r o w k.locked refl near refl refl refl)
          (each_others s.views id v at w (λ j u ne there. facts_elsewhere k.m.rows r o u.holds u.holds u.words.knows (k.known j u there) (others_apart s.views id v at k.m.rows r k.locked turn.held j u ne there) (λ y. omega arith))
          (ap (λ (y : Row). y.stamp) (row_same k.m.rows r o near), turn.held, facts_left k.m.rows r Stamp (x + 2) v.holds v.words.knows near known))
          (k.reached id v at)
          (apart_changed s.views id v w at k.m.next k.m.rows k.g.linked k.apart (λ u j there. omega (arith, k.drawn.none_zero, term_le (times_drawn 0) s.views j u there)) r o
          (λ y pos z ne. let q = row_other k.m.rows r y o ne in let f = k.apart.fresh y pos z in (ap (λ (i : Row). i.lock) q ∙ f.0, ap (λ (i : Row). i.stamp) q ∙ f.1)) (λ pos. in_times r k.g.linked (linked r turn.reached)) refl refl refl)
          (λ n none. let sum = total-set (λ u. lowers n u.doing) s.views id v w at in let was : lowers n v.doing ≡ 0 = ap (lowers n) whole in dite (ℕ_discrete n r) (λ e z. absurd (omega (arith, none, sum, was, one_same n r e)))
          (λ ne z. k.marked n (omega (arith, none, sum, was)) (subst (λ (y : Row). IsShrinking y.stamp) (row_other k.m.rows r n o ne) z))) (
            (λ j u ne there n c. leaves_apart st s' n (moves.0.2 n (λ q. omega (arith, c, others_apart s.views id v at k.m.rows r k.locked turn.held j u ne there, ap (λ (i : ℕ). times i u.holds) q))) (heights_same k.m.rows r o near refl)),
            heights_kept st s' v.holds v.heights (λ n c. ((λ l. subst (λ (z : Table). IsLive z n) (sym path) (record { stands = l.stands; own = λ h. l.own (record { is_row = h.is_row; older = h.older }) })), λ l e. heights_plain s' st n e (heights_same k.m.rows r o near refl) refl)) (k.heights id v at),
            (
              subst (λ (z : Table). DebtDoing z (Shrunk parent p r d raised) w.debt) (sym path) (subst (DebtDoing marked_st (Shrunk parent p r d raised)) debt_is
                  (record { turning = refl; owes = noted_here marked_st r v.debt.list (not_zero st k.table r live.stands) }, key_is)),
              (λ z. absurd (omega (arith, z, writing))),
            ),
            λ room ok. subst (λ (z : Table). DebtOk z (updates.changed (debts_of s.views) id w.debt)) (sym path)
                (subst (λ (u : Debt). DebtOk marked_st (updates.changed (debts_of s.views) id u)) (ap (shrink_debt marked_st r key) debt_at ∙ debt_is)
                (shrink_owes st (debts_of s.views) id parent p r d raised key k.table ok (record {
                  parent_live = is_turn.parent_live;
                  live = live;
                  child = parent_links;
                  raised_child = links;
                  is_raised = not_zero st k.table raised is_turn.raised_live.stands;
                  to_do = owe room;
                  free = held_free k id v at r turn.held;
                }))),
          ),
      refl,
    )
  where
    kinds_fits : (s : Table) (n : ℕ) (d : Side) → Rattle.snap_rule.specs.State.Change → Type 0
    kinds_fits s n d c = Rattle.snap_rule.specs.Rule.LinkFits s n d c

    parent_is : (s : Table) (p : Side) → ((parent ≡ 0) × (p ≡ sides.Right)) ⊎ ((0 < times parent me.0.trail.reached) × IsBorn me.0 parent) → (0 < times parent me.0.trail.reached → IsBorn me.0 parent → IsLive s parent) → rule.IsParent s parent p
    parent_is s p (inl z) f = inl z
    parent_is s p (inr h) f = inr (f h.0 h.1)

    parent_stands : (s : Table) (p : Side) → rule.IsParent s parent p → (parent ≡ 0) ⊎ Stands parent s.tree
    parent_stands s p (inl z) = inl z.0
    parent_stands s p (inr l) = inr l.stands

    concerned : (v : View) → IsTurn v parent p r d raised → (n : ℕ) → (n ≡ parent) ⊎ (n ≡ r) ⊎ (n ≡ raised) → 0 < times n v.holds
    concerned v t n (inl e) = subst (λ (y : ℕ). 0 < times y v.holds) (sym e) t.held_parent
    concerned v t n (inr (inl e)) = subst (λ (y : ℕ). 0 < times y v.holds) (sym e) t.held
    concerned v t n (inr (inr e)) = subst (λ (y : ℕ). 0 < times y v.holds) (sym e) t.held_raised
