-- Storing a height keeps the rule.
use Rattle.std.proofs.Common.{◌≡◌, ◌≢◌, ◌<◌, ◌≤◌, ◌⊎◌, ◌∙◌, ⊎_elim, inl, inr, ℕ, zero, suc, refl, sym, ap, subst, arith, List, [], ◌∷◌, length, set, Some, None, Option, max}
use mathlib.Core.Option as maybe
use Rattle.atomic_table.specs.Table.{step, keeps, Allows}
use Rattle.snap_rule.proofs.Debts.Heights.{child_loaded, heights_height}
use Rattle.snap_rule.proofs.Debts.Trees.{true_link}
use Rattle.snap_rule.proofs.Debts.Turns.{height_owes, not_zero}
use Rattle.snap_rule.proofs.Evolving.Silent.{height_evolves}
use Rattle.snap_rule.proofs.LeftAlone.{height_apart}
use Rattle.snap_rule.proofs.Table.{height_keeps}
use Rattle.snap_rule.specs.Debt.{DebtOk, IsListed, Owes}
use Rattle.snap_rule.specs.Debt.Changes.{DebtDoing}
use Rattle.snap_rule.specs.Debt.Kinds.{height_debt}
use Rattle.snap_rule.specs.Debt.Lists.{Aims, or_else}
use Rattle.snap_rule.specs.Doing.{DoingOk}
use Rattle.snap_rule.specs.Kinds.Words as kinds
use Rattle.snap_rule.specs.Room.{HasRoom}
use Rattle.snap_rule.specs.Rule.{IsLive, IsParent}
use Rattle.snap_rule.specs.Settled.{child_height, one_more}
use Rattle.snap_rule.specs.State.{State as Table, In, Beside}
use Rattle.snap_rule.specs.TreeChanges.{with_height}
use Rattle.snap_rule.specs.Updates as updates
use Rattle.snap_rule.specs.declared.change.Doing.{Doing}
use Rattle.snap_rule.specs.declared.change.Doing.TheVariants.{Nothing}
use Rattle.snap_rule.specs.declared.debt.Debt.{Debt}
use Rattle.snap_rule.specs.declared.debt.Mark.{Mark}
use Rattle.snap_stamp.specs.Layout.{word_at}
use Rattle.snap_stamp.specs.declared.layout.Field.{Field}
use Rattle.snap_stamp.specs.declared.layout.Field.TheVariants.{Key, Stamp, Height}
use Rattle.snap_stamp.specs.declared.side.Side.{Side}
use Rattle.snap_stamp.specs.declared.side.Side.TheVariants as sides
use Rattle.snap_steps.specs.Numbers.{times_drawn}
use Rattle.snap_steps.specs.Counting.{times}
use Rattle.snap_steps.specs.Facts.{IsBorn, IsKnown, word_in}
use Rattle.snap_steps.specs.Memory.{Row, row, field, with_field}
use Rattle.snap_steps.specs.Roles.{is_live}
use Rattle.snap_steps.specs.Rule.Changes.{changing}
use Rattle.snap_steps.specs.Rule.Debts.{debts_of}
use Rattle.snap_steps.specs.Rule.Heights.{AreHeights}
use Rattle.snap_steps.specs.Stages.{in_write}
use Rattle.snap_steps.specs.States.{state_of, link_field}
use Rattle.snap_steps.specs.Steps.Changes.{AimsAt}
use Rattle.snap_steps.specs.Steps.Debts.{listing}
use Rattle.snap_steps.specs.Steps.Settling.{AimsByHeight, HasHeight, IsBelow, IsRightHeight, heightened, StoresHeight}
use Rattle.snap_steps.specs.Steps.Told.{Sat}
use Rattle.snap_steps.specs.Steps.Unlinking.{IsPair}
use Rattle.snap_steps.specs.declared.rule.About.{About}
use Rattle.snap_steps.specs.declared.view.ChildHeight.{ChildHeight}
use Rattle.snap_steps.specs.declared.view.View.{View}
use Rattle.snap_steps.proofs.Cells.{changed, cell_set, row_same, row_other}
use Rattle.snap_steps.proofs.Classes.Entering.{some_write, born_live}
use Rattle.snap_steps.proofs.Classes.Rewriting.{rewriting}
use Rattle.snap_steps.proofs.Classes.Turning.{Rule}
use Rattle.snap_steps.proofs.EachView.{each_others}
use Rattle.snap_steps.proofs.Keeps.Changes.{held_plain}
use Rattle.snap_steps.proofs.Knowing.{facts_elsewhere, facts_left, known_is, known_word}
use Rattle.snap_steps.proofs.Owing.{no_room, held_free, listing_is}
use Rattle.snap_steps.proofs.Parts.Apart.{apart_changed}
use Rattle.snap_steps.proofs.Parts.Counts.{in_write_le}
use Rattle.snap_steps.proofs.Parts.Debts.{debts_at}
use Rattle.snap_steps.proofs.Parts.Heights.{LeavesHeights, heights_but}
use Rattle.snap_steps.proofs.Parts.Locks.{others_apart, locks_stay}
use Rattle.snap_steps.proofs.Parts.Marks.{marks_stay, stamps_same}
use Rattle.snap_steps.proofs.Reached.{in_of}
use Rattle.snap_steps.proofs.States.{sets}
use Rattle.snap_steps.proofs.Tables.{Moves, Anywhere, in_times}
use Rattle.snap_steps.proofs.Totals.{total-set, term_le}

-- what was loaded of a height
pub below_is : (s : Table) (holds : List ℕ) (l : List ChildHeight) (r : ℕ) (d : Side) (h : ℕ) → AreHeights s holds l → IsBelow l r d h → child_height s r d ≡ h
below_is s holds [] r d h are is = absurd is
below_is s holds (x ∷ xs) r d h are (inl e) = (λ i. child_height s (sym e.0 i) (sym e.1 i)) ∙ are.0.height ∙ e.2
below_is s holds (x ∷ xs) r d h are (inr is) = below_is s holds xs r d h are.1 is

abbrev debt_with : Option ℕ → ℕ → List Mark → Option ℕ → Debt
debt_with to_do key l turning = record { to_do = or_else to_do key; list = l; turning = turning }

pub noted_is : (s : Table) (n x : ℕ) (l : List Mark) → (n ≡ 0) ⊎ (s.stamp n ≡ x) → Rattle.snap_rule.specs.Debt.Lists.noted s n l ≡ listing n x l
noted_is s zero x l a = refl
noted_is s (suc n) x l (inl z) = absurd (omega (arith, z))
noted_is s (suc n) x l (inr e) = listing_is s (suc n) x l e

-- `store_height`
pub raises : (about : About) (slots id : ℕ) (me : Sat) (parent : ℕ) (p : Side) (r key h : ℕ) → r ≤ about.rows → is_live me.0.role ≡ 1 → IsPair me.0 parent p r → IsKnown me.0.words.knows r Key key → IsRightHeight me.0 r h → AimsByHeight me.0 parent r → me.0.doing ≡ Nothing
    → Allows (Rule about) slots id me (word_at r Height) (λ _. h) (λ _. StoresHeight parent r key (step slots (word_at r Height) h 0 maybe.none) me 0)
raises about slots id me parent p r key h low is_pass pair key_known right aims whole s k wide at small =
    let v : View = me.0 in let w : View = heightened v parent r key h in let rows_wide = k.memory.wide in let near : r < length k.m.rows = omega arith in
    let o : Row = with_field Height h (row k.m.rows r) in let rows' : List Row = changed k.m.rows r Height h in let st : Table = state_of k.m k.g in
    let known = k.known id v at in let present = (k.present id v at).0 in
    let linked : (n : ℕ) → 0 < times n v.trail.reached → In n k.g.linked = λ n. in_of k.g.linked v.trail.reached n (k.reached id v at) in
    let alive : (n : ℕ) → 0 < times n v.trail.reached → IsBorn v n → IsLive st n = λ n l. born_live st k.m.rows k.m.epoch v n k.table refl refl refl known present (linked n l) in
    let word : (n : ℕ) (f : Field) (y : ℕ) → IsKnown v.words.knows n f y → field f (row k.m.rows n) ≡ y = λ n f y. known_is k.m.rows v.holds v.words.knows n f y known in
    let live : IsLive st r = alive r pair.reached pair.born in
    let parent_live : IsParent st parent p = ⊎_elim (λ z. inl z) (λ q. inr (alive parent q.0 q.1)) pair.upper in
    let writing : in_write v.stage ≡ 1 = let held = pair.held in omega (arith, k.locked.writing id v at r, in_write_le v.stage) in
    let plain_at = held_plain k id v at whole in
    let child : k.g.links parent p ≡ r = sym (true_link st parent p k.table parent_live (plain_at parent pair.held_parent p)) ∙ word parent (link_field p) r pair.child in
    let is_row : r ≢ 0 = not_zero st k.table r live.stands in
    let below : (d : Side) (x : ℕ) → HasHeight v r d x → child_height st r d ≡ x = λ d x q. ⊎_elim (λ z. (child_loaded st r d 0 k.table (inr live) (plain_at r pair.held d) (word r (link_field d) 0 z.0)).1 refl ∙ sym z.1) (λ z. below_is st v.holds v.heights r d x (k.heights id v at) z) q in
    let is_height : h ≡ one_more (max (child_height st r sides.Left) (child_height st r sides.Right)) = right.sum ∙ (λ i. one_more (max (sym (below sides.Left right.left right.has_left) i) (sym (below sides.Right right.right right.has_right) i))) in
    let may : kinds.MayStoreHeight st r = record { writing = some_write s.views id v k.g.writers at k.writers writing; live = live } in
    let b : Beside = record k.g { tree = with_height r h k.g.tree } in
    let s' : Table = state_of (record k.m { rows = rows' }) b in
    let raised_st : Table = kinds.height_stored st r h in
    let path : s' ≡ raised_st = sets k.m b r Height h near in
    let moves : Moves st s' Anywhere × DoingOk s' v.doing = (subst (λ (z : Table). Moves st z Anywhere) (sym path) (height_evolves st r h may, height_keeps st k.table r h, λ n _. height_apart st n r h), subst (DoingOk s') (sym whole) tt) in
    let leaves : (n : ℕ) → n ≢ parent → LeavesHeights st s' n = λ n ne. ((moves.0.2 n tt).live, λ l d. subst (λ (z : Table). child_height z n d ≡ child_height st n d) (sym path) (heights_height st parent p r h n d k.table parent_live child is_row (inr l) ne)) in
    let debt_at : debts_of s.views id ≡ v.debt = debts_at s.views id v at in
    let aims_at : (n : ℕ) → AimsAt v n → Aims st (debts_of s.views id) n = λ n q. (q.is_row, ap (λ (u : Debt). u.to_do) debt_at ∙ q.to_do ∙ ap Some (sym (word n Key q.key q.is_key))) in
    let owe : HasRoom st k.m.next about.rows → ((debts_of s.views id).to_do ≡ None) ⊎ Aims st (debts_of s.views id) r ⊎ Aims st (debts_of s.views id) parent ⊎ Owes st (debts_of s.views id) parent ⊎ (parent ≡ 0) = λ room.
    elim aims [ inl why ↦ absurd (no_room k id v at is_pass why room) | inr y ↦ elim y [ inl n ↦ inl (ap (λ (u : Debt). u.to_do) debt_at ∙ n) | inr z ↦ elim z [ inl a ↦ inr (inl (aims_at r a)) | inr q ↦ elim q [ inl a ↦ inr (inr (inl (aims_at parent a))) | inr t ↦ elim t [ inl n ↦ inr (inr (inr (inl (subst (λ (u : Debt). Owes st u parent) (sym debt_at) (subst (λ (x : ℕ). IsListed parent x v.debt.list) (sym (word parent Stamp n.stamp n.still)) n.listed))))) | inr z ↦ inr (inr (inr (inr z))) ] ] ] ] ] in
    let parent_stamp : (parent ≡ 0) ⊎ (st.stamp parent ≡ word_in v.words.knows parent Stamp) = ⊎_elim (λ z. inl z.0) (λ q. let born = q.1 in inr (known_word k.m.rows v.holds v.words.knows parent Stamp born.stamp known born.is_stamp)) pair.upper in
    let debt_is : height_debt st parent r (debts_of s.views id) ≡ w.debt = ap (height_debt st parent r) debt_at ∙ ap (λ (y : ℕ). debt_with v.debt.to_do y (Rattle.snap_rule.specs.Debt.Lists.noted st parent v.debt.list) v.debt.turning) (word r Key key key_known) ∙ ap (λ (l : List Mark). debt_with v.debt.to_do key l v.debt.turning) (noted_is st parent (word_in v.words.knows parent Stamp) v.debt.list parent_stamp) in (
      w,
      keeps,
      tt,
      rewriting about s.words s.views k id v w at (set s.words (word_at r Height) h) rows' b Anywhere (cell_set k.memory r Height low h) moves
          (λ n e none. k.changes n e (omega (arith, none, total-set (λ u. changing n e u.doing) s.views id v w at)))
          (λ n c. k.held id v at n c)
          (λ j u ne there n c. tt)
          (locks_stay s.views id v at k.m.rows r o w k.locked refl near refl refl refl)
          (each_others s.views id v at w (λ j u ne there. facts_elsewhere k.m.rows r o u.holds u.holds u.words.knows (k.known j u there) (others_apart s.views id v at k.m.rows r k.locked pair.held j u ne there) (λ y. omega arith))
          (ap (λ (y : Row). y.height) (row_same k.m.rows r o near), pair.held, facts_left k.m.rows r Height h v.holds v.words.knows near known))
          (k.reached id v at)
          (apart_changed s.views id v w at k.m.next k.m.rows k.g.linked k.apart (λ u j there. omega (arith, k.drawn.none_zero, term_le (times_drawn 0) s.views j u there)) r o
          (λ y pos z ne. let q = row_other k.m.rows r y o ne in let f = k.apart.fresh y pos z in (ap (λ (i : Row). i.lock) q ∙ f.0, ap (λ (i : Row). i.stamp) q ∙ f.1)) (λ pos. in_times r k.g.linked (linked r pair.reached)) refl refl refl)
          (marks_stay s.views id v w k.m.rows rows' at k.marked (stamps_same k.m.rows r o near refl) refl) (
            (λ j u ne there n c. leaves n (λ q. omega (arith, c, others_apart s.views id v at k.m.rows parent k.locked pair.held_parent j u ne there, ap (λ (i : ℕ). times i u.holds) q))),
            heights_but st s' parent v.holds v.heights (λ n c ne. leaves n ne) (k.heights id v at),
            (subst (λ (g : Doing). DebtDoing s' g w.debt) (sym whole) (subst (λ (g : Doing). DebtDoing st g v.debt) whole (k.debts id v at).0), (λ z. absurd (omega (arith, z, writing)))),
            λ room ok. subst (λ (z : Table). DebtOk z (updates.changed (debts_of s.views) id w.debt)) (sym path)
                (subst (λ (u : Debt). DebtOk raised_st (updates.changed (debts_of s.views) id u)) debt_is
                (height_owes st (debts_of s.views) id parent p r h k.table ok (record {
                  parent_live = parent_live;
                  live = live;
                  child = child;
                  apart = pair.apart;
                  is_height = is_height;
                  path = owe room;
                  free = held_free k id v at parent pair.held_parent;
                }))),
          ),
      refl,
    )
