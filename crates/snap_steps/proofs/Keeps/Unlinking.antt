-- The two steps of an unlinking keep the rule.
use Rattle.std.proofs.Common.{◌≡◌, ◌≢◌, ◌<◌, ◌≤◌, ◌⊎◌, ◌+◌, ◌%◌, ◌∙◌, ⊎_elim, inl, inr, ℕ, zero, suc, refl, sym, ap, subst, arith, List, length, set, Some, None, eq-eqb, ne_eqb}
use lib.ListN.{get_elem?}
use mathlib.Core.Logic.{dite}
use mathlib.Core.Option.{some}
use mathlib.Core.Option as maybe
use native.Mathlib.Decide.{ℕ_discrete}
use Rattle.atomic_table.specs.Table.{step, keeps, Allows}
use Rattle.snap_rule.proofs.Debts.Silent.{silent_owes, splice_silent}
use Rattle.snap_rule.proofs.Debts.Trees.{unlink_owes}
use Rattle.snap_rule.proofs.Evolving.Silent.{splice_evolves}
use Rattle.snap_rule.proofs.Evolving.Telling.{unlink_evolves}
use Rattle.snap_rule.proofs.InChange.{unlink_doing, splice_doing}
use Rattle.snap_rule.proofs.LeftAlone.{unlink_apart, splice_apart}
use Rattle.snap_rule.proofs.Table.{unlink_keeps, splice_keeps}
use Rattle.snap_rule.proofs.Updates.{relink_same, relink_away}
use Rattle.snap_rule.specs.Debt.{DebtOk, OwesNone}
use Rattle.snap_rule.specs.Debt.Changes.{DebtDoing}
use Rattle.snap_rule.specs.Debt.Lists.{Aims, aimed, noted, taken}
use Rattle.snap_rule.specs.Doing.{Concerns, DoingOk}
use Rattle.snap_rule.specs.Kinds.Unlinking as kinds
use Rattle.snap_rule.specs.Room.{HasRoom}
use Rattle.snap_rule.specs.Rule.{IsLive, IsParent}
use Rattle.snap_rule.specs.State.{State as Table, In, Beside}
use Rattle.snap_rule.specs.State.Change.{plain, unlinking}
use Rattle.snap_rule.specs.TreeChanges.{without}
use Rattle.snap_rule.specs.Updates as updates
use Rattle.snap_rule.specs.declared.change.Doing.{Doing}
use Rattle.snap_rule.specs.declared.change.Doing.TheVariants.{Nothing, Unlinked}
use Rattle.snap_rule.specs.declared.debt.Debt.{Debt}
use Rattle.snap_rule.specs.declared.debt.Mark.{Mark}
use Rattle.snap_stamp.specs.Layout.{word_at}
use Rattle.snap_stamp.specs.Stamps.{IsShrinking}
use Rattle.snap_stamp.specs.declared.layout.Field.{Field}
use Rattle.snap_stamp.specs.declared.layout.Field.TheVariants.{Key, Stamp, Left, Right, Value, Lock}
use Rattle.snap_stamp.specs.declared.side.Side.{Side}
use Rattle.snap_stamp.specs.declared.side.Side.TheVariants as sides
use Rattle.snap_steps.specs.Numbers.{times_drawn}
use Rattle.snap_steps.specs.Counting.{times}
use Rattle.snap_steps.specs.Facts.{IsBorn, IsKnown, heights_forgotten, word_in}
use Rattle.snap_steps.specs.Memory.{Row, row, field, with_field}
use Rattle.snap_steps.specs.Roles.{is_live}
use Rattle.snap_steps.specs.Rule.Changes.{at_link, changing}
use Rattle.snap_steps.specs.Rule.Debts.{debts_of}
use Rattle.snap_steps.specs.Rule.Marks.{lowers}
use Rattle.snap_steps.specs.Stages.{in_write}
use Rattle.snap_steps.specs.States.{state_of, link_field, with_word}
use Rattle.snap_steps.specs.Steps.Changes.{AimsAt}
use Rattle.snap_steps.specs.Steps.Debts.{listing, aimed_at}
use Rattle.snap_steps.specs.Steps.Told.{Sat}
use Rattle.snap_steps.specs.Steps.Unlinking.{IsPair, IsRouting, HasKey, AimsNear, unlinked, row_spliced, unlinked_stored, splice_stored}
use Rattle.snap_steps.specs.declared.rule.About.{About}
use Rattle.snap_steps.specs.declared.view.View.{View}
use Rattle.snap_steps.proofs.Cells.{changed, cell_set, row_same, row_other, field_same, field_other}
use Rattle.snap_steps.proofs.Classes.Entering.{some_write, born_live}
use Rattle.snap_steps.proofs.Classes.Rewriting.{rewriting}
use Rattle.snap_steps.proofs.Classes.Turning.{Rule}
use Rattle.snap_steps.proofs.EachView.{each_others}
use Rattle.snap_steps.proofs.Keeps.Changes.{held_plain, link_is}
use Rattle.snap_steps.proofs.Keeps.Leaf.{with_link, no_lock}
use Rattle.snap_steps.proofs.Knowing.{facts_elsewhere, facts_left, known_is, known_word}
use Rattle.snap_steps.proofs.Owing.{owes_none, held_free}
use Rattle.snap_steps.proofs.Parts.Apart.{apart_changed}
use Rattle.snap_steps.proofs.Parts.Counts.{in_write_le}
use Rattle.snap_steps.proofs.Parts.Debts.{debts_at, owed_itself}
use Rattle.snap_steps.proofs.Parts.Heights.{leaves_apart, heights_same, heights_kept, heights_where, heights_fewer, heights_plain, rows_but, rows_still, link_height}
use Rattle.snap_steps.proofs.Parts.Locks.{others_apart, locks_stay}
use Rattle.snap_steps.proofs.Parts.Marks.{stamps_same, link_stamp}
use Rattle.snap_steps.proofs.Reached.{in_of}
use Rattle.snap_steps.proofs.States.{sets}
use Rattle.snap_steps.proofs.Tables.{Moves, in_times}
use Rattle.snap_steps.proofs.Totals.{total-set, term_le, one_same}

-- the debt by what is known of the parent
aims_up : (s : Table) (n key x r : ℕ) (l : List Mark) → (n ≡ 0) ⊎ (s.key n ≡ key) → (n ≡ 0) ⊎ (s.stamp n ≡ x) → aimed s n (taken r (noted s n l)) ≡ aimed_at n key (taken r (listing n x l))
aims_up s zero key x r l a b = refl
aims_up s (suc n) key x r l (inl z) b = absurd (omega (arith, z))
aims_up s (suc n) key x r l (inr e) (inl z) = absurd (omega (arith, z))
aims_up s (suc n) key x r l (inr e) (inr f) = ap (λ k. aimed_at (suc n) k (taken r (listing (suc n) (s.stamp (suc n)) l))) e ∙ ap (λ y. aimed_at (suc n) key (taken r (listing (suc n) y l))) f

no_turn : (n key : ℕ) (l : List Mark) → (aimed_at n key l).turning ≡ None
no_turn zero key l = refl
no_turn (suc n) key l = refl

-- the one child
only_is : (s : Table) (r only : ℕ) → ((s.link r sides.Left ≡ 0) × (s.link r sides.Right ≡ only)) ⊎ ((s.link r sides.Right ≡ 0) × (s.link r sides.Left ≡ only)) → kinds.only_child s r ≡ only
only_is s r only (inl h) = rw (eq-eqb (s.link r sides.Left) 0 h.0) h.1
only_is s r only (inr h) = dite (ℕ_discrete (s.link r sides.Left) 0) (λ z. rw (eq-eqb (s.link r sides.Left) 0 z) (h.0 ∙ sym (sym h.1 ∙ z))) (λ ne. rw (ne_eqb (s.link r sides.Left) 0 ne) h.1)

pub same_live : (s s' : Table) (n : ℕ) → s'.tree ≡ s.tree → s'.birth ≡ s.birth → s'.epoch ≡ s.epoch → IsLive s n → IsLive s' n
same_live s s' n tree birth epoch l = record {
  stands = subst (λ t. Rattle.snap_rule.specs.Tree.Stands n t) (sym tree) l.stands;
  own = λ h. l.own (record { is_row = h.is_row; older = let o = h.older in omega (arith, ap (λ f. f n) birth, epoch) });
}

pub at_same : (n : ℕ) (d : Side) → at_link n d n d ≡ 1
at_same n sides.Left = one_same n n refl
at_same n sides.Right = one_same n n refl

pub upper_in : (s : Table) (n : ℕ) (d : Side) → ((m : ℕ) → IsLive s m → In m s.linked) → IsParent s n d → 0 < n → In n s.linked
upper_in s n d linked (inl z) pos = absurd (omega (arith, z.0))
upper_in s n d linked (inr l) pos = linked n l

-- `mark_unlinked`
pub unlinks : (about : About) (slots id : ℕ) (me : Sat) (parent : ℕ) (p : Side) (r only key x : ℕ) → r ≤ about.rows → is_live me.0.role ≡ 1 → IsPair me.0 parent p r → IsRouting me.0 r only → IsKnown me.0.words.knows r Stamp x → x % 4 ≡ 0 → HasKey me.0 parent key → AimsNear me.0 parent r → me.0.doing ≡ Nothing
    → Allows (Rule about) slots id me (word_at r Stamp) (λ _. x + 1) (λ _. unlinked_stored parent p r only key (step slots (word_at r Stamp) (x + 1) 0 maybe.none) me 0)
unlinks about slots id me parent p r only key x low is_pass pair routing stamp_known unmarked key_known aims whole s k wide at small =
    let v : View = me.0 in let w : View = unlinked v parent p r only key (x + 1) in let rows_wide = k.memory.wide in let near : r < length k.m.rows = omega arith in
    let o : Row = with_field Stamp (x + 1) (row k.m.rows r) in let rows' : List Row = changed k.m.rows r Stamp (x + 1) in let st : Table = state_of k.m k.g in
    let known = k.known id v at in let present = (k.present id v at).0 in
    let linked : (n : ℕ) → 0 < times n v.trail.reached → In n k.g.linked = λ n. in_of k.g.linked v.trail.reached n (k.reached id v at) in
    let alive : (n : ℕ) → 0 < times n v.trail.reached → IsBorn v n → IsLive st n = λ n l. born_live st k.m.rows k.m.epoch v n k.table refl refl refl known present (linked n l) in
    let word : (n : ℕ) (f : Field) (y : ℕ) → IsKnown v.words.knows n f y → field f (row k.m.rows n) ≡ y = λ n f y. known_is k.m.rows v.holds v.words.knows n f y known in
    let live : IsLive st r = alive r pair.reached pair.born in
    let parent_live : IsParent st parent p = ⊎_elim (λ z. inl z) (λ h. inr (alive parent h.0 h.1)) pair.upper in
    let writing : in_write v.stage ≡ 1 = let held = pair.held in omega (arith, k.locked.writing id v at r, in_write_le v.stage) in
    let plain_at = held_plain k id v at whole in
    let stamp : (row k.m.rows r).stamp ≡ x = word r Stamp x stamp_known in
    let links_are : ((st.link r sides.Left ≡ 0) × (st.link r sides.Right ≡ only)) ⊎ ((st.link r sides.Right ≡ 0) × (st.link r sides.Left ≡ only)) = ⊎_elim (λ h. inl (word r Left 0 h.0, word r Right only h.1)) (λ h. inr (word r Right 0 h.0, word r Left only h.1)) routing.one in
    let may : kinds.MayMarkUnlinked st parent p r = record {
      writing = some_write s.views id v k.g.writers at k.writers writing;
      parent_live = parent_live;
      live = live;
      child = link_word (λ f. field f (row k.m.rows parent)) (word parent (link_field p) r pair.child);
      no_change = λ n e which. ⊎_elim (λ q. subst (λ y. k.g.pending y e ≡ plain) (sym q) (plain_at parent pair.held_parent e)) (λ q. subst (λ y. k.g.pending y e ≡ plain) (sym q) (plain_at r pair.held e)) which;
      unmarked = ap (λ (y : ℕ). y % 4) stamp ∙ unmarked;
      no_value = word r Value 0 routing.no_value;
      apart = pair.apart;
      one_child = ⊎_elim (λ h. inl h.0) (λ h. inr h.0) links_are;
    } in
    let is_only : kinds.only_child st r ≡ only = only_is st r only links_are in
    let b : Beside = record k.g { links = updates.relink k.g.links parent p (kinds.only_child st r); tree = without r k.g.tree; pending = updates.relink k.g.pending parent p (unlinking r) } in
    let s' : Table = state_of (record k.m { rows = rows' }) b in
    let marked_st : Table = kinds.unlinked_marked st parent p r in
    let path : s' ≡ marked_st = sets k.m b r Stamp (x + 1) near ∙ ap (λ (y : ℕ). with_word (state_of k.m b) r Stamp (y + 1)) (sym stamp) in
    let away : ℕ → Type 0 = λ (n : ℕ). (n ≢ parent) × (n ≢ r) in
    let moves : Moves st s' away × DoingOk s' (Unlinked parent p r only) = subst (λ (z : Table). Moves st z away × DoingOk z (Unlinked parent p r only)) (sym path) (
      (unlink_evolves st parent p r k.table.tree k.table.changes may, unlink_keeps st k.table parent p r may, λ n q. unlink_apart st n parent p r k.table.tree k.table.changes may q.0 q.1),
      subst (λ (y : ℕ). DoingOk marked_st (Unlinked parent p r y)) is_only (unlink_doing st parent p r k.table.tree k.table.changes may),
    ) in
    let theirs : (j : ℕ) (u : View) → j ≢ id → get_elem? s.views j ≡ some u → (n : ℕ) → 0 < times n u.holds → (n ≢ parent) × (n ≢ r) = λ j u ne there n c. (
      (λ q. omega (arith, c, others_apart s.views id v at k.m.rows parent k.locked pair.held_parent j u ne there, ap (λ (i : ℕ). times i u.holds) q)),
      (λ q. omega (arith, c, others_apart s.views id v at k.m.rows r k.locked pair.held j u ne there, ap (λ (i : ℕ). times i u.holds) q)),
    ) in
    let debt_at : debts_of s.views id ≡ v.debt = debts_at s.views id v at in
    let aims_at : (n : ℕ) → AimsAt v n → Aims st (debts_of s.views id) n = λ n h. (h.is_row, ap (λ (u : Debt). u.to_do) debt_at ∙ h.to_do ∙ ap Some (sym (word n Key h.key h.is_key))) in
    let owe : HasRoom st k.m.next about.rows → OwesNone st (debts_of s.views id) ⊎ Aims st (debts_of s.views id) r ⊎ Aims st (debts_of s.views id) parent = λ room.
    elim aims [ inl n ↦ inl (owes_none k id v at is_pass (inl n) room) | inr y ↦ elim y [ inl why ↦ inl (owes_none k id v at is_pass (inr why) room) | inr z ↦ elim z [ inl a ↦ inr (inl (aims_at r a)) | inr c ↦ inr (inr (aims_at parent c)) ] ] ] in
    let parent_stamp : (parent ≡ 0) ⊎ (st.stamp parent ≡ word_in v.words.knows parent Stamp) = ⊎_elim (λ z. inl z.0) (λ h. let born = h.1 in inr (known_word k.m.rows v.holds v.words.knows parent Stamp born.stamp known born.is_stamp)) pair.upper in
    let parent_key : (parent ≡ 0) ⊎ (st.key parent ≡ key) = ⊎_elim (λ z. inl z) (λ h. inr (word parent Key key h)) key_known in
    let debt_is : aimed st parent (taken r (noted st parent (debts_of s.views id).list)) ≡ w.debt = ap (λ (u : Debt). aimed st parent (taken r (noted st parent u.list))) debt_at ∙ aims_up st parent key (word_in v.words.knows parent Stamp) r v.debt.list parent_key parent_stamp in
    let heights = same_heights rows' near in (
      w,
      keeps,
      tt,
      rewriting about s.words s.views k id v w at (set s.words (word_at r Stamp) (x + 1)) rows' b away (cell_set k.memory r Stamp low (x + 1)) moves
          (λ n e none. let sum = total-set (λ u. changing n e u.doing) s.views id v w at in let was : changing n e v.doing ≡ 0 = ap (changing n e) whole in
          dite (ℕ_discrete (at_link n e parent p) 0) (λ z. relink_away k.g.pending parent p (unlinking r) n e (λ q. let one : at_link n e parent p ≡ 1 = (λ i. at_link (q.0 i) (q.1 i) parent p) ∙ at_same parent p in omega (arith, z, one)) ∙ k.changes n e (omega (arith, none, sum, was, z)))
          (λ nz. absurd (omega (arith, none, sum, was, nz))))
          (λ n c. subst (λ (y : ℕ). 0 < times y v.holds) (sym c) pair.held_parent)
          (λ j u ne there n c. theirs j u ne there n (k.held j u there n c))
          (locks_stay s.views id v at k.m.rows r o w k.locked refl near refl refl refl)
          (each_others s.views id v at w (λ j u ne there. facts_elsewhere k.m.rows r o u.holds u.holds u.words.knows (k.known j u there) (others_apart s.views id v at k.m.rows r k.locked pair.held j u ne there) (λ y. omega arith))
          (ap (λ (y : Row). y.stamp) (row_same k.m.rows r o near), pair.held, facts_left k.m.rows r Stamp (x + 1) v.holds v.words.knows near known))
          (k.reached id v at)
          (apart_changed s.views id v w at k.m.next k.m.rows k.g.linked k.apart (λ u j there. omega (arith, k.drawn.none_zero, term_le (times_drawn 0) s.views j u there)) r o
          (λ y pos z ne. let q = row_other k.m.rows r y o ne in let f = k.apart.fresh y pos z in (ap (λ (i : Row). i.lock) q ∙ f.0, ap (λ (i : Row). i.stamp) q ∙ f.1)) (λ pos. in_times r k.g.linked (linked r pair.reached)) refl refl refl)
          (λ n none. let sum = total-set (λ u. lowers n u.doing) s.views id v w at in let was : lowers n v.doing ≡ 0 = ap (lowers n) whole in dite (ℕ_discrete n r)
          (λ e z. let now : (row rows' n).stamp ≡ x + 1 = ap (λ (y : ℕ). (row rows' y).stamp) e ∙ ap (λ (y : Row). y.stamp) (row_same k.m.rows r o near) in absurd (clean x unmarked (subst IsShrinking now z)))
          (λ ne z. k.marked n (omega (arith, none, sum, was)) (subst (λ (y : Row). IsShrinking y.stamp) (row_other k.m.rows r n o ne) z))) (
            (λ j u ne there n c. leaves_apart st s' n (moves.0.2 n (theirs j u ne there n c)) heights),
            heights_where (λ n. n ≢ parent) (λ n. n ≢ r) st s' v.holds w.heights (λ n c a e. leaves_apart st s' n (moves.0.2 n (a, e)) heights)
                (rows_still (λ n. n ≢ parent) (heights_forgotten v.heights parent) r (rows_but v.heights parent)) (rows_but (heights_forgotten v.heights parent) r)
                (heights_fewer st r v.holds (heights_forgotten v.heights parent) (heights_fewer st parent v.holds v.heights (k.heights id v at))),
            (no_turn parent key (taken r (listing parent (word_in v.words.knows parent Stamp) v.debt.list)), (λ z. absurd (omega (arith, z, writing)))),
            λ room ok. subst (λ (z : Table). DebtOk z (updates.changed (debts_of s.views) id w.debt)) (sym path)
                (subst (λ (u : Debt). DebtOk marked_st (updates.changed (debts_of s.views) id u)) debt_is
                (unlink_owes st (debts_of s.views) id parent p r k.table ok may (owe room) (held_free k id v at parent pair.held_parent))),
          ),
      refl,
    )
  where
    link_word : (F : Field → ℕ) → F (link_field p) ≡ r → F (link_field p) ≡ r
    link_word F e = e

    clean : (y : ℕ) → y % 4 ≡ 0 → ¬ IsShrinking (y + 1)
    clean y e z = omega (arith, e, z)

    same_heights : (rows' : List Row) → r < length k.m.rows → (n : ℕ) → (row (changed k.m.rows r Stamp (x + 1)) n).height ≡ (row k.m.rows n).height
    same_heights rows' near = heights_same k.m.rows r (with_field Stamp (x + 1) (row k.m.rows r)) near refl

-- `splice`
pub splices : (about : About) (slots id : ℕ) (me : Sat) (parent : ℕ) (p : Side) (r only : ℕ) → parent ≤ about.rows → me.0.doing ≡ Unlinked parent p r only
    → Allows (Rule about) slots id me (word_at parent (link_field p)) (λ _. only) (λ _. splice_stored (step slots (word_at parent (link_field p)) only 0 maybe.none) me 0)
splices about slots id me parent p r only low change s k wide at small =
    let v : View = me.0 in let w : View = row_spliced v parent p only in let rows_wide = k.memory.wide in let near : parent < length k.m.rows = omega arith in
    let f : Field = link_field p in
    let o : Row = with_field f only (row k.m.rows parent) in let rows' : List Row = changed k.m.rows parent f only in let st : Table = state_of k.m k.g in
    let held : 0 < times parent v.holds = k.held id v at parent (subst (λ (g : Doing). Concerns g parent) (sym change) refl) in
    let writing : in_write v.stage ≡ 1 = omega (arith, k.locked.writing id v at parent, in_write_le v.stage, held) in
    let writers = some_write s.views id v k.g.writers at k.writers writing in
    let doing : DoingOk st (Unlinked parent p r only) = subst (DoingOk st) change (k.doing id v at) in
    let may = splice_doing st parent p r only writers doing in
    let b : Beside = record k.g { pending = updates.relink k.g.pending parent p plain } in
    let s' : Table = state_of (record k.m { rows = rows' }) b in
    let path : s' ≡ kinds.spliced st parent p = sets k.m b parent f only near ∙ with_link (state_of k.m b) parent p only ∙ ap (λ (y : ℕ). let z : Table = record (state_of k.m b) { link = updates.relink st.link parent p y } in z) (sym may.1) in
    let away : ℕ → Type 0 = λ (n : ℕ). n ≢ parent in
    let moves : Moves st s' away × DoingOk s' Nothing = (subst (λ (z : Table). Moves st z away) (sym path) (splice_evolves st parent p r may.0, splice_keeps st k.table parent p r may.0, λ n ne. splice_apart st n parent p ne), tt) in
    let theirs : (j : ℕ) (u : View) → j ≢ id → get_elem? s.views j ≡ some u → (n : ℕ) → 0 < times n u.holds → n ≢ parent = λ j u ne there n c q. omega (arith, c, others_apart s.views id v at k.m.rows parent k.locked held j u ne there, ap (λ (i : ℕ). times i u.holds) q) in
    let heights : (n : ℕ) → (row rows' n).height ≡ (row k.m.rows n).height = heights_same k.m.rows parent o near (link_height p only (row k.m.rows parent)) in
    let was : (n : ℕ) (e : Side) → changing n e v.doing ≡ at_link n e parent p = λ n e. ap (changing n e) change in (
      w,
      keeps,
      tt,
      rewriting about s.words s.views k id v w at (set s.words (word_at parent f) only) rows' b away (cell_set k.memory parent f low only) moves
          (λ n e none. let sum = total-set (λ u. changing n e u.doing) s.views id v w at in
          dite (ℕ_discrete (at_link n e parent p) 0) (λ z. relink_away k.g.pending parent p plain n e (λ q. let one : at_link n e parent p ≡ 1 = (λ i. at_link (q.0 i) (q.1 i) parent p) ∙ at_same parent p in omega (arith, z, one)) ∙ k.changes n e (omega (arith, none, sum, was n e, z)))
          (λ nz. let q = link_is n parent e p nz in (λ i. b.pending (q.0 i) (q.1 i)) ∙ relink_same k.g.pending parent p plain))
          (λ n c. absurd c)
          (λ j u ne there n c. theirs j u ne there n (k.held j u there n c))
          (locks_stay s.views id v at k.m.rows parent o w k.locked (field_other Lock f only (row k.m.rows parent) (λ z. no_lock p (sym z))) near refl refl refl)
          (each_others s.views id v at w (λ j u ne there. facts_elsewhere k.m.rows parent o u.holds u.holds u.words.knows (k.known j u there) (others_apart s.views id v at k.m.rows parent k.locked held j u ne there) (λ y. omega arith))
          (ap (field f) (row_same k.m.rows parent o near) ∙ field_same f only (row k.m.rows parent), held, facts_left k.m.rows parent f only v.holds v.words.knows near (k.known id v at)))
          (k.reached id v at)
          (apart_changed s.views id v w at k.m.next k.m.rows k.g.linked k.apart (λ u j there. omega (arith, k.drawn.none_zero, term_le (times_drawn 0) s.views j u there)) parent o
          (λ y pos z ne. let q = row_other k.m.rows parent y o ne in let h = k.apart.fresh y pos z in (ap (λ (i : Row). i.lock) q ∙ h.0, ap (λ (i : Row). i.stamp) q ∙ h.1)) (λ pos. in_times parent k.g.linked (upper_in st parent p (λ m l. (k.table.tree.rows m l.stands).0) may.0.parent_live pos)) refl refl refl)
          (λ n none z. k.marked n (omega (arith, none, total-set (λ u. lowers n u.doing) s.views id v w at, ap (lowers n) change)) (subst IsShrinking (stamps_same k.m.rows parent o near (link_stamp p only (row k.m.rows parent)) n) z)) (
            (λ j u ne there n c. leaves_apart st s' n (moves.0.2 n (theirs j u ne there n c)) heights),
            heights_kept st s' v.holds v.heights (λ n c. ((λ l. subst (λ (z : Table). IsLive z n) (sym path) (same_live st (kinds.spliced st parent p) n refl refl refl l)), λ l e. heights_plain s' st n e heights refl)) (k.heights id v at),
            (subst (λ (g : Doing). DebtDoing st g v.debt) change (k.debts id v at).0, (λ z. absurd (omega (arith, z, writing)))),
            λ room ok. owed_itself s.views id v at s' (subst (λ (z : Table). DebtOk z (debts_of s.views)) (sym path) (silent_owes st (kinds.spliced st parent p) (debts_of s.views) (splice_silent st parent p) ok)),
          ),
      λ parent' row' only' p' same. let q : Unlinked parent p r only ≡ Unlinked parent' p' row' only' = sym change ∙ same in told parent' row' only' p' q,
    )
  where
    told : (parent' row' only' : ℕ) (p' : Side) → Unlinked parent p r only ≡ Unlinked parent' p' row' only' → (let n : Sat = (row_spliced me.0 parent p only, me.1) in n ≡ (row_spliced me.0 parent' p' only', me.1))
    told parent' row' only' p' q = let a : parent ≡ parent' = cc in let d : p ≡ p' = cc in let e : only ≡ only' = cc in (λ i. (row_spliced me.0 (a i) (d i) (e i), me.1))
