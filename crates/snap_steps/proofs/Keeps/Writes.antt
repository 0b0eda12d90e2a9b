-- Storing a value, confirming an absent key and counting an entry keep the rule.
use lib.ListN.{get_elem?}
use Rattle.snap_stamp.specs.declared.layout.Field.TheVariants.{Stamp}
use Rattle.snap_steps.specs.Rule.{Kept}
use Rattle.snap_rule.specs.Debt.{DebtOk}
use Rattle.snap_rule.specs.Room.{HasRoom}
use Rattle.snap_rule.specs.declared.debt.Mark.{Mark}
use Rattle.snap_steps.proofs.Parts.Heights.{LeavesHeights}
use Rattle.snap_rule.specs.Debt.Changes.{DebtDoing}
use Rattle.snap_rule.specs.declared.debt.Debt.{Debt}
use Rattle.snap_rule.specs.declared.change.Doing.{Doing}
use Rattle.snap_rule.specs.declared.change.Doing.TheVariants.{Nothing}
use Rattle.snap_rule.specs.Updates as updates
use Rattle.snap_steps.specs.Rule.Debts.{debts_of}
use Rattle.snap_steps.specs.Steps.Debts.{OwesNothing}
use Rattle.snap_steps.specs.Roles.{is_live}
use Rattle.snap_steps.proofs.Owing.{owes_none, held_free, listing_is}
use Rattle.snap_steps.proofs.Knowing.{known_word}
use Rattle.snap_steps.proofs.Parts.Debts.{debts_at, owed_itself, debt_known}
use Rattle.snap_steps.proofs.Parts.Heights.{leaves_apart, heights_same}
use Rattle.snap_rule.proofs.Debts.Kinds.{store_owes}
use Rattle.snap_rule.proofs.Debts.Silent.{absent_silent, silent_owes}
use Rattle.snap_rule.specs.Debt.Kinds.{stored_debt}
use Rattle.snap_steps.specs.Steps.Writes.{value_debt}
use Rattle.std.proofs.Common.{Some, suc, zero, ◌≢◌, ◌≡◌, ℕ, ◌+◌, ◌<◌, ◌≤◌, false, List, [], ◌∷◌, ◌++◌, length, get_or, set, sym, refl, ap, ◌∙◌, subst, arith, None, ◌%◌, ◌^◌, true}
use mathlib.Core.Option.{some}
use Rattle.atomic_table.specs.Table.{step, keeps, Allows}
use Rattle.snap_model.specs.History.{told, call_key, call_value}
use Rattle.snap_model.specs.declared.call.Call.TheVariants.{Remove}
use Rattle.snap_model.specs.declared.call.Entry.{Entry}
use Rattle.snap_rule.proofs.Readers.Loads.{own_told}
use Rattle.snap_rule.proofs.LeftAlone.{store_apart}
use Rattle.snap_rule.proofs.Evolving.Telling.{store_evolves}
use Rattle.snap_rule.proofs.Table.{store_keeps, absent_evolves, absent_keeps, absent_here}
use Rattle.snap_rule.specs.Rule.{IsLive}
use Rattle.snap_rule.specs.State.{State as Table, In, Beside}
use Rattle.snap_rule.specs.Tree.{value_word, value_of, find}
use Rattle.snap_stamp.specs.Layout.{word_at}
use Rattle.snap_stamp.specs.declared.layout.Field.TheVariants.{Key, Value}
use Rattle.snap_steps.specs.Numbers.{times_drawn}
use Rattle.snap_steps.specs.Counting.{times}
use Rattle.snap_steps.specs.Memory.{Row, with_field, row}
use Rattle.snap_steps.specs.Facts.{IsBorn, IsKnown, fact, forgotten}
use Rattle.snap_steps.specs.Steps.Writes.{stored, call_of, entry_of, StoresValue, made_entry, ConfirmsAbsent, counted_one, done_counted}
use Rattle.snap_steps.specs.Stages.{in_write, is_closing, is_quiet, may_cut, owes_count, has_counted}
use Rattle.snap_steps.specs.Roles.{is_counted}
use Rattle.snap_steps.specs.States.{state_of, with_word}
use Rattle.snap_steps.proofs.States.{sets}
use Rattle.snap_steps.proofs.Tables.{Moves, Anywhere, in_times}
use Rattle.snap_steps.specs.declared.view.View.{View}
use Rattle.snap_steps.specs.declared.view.Role.TheVariants.{Passing}
use Rattle.snap_steps.specs.declared.view.Stage.TheVariants.{Writing}
use Rattle.snap_steps.specs.declared.rule.About.{About}
use Rattle.snap_steps.proofs.Totals.{term_le, total-set}
use Rattle.snap_steps.proofs.Histories.{legal_more}
use Rattle.snap_steps.proofs.Cells.{changed, cell_is, cell_set, one_word, row_same, row_other}
use Rattle.snap_steps.proofs.EachView.{each_others, each_stays}
use Rattle.snap_steps.proofs.Parts.Locks.{others_apart, locks_stay, locked_stays}
use Rattle.snap_steps.proofs.Knowing.{facts_elsewhere, facts_left, known_is}
use Rattle.snap_steps.proofs.Reached.{in_of}
use Rattle.snap_steps.proofs.Parts.Apart.{apart_changed, apart_stays}
use Rattle.snap_steps.proofs.Classes.Turning.{Rule, turning}
use Rattle.snap_steps.specs.Steps.Told.{Sat}
use Rattle.snap_steps.proofs.Classes.Entering.{entering, key_made, value_made, value_is, some_write, born_live}
use Rattle.snap_steps.specs.Rule.Locks.{KnowsRows}
use Rattle.snap_steps.proofs.Memories.{loaded, done_is, done_set}
use Rattle.snap_steps.specs.Rule.Gate.{KnowsGate}
use Rattle.snap_steps.proofs.Parts.Counts.{counted_writes}
use Rattle.snap_steps.proofs.Parts.Uses.{gate_small, used_moves}
use Rattle.snap_steps.proofs.Parts.Gate.{gated_moves}
use Rattle.snap_steps.proofs.Parts.Marks.{stamps_same}
use mathlib.Core.Option as maybe
use Rattle.snap_rule.specs.Kinds.Entries as entry_kinds
use Rattle.snap_rule.specs.TreeChanges as tree_changes

abbrev debt_with : ℕ → List Mark → Debt
debt_with a l = record { to_do = Some a; list = l; turning = None }

-- an entry that writes no word leaves debts and heights
pub absent_owed : {about : About} {words : List ℕ} {views : List View} (k : Kept about words views) (id : ℕ) (v : View) (at : get_elem? views id ≡ some v) (e : Entry) → Moves (state_of k.m k.g) (entry_kinds.absent_confirmed (state_of k.m k.g) e) Anywhere
    → (let s' : Table = entry_kinds.absent_confirmed (state_of k.m k.g) e in
    ((j : ℕ) (u : View) → j ≢ id → get_elem? views j ≡ some u → (n : ℕ) → 0 < times n u.holds → LeavesHeights (state_of k.m k.g) s' n)
    × DebtDoing s' v.doing v.debt × (HasRoom (state_of k.m k.g) k.m.next about.rows → DebtOk (state_of k.m k.g) (debts_of views) → DebtOk s' (updates.changed (debts_of views) id v.debt)))
absent_owed {views = views} k id v at e moves =
    let st : Table = state_of k.m k.g in let s' : Table = entry_kinds.absent_confirmed st e in (
      (λ j u ne there n c. leaves_apart st s' n (moves.2 n tt) (λ m. refl)),
      (debt_known st s' v k.table moves.0 (k.doing id v at) (λ n c. refl) (k.debts id v at)).0,
      λ room ok. owed_itself views id v at s' (silent_owes st s' (debts_of views) (absent_silent st e) ok),
    )

-- `store_value`
pub stores : (about : About) (slots id : ℕ) (me : Sat) (r key new : ℕ) → r ≤ about.rows → me.0.role ≡ Passing → me.0.stage ≡ Writing false false → 0 < times r me.0.holds → 0 < times r me.0.trail.reached → IsKnown me.0.words.knows r Key key → IsBorn me.0 r → me.0.doing ≡ Nothing → OwesNothing me.0
    → Allows (Rule about) slots id me (word_at r Value) (λ _. new) (StoresValue (step slots (word_at r Value) new 0 maybe.none) me)
stores about slots id me r key new low passing writing held reached key_known born whole owes s k wide at small =
    let v : View = me.0 in let found : ℕ = get_or s.words (word_at r Value) 0 in let is : found ≡ (row k.m.rows r).value = cell_is k.memory r Value low in let rows_wide = k.memory.wide in
    let near : r < length k.m.rows = omega arith in let x : Row = with_field Value new (row k.m.rows r) in let rows' : List Row = changed k.m.rows r Value new in
    let is_key : (row k.m.rows r).key ≡ key = known_is k.m.rows v.holds v.words.knows r Key key (k.known id v at) key_known in
    let is_linked : In r k.g.linked = in_of k.g.linked v.trail.reached r (k.reached id v at) reached in
    let st : Table = state_of k.m k.g in
    let live : IsLive st r = born_live st k.m.rows k.m.epoch v r k.table refl refl refl (k.known id v at) (k.present id v at).0 is_linked born in
    let e : Entry = entry_of v.who (call_of key new) (value_of found) in let w : View = stored v k.g.history e r new in
    let may : entry_kinds.MayStoreValue st r e = record { writing = some_write s.views id v k.g.writers at k.writers (ap in_write writing); live = live; key = is_key ∙ sym (key_made key new) } in
    let b : Beside = record k.g { tree = tree_changes.with_value r (call_value (call_of key new)) k.g.tree } in
    let s' : Table = state_of (record k.m { rows = rows' }) (record b { history = k.g.history ++ e ∷ []; writers = k.g.writers }) in
    let path : s' ≡ entry_kinds.value_stored st r e = sets k.m (record b { history = k.g.history ++ e ∷ []; writers = k.g.writers }) r Value new near ∙ ap (λ (n : ℕ). with_word (state_of k.m (record b { history = k.g.history ++ e ∷ []; writers = k.g.writers })) r Value n) (sym (value_made key new)) in
    let moves : Moves st s' Anywhere = subst (λ (z : Table). Moves st z Anywhere) (sym path) (store_evolves st r e k.table.tree may, store_keeps st k.table r e may, λ n _. store_apart st n r e) in
    let reply : value_of found ≡ told k.g.history (call_key (call_of key new)) =
    value_is (told k.g.history (call_key (call_of key new))) found (is ∙ own_told st k.table.tree r live.stands ∙ ap (λ (y : ℕ). value_word (told k.g.history y)) (is_key ∙ sym (key_made key new))) in
    let seen = k.history.seen id v at in let own = (k.history.mine id v at).0 (ap is_counted passing) in (
      w,
      keeps,
      tt,
      entering about s.words s.views k id v at (set s.words (word_at r Value) new) rows' e b v.trail.reached v.fresh.own v.fresh.wrote (fact r Value new ∷ forgotten v.words.knows r Value) w.debt Anywhere (k.reached id v at) (cell_set k.memory r Value low new) passing writing refl reply moves (λ n d. refl) (λ j u there n c. tt)
          (locks_stay s.views id v at k.m.rows r x w k.locked refl near refl refl (sym (ap in_write writing)))
          (each_others s.views id v at w (λ j u ne there. facts_elsewhere k.m.rows r x u.holds u.holds u.words.knows (k.known j u there) (others_apart s.views id v at k.m.rows r k.locked held j u ne there) (λ y. omega arith))
          (ap (λ (y : Row). y.value) (row_same k.m.rows r x near), held, facts_left k.m.rows r Value new v.holds v.words.knows near (k.known id v at)))
          (apart_changed s.views id v w at k.m.next k.m.rows k.g.linked k.apart (λ u j there. omega (arith, k.drawn.none_zero, term_le (times_drawn 0) s.views j u there)) r x
          (λ y pos z ne. let q = row_other k.m.rows r y x ne in let f = k.apart.fresh y pos z in (ap (λ (o : Row). o.lock) q ∙ f.0, ap (λ (o : Row). o.stamp) q ∙ f.1)) (λ pos. in_times r k.g.linked is_linked) refl refl refl)
          (stamps_same k.m.rows r x near refl) (
            (λ j u ne there n c. leaves_apart st s' n (moves.2 n tt) (heights_same k.m.rows r x near refl)),
            subst (λ (g : Doing). DebtDoing s' g w.debt) (sym whole) (no_turn (call_key (call_of key new)) new (subst (λ (g : Doing). DebtDoing st g v.debt) whole (k.debts id v at).0)),
            λ room ok. subst (λ (z : Table). DebtOk z (updates.changed (debts_of s.views) id w.debt)) (sym path)
                (subst (λ (u : Debt). DebtOk (entry_kinds.value_stored st r e) (updates.changed (debts_of s.views) id u)) (debt_is st (call_key (call_of key new)) new (debts_of s.views id) (debts_at s.views id v at) (known_word k.m.rows v.holds v.words.knows r Stamp born.stamp (k.known id v at) born.is_stamp))
                (store_owes st (debts_of s.views) id r e k.table ok may (held_free k id v at r held) (λ _. owes_none k id v at (ap is_live passing) owes room))),
          ),
      λ r' same. let at_row = one_word r r' Value Value same in (
        key,
        (λ y there. sym (known_is k.m.rows v.holds v.words.knows r Key y (k.known id v at) (subst (λ z. IsKnown v.words.knows z Key y) (sym at_row.0) there)) ∙ is_key),
        (λ y there. is ∙ known_is k.m.rows v.holds v.words.knows r Value y (k.known id v at) (subst (λ z. IsKnown v.words.knows z Value y) (sym at_row.0) there)),
        k.g.history,
        record { goes_on = seen.0; legal = legal_more k.g.history e k.history.legal reply; own = sym own.0 },
        ap (λ (z : ℕ). (stored v k.g.history e z new, me.1)) at_row.0,
      ),
    )
  where
    no_turn : (a n : ℕ) → me.0.debt.turning ≡ None → (value_debt me.0 a r n).turning ≡ None
    no_turn a zero h = refl
    no_turn a (suc n) h = h

    debt_is : (t : Table) (a n : ℕ) (u : Debt) → u ≡ me.0.debt → t.stamp r ≡ Rattle.snap_steps.specs.Facts.word_in me.0.words.knows r Stamp → stored_debt t r a (call_value (call_of key n)) u ≡ value_debt me.0 a r n
    debt_is t a zero u same is_stamp = ap (λ l. debt_with a l) (listing_is t r (Rattle.snap_steps.specs.Facts.word_in me.0.words.knows r Stamp) [] is_stamp)
    debt_is t a (suc n) u same is_stamp = same

-- `confirm_absent`
pub confirms : (about : About) (slots id : ℕ) (me : Sat) (r key : ℕ) → r ≤ about.rows → me.0.role ≡ Passing → me.0.stage ≡ Writing false false → 0 < times r me.0.trail.reached → IsKnown me.0.words.knows r Key key → IsKnown me.0.words.knows r Value 0 → IsBorn me.0 r
    → Allows (Rule about) slots id me (word_at r Value) (λ n. n) (ConfirmsAbsent key (step slots (word_at r Value) 0 0 maybe.none) me)
confirms about slots id me r key low passing writing reached key_known value_known born s k wide at small =
    let v : View = me.0 in let known = k.known id v at in let st : Table = state_of k.m k.g in
    let e : Entry = entry_of v.who (Remove key) None in let w : View = made_entry v k.g.history e in
    let is_key : (row k.m.rows r).key ≡ key = known_is k.m.rows v.holds v.words.knows r Key key known key_known in
    let is_zero : (row k.m.rows r).value ≡ 0 = known_is k.m.rows v.holds v.words.knows r Value 0 known value_known in
    let live : IsLive st r = born_live st k.m.rows k.m.epoch v r k.table refl refl refl known (k.present id v at).0 (in_of k.g.linked v.trail.reached r (k.reached id v at) reached) born in
    let absent : find k.g.tree key ≡ None = ap (find k.g.tree) (sym is_key) ∙ absent_here st r k.table live is_zero in
    let none_there : told k.g.history key ≡ None = sym (k.table.tree.tells key) ∙ absent in
    let may : entry_kinds.MayConfirmAbsent st e = record { removal = refl; absent = absent } in
    let moves : Moves st (entry_kinds.absent_confirmed st e) Anywhere = (absent_evolves st e, absent_keeps st e k.table may, λ n _. record { stamp = refl; link = λ d. refl; links = λ d. refl; pending = λ d. refl; named = λ m x q. q; live = λ l. record { stands = l.stands; own = λ h. l.own (record { is_row = h.is_row; older = h.older }) } }) in
    let seen = k.history.seen id v at in let own = (k.history.mine id v at).0 (ap is_counted passing) in (
      w,
      keeps,
      tt,
      entering about s.words s.views k id v at (set s.words (word_at r Value) (get_or s.words (word_at r Value) 0)) k.m.rows e k.g v.trail.reached v.fresh.own v.fresh.wrote v.words.knows v.debt Anywhere (k.reached id v at) (loaded k.memory (word_at r Value)) passing writing refl (sym none_there) moves (λ n d. refl) (λ j u there n c. tt)
          (locked_stays s.views id v w at k.m.rows k.locked refl refl (λ x. omega (arith, k.locked.writing id v at x, ap in_write writing)))
          (each_stays s.views id v w at (KnowsRows k.m.rows) k.known (λ p. p))
          (apart_stays s.views id v w at k.m.next k.m.next k.m.rows k.g.linked k.apart (omega arith) (λ p. p) (λ p. p)) (λ n. refl) (absent_owed k id v at e moves),
      (k.g.history, record { goes_on = seen.0; legal = legal_more k.g.history e k.history.legal (sym none_there); own = sym own.0 }, refl),
    )

-- `count_done`
pub counts_done : (about : About) (slots id : ℕ) (me : Sat) → me.0.stage ≡ Writing true false → Allows (Rule about) slots id me 3 (λ n. (n + 1) % 2 ^ 64) (done_counted (step slots 3 1 0 maybe.none) me)
counts_done about slots id me writing s k wide at small =
    let v : View = me.0 in let w : View = counted_one v in let r : ℕ = get_or s.words 3 0 in let is : r ≡ k.m.done = done_is k.memory in let g = k.gated in let half = g.half in
    let low = gate_small about.passes k.m.gate k.m.epoch s.views k.memory.few_passes k.named k.used in
    let a : in_write v.stage ≡ 1 = ap in_write writing in let b : is_closing v.stage ≡ 0 = ap is_closing writing in let c : may_cut v.stage ≡ 0 = ap may_cut writing in let e : is_quiet v.stage ≡ 0 = ap is_quiet writing in
    let o : owes_count v.stage ≡ 1 = ap owes_count writing in let q : has_counted v.stage ≡ 0 = ap has_counted writing in
    let mine = term_le (λ u. in_write u.stage) s.views id v at in
    let new : ℕ = (r + 1) % 2 ^ 64 in let up : new ≡ k.m.done + 1 = omega (arith, k.counted.few, counted_writes s.views) in (
      w,
      keeps,
      tt,
      turning about s.words s.views k id v at (set s.words 3 new) (record k.m { done = new }) v.noted.notes v.noted.handed v.noted.epochs (Writing true true) v.uses v.words.present v.fresh.copies v.debt v.way.reads v.way.place (done_set k.memory new) refl refl (k.notes id v at) (omega (arith, o)) (omega (arith, q)) refl (λ x. omega (arith, k.locked.writing id v at x, a)) ((k.present id v at).0, λ z. absurd (omega (arith, z)))
          (gated_moves s.views id v w at k.m.gate k.m.left k.m.gate k.m.left g (omega arith) (omega (arith, g.one)) (λ some. absurd (omega (arith, g.quiet (omega (arith, total-set (λ u. is_quiet u.stage) s.views id v w at)))))
          (each_stays s.views id v w at (λ u. KnowsGate k.m.gate u.stage) g.at (λ p. tt)))
          (used_moves s.views id v w at k.m.gate k.m.epoch k.m.gate k.m.epoch k.used refl refl refl (omega (arith, c)) (k.used.few id v at).0) (omega arith) (λ z. omega (arith, a)) (λ z. absurd (omega (arith, a, ap in_write (k.acting id v at z).0))) (λ z. absurd (omega (arith, z)))
          ((k.debts id v at).0, (λ z. absurd (omega (arith, z))), λ room ok. owed_itself s.views id v at (state_of k.m k.g) ok) (k.ways id v at, k.places id v at),
      refl,
    )
