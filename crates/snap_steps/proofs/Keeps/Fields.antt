-- Loads of a row's words and stores in own rows keep the rule.
use Rattle.snap_steps.proofs.Parts.Places.{places_evolve}
use Rattle.snap_steps.specs.Rule.Places.{KnowsPlace}
use Rattle.snap_rule.specs.State.{State as Table}
use Rattle.snap_steps.specs.Rule.Debts.{KnowsDebt}
use Rattle.snap_steps.specs.Rule.Heights.{AreHeights}
use Rattle.snap_steps.proofs.Parts.Debts.{owed_silent, debts_known}
use Rattle.snap_steps.proofs.Parts.Heights.{heights_evolve}
use Rattle.std.proofs.Common.{List, subst, ◌≡◌, ℕ, ◌≤◌, nat_lt, ◌∷◌, get_or, sym, refl, ◌∙◌, arith, ◌≢◌, ◌<◌, length, ap, ⊎_elim}
use Rattle.std.proofs.lemmas.Bool.{cond_both}
use Rattle.std.proofs.lemmas.Bool.Decides.{nat_tests}
use lib.ListN.{get_elem?}
use mathlib.Core.Logic.{dite}
use mathlib.Core.Option.{some}
use native.Mathlib.Decide.{ℕ_discrete}
use Rattle.atomic_table.specs.Table.{step, keeps, Allows}
use Rattle.snap_rule.specs.Doing.{DoingOk}
use Rattle.snap_rule.specs.Kinds.Words.{MayStoreOwn}
use Rattle.snap_stamp.specs.Layout.{word_at}
use Rattle.snap_stamp.specs.declared.layout.Field.{Field}
use Rattle.snap_stamp.specs.declared.layout.Field.TheVariants.{Stamp, Lock}
use Rattle.snap_steps.specs.Numbers.{times_drawn}
use Rattle.snap_steps.specs.Counting.{times}
use Rattle.snap_steps.specs.Memory.{field, row, Row, with_field}
use Rattle.snap_steps.specs.Steps.Fields.{read, led_to, word_loaded, own_word_stored, stored_own, is_last}
use Rattle.snap_steps.specs.Facts.{fact, AreFacts}
use Rattle.snap_steps.specs.Rule.Locks.{KnowsRows, is_taken}
use Rattle.snap_steps.specs.declared.view.View.{View}
use Rattle.snap_steps.specs.declared.rule.About.{About}
use Rattle.snap_steps.proofs.Prefixes.{begins_itself}
use Rattle.snap_steps.proofs.Cells.{cell_is, one_word, cell_set, changed, field_other, field_same, row_other, row_same}
use Rattle.snap_steps.proofs.Reached.{in_append, led_in, in_of}
use Rattle.snap_steps.specs.Roles.{is_live}
use Rattle.snap_steps.specs.declared.view.Role.TheVariants.{Passing}
use Rattle.snap_steps.proofs.Knowing.{known_is, facts_elsewhere, facts_left}
use Rattle.snap_steps.proofs.Classes.Turning.{Rule}
use Rattle.snap_steps.specs.Steps.Told.{Sat}
use Rattle.snap_steps.proofs.Classes.Seeing.{seeing}
use Rattle.snap_steps.specs.Rule.Changes.{changing, HoldsIts}
use Rattle.snap_steps.specs.Stages.{in_write, owes_count, has_counted}
use Rattle.snap_steps.specs.Rule.Apart.{OwnsUnlinked}
use Rattle.snap_steps.specs.Rule.Notes.{KnowsHeader}
use Rattle.snap_steps.specs.Rule.Ways.{AllLinked, IsOnWay}
use Rattle.snap_steps.specs.Rule.Epochs.{KnowsEpoch}
use Rattle.snap_steps.specs.Rule.Words.{KnowsAbout}
use Rattle.snap_steps.specs.States.{state_of}
use Rattle.snap_steps.proofs.Tables.{doings_stay, in_times, own_moves, ways_evolve}
use Rattle.snap_steps.proofs.Totals.{total-set, term_le}
use Rattle.snap_steps.proofs.EachView.{each_others, each_stays}
use Rattle.snap_steps.proofs.Parts.Locks.{locks_stay}
use Rattle.snap_steps.proofs.Parts.Drawn.{not_theirs, drawn_stays}
use Rattle.snap_steps.proofs.Parts.Gate.{gated_stays}
use Rattle.snap_steps.proofs.Parts.History.{history_stays}
use Rattle.snap_steps.proofs.Parts.Names.{named_stays}
use Rattle.snap_steps.proofs.Parts.Uses.{used_stays, cut_stays}
use mathlib.Core.Option as maybe
use Rattle.snap_steps.proofs.Parts.Bases.{bases_evolve}
use Rattle.snap_steps.specs.Rule.Bases.{KnowsBase}
use Rattle.snap_steps.specs.Rule.Tries.{KnowsTry}
use Rattle.snap_steps.proofs.Parts.Tries.{tries_evolve}
use Rattle.snap_steps.proofs.Parts.Marks.{marks_stay, stamps_same}
use Rattle.snap_steps.specs.Rule.Worn.{KnowsWorn}
use Rattle.snap_steps.specs.Rule.Lasting.{AreLasting}
use Rattle.snap_steps.proofs.Parts.Lasting.{lastings_evolve}
use Rattle.snap_steps.specs.Rule.Names.{ActsAsPass}
use Rattle.snap_steps.proofs.Parts.Worn.{worns_evolve, or_cases, last_found}

-- `load_word`
pub reads : (about : About) (slots id : ℕ) (me : Sat) (r : ℕ) (f : Field) → r ≤ about.rows → me.0.role ≡ Passing → Allows (Rule about) slots id me (word_at r f) (λ n. n) (word_loaded (step slots (word_at r f) 0 0 maybe.none) me)
reads about slots id me r f low passing s k wide at small =
    let v : View = me.0 in let found : ℕ = get_or s.words (word_at r f) 0 in let is : found ≡ field f (row k.m.rows r) = cell_is k.memory r f low in
    let w : View = read v r f found in let seen = k.history.seen id v at in let known = k.known id v at in
    let led : AllLinked k.g.linked (led_to v r f found) = led_in k.m k.g v r f found k.table (k.reached id v at) (sym is) in let room = k.memory.room in let rows_are = (k.about_known id v at (ap is_live passing)).0 in
    let worn : KnowsWorn (state_of k.m k.g) w = λ saw. ⊎_elim (k.worn id v at) (last_found about s.words s.views k r f found (sym is)) (or_cases v.noted.worn (is_last f found) saw) in
    let facts : KnowsRows k.m.rows w = cond_both (nat_lt 0 (times r v.holds)) (fact r f found ∷ v.words.knows) v.words.knows (λ l. AreFacts k.m.rows v.holds l) (λ held. (sym is, grind (arith, nat_tests), known)) (λ not. known) in (
      w,
      keeps,
      tt,
      seeing about s.words s.views k (word_at r f) id v w at facts
          (in_append k.g.linked v.trail.reached (led_to v r f found) (k.reached id v at) led) (k.ways id v at) (k.places id v at) (k.present id v at)
          (k.notes id v at) worn (k.lasting id v at) (begins_itself v.seen) seen.0 seen.1,
      λ r' f' same. let t = one_word r r' f f' same in ((λ i. (read v (t.0 i) (t.1 i) found, me.1)), λ x there. is ∙ (λ i. field (t.1 i) (row k.m.rows (t.0 i))) ∙ known_is k.m.rows v.holds v.words.knows r' f' x known there, λ c there. let far = (k.apart.low c (in_times c k.g.linked (in_of k.g.linked (led_to v r f found) c led (subst (λ (l : List ℕ). 0 < times c l) (λ i. led_to v (sym t.0 i) (sym t.1 i) found) there)))).1 in omega (arith, far, room, rows_are)),
    )

-- `store_own`
pub stores_own : (about : About) (slots id : ℕ) (me : Sat) (r new : ℕ) (f : Field) → r ≤ about.rows → f ≢ Lock → f ≢ Stamp → 0 < times r me.0.fresh.own → Allows (Rule about) slots id me (word_at r f) (λ _. new) (λ _. stored_own r f (step slots (word_at r f) new 0 maybe.none) me new)
stores_own about slots id me r new f low no_lock no_stamp mine s k wide at small =
    let v : View = me.0 in let w : View = own_word_stored v r f new in let rows_wide = k.memory.wide in let x : Row = with_field f new (row k.m.rows r) in let near : r < length k.m.rows = omega arith in
    let own = k.apart.own id v at r mine in
    let pos : 0 < r = dite (ℕ_discrete r 0) (λ z. absurd (omega (arith, own.1, ap (λ (y : ℕ). times y v.drawn) z, k.drawn.none_zero, term_le (times_drawn 0) s.views id v at))) (λ nz. omega arith) in
    let lock : x.lock ≡ (row k.m.rows r).lock = field_other Lock f new (row k.m.rows r) (λ e. no_lock (sym e)) in
    let free : (row k.m.rows r).lock ≡ 0 = (k.apart.fresh r pos own.0).0 in let still : x.stamp ≡ (row k.m.rows r).stamp = field_other Stamp f new (row k.m.rows r) (λ e. no_stamp (sym e)) in
    let apart : (j : ℕ) (u : View) → get_elem? s.views j ≡ some u → times r u.holds ≡ 0 = λ j u there. omega (arith, term_le (λ y. times r y.holds) s.views j u there, k.locked.count r, ap is_taken free) in
    let may : MayStoreOwn (state_of k.m k.g) r = record { is_row = pos; fresh = λ is. omega (arith, in_times r k.g.linked is, own.0) } in
    let all_moves = own_moves k.m k.g r f new near no_lock no_stamp may k.table in let moves = all_moves.0 in let s' : Table = state_of (record k.m { rows = changed k.m.rows r f new }) k.g in (
      w,
      keeps,
      tt,
      record {
        m = record k.m { rows = changed k.m.rows r f new };
        g = k.g;
        memory = cell_set k.memory r f low new;
        about_known = each_stays s.views id v w at (KnowsAbout about) k.about_known (λ p. p);
        named = named_stays s.views id v w at about.passes k.named refl refl refl;
        history = history_stays s.views id v w at k.g.history k.history refl refl refl refl refl refl;
        counted = record { all = omega (arith, k.counted.all, total-set (λ u. owes_count u.stage) s.views id v w at); few = omega (arith, k.counted.few, total-set (λ u. has_counted u.stage) s.views id v w at) };
        drawn = drawn_stays s.views id v w at k.m.next k.m.next k.drawn (omega arith) refl refl;
        notes = each_stays s.views id v w at (KnowsHeader k.m.next k.m.epoch) k.notes (λ p. p);
        gated = gated_stays s.views id v w at k.m.gate k.m.left k.gated refl;
        used = used_stays s.views id v w at k.m.gate k.m.epoch k.used refl refl refl refl refl;
        locked = locks_stay s.views id v at k.m.rows r x w k.locked lock near refl refl refl;
        known = each_others s.views id v at w (λ j u ne there. facts_elsewhere k.m.rows r x u.holds u.holds u.words.knows (k.known j u there) (apart j u there) (λ y. omega arith)) (facts_elsewhere k.m.rows r x v.holds v.holds v.words.knows (k.known id v at) (apart id v at) (λ y. omega arith));
        table = moves.1;
        writers = omega (arith, k.writers, total-set (λ u. in_write u.stage) s.views id v w at);
        changes = λ y d none. k.changes y d (omega (arith, none, total-set (λ u. changing y d u.doing) s.views id v w at));
        doing = each_stays s.views id v w at (λ u. DoingOk (state_of (record k.m { rows = changed k.m.rows r f new }) k.g) u.doing) (doings_stay (state_of k.m k.g) (state_of (record k.m { rows = changed k.m.rows r f new }) k.g) s.views k.doing (λ j u there y c. moves.2 y (λ e. omega (arith, k.held j u there y c, apart j u there, ap (λ (i : ℕ). times i u.holds) e)))) (λ p. p);
        held = each_stays s.views id v w at HoldsIts k.held (λ p. p);
        present = each_stays s.views id v w at (KnowsEpoch k.m.epoch) k.present (λ p. p);
        reached = each_stays s.views id v w at (λ u. AllLinked k.g.linked u.trail.reached) k.reached (λ p. p);
        ways = each_stays s.views id v w at (IsOnWay (state_of (record k.m { rows = changed k.m.rows r f new }) k.g)) (ways_evolve (state_of k.m k.g) (state_of (record k.m { rows = changed k.m.rows r f new }) k.g) s.views moves.0 k.history.seen k.ways) (λ p. p);
        places = each_stays s.views id v w at (KnowsPlace (state_of (record k.m { rows = changed k.m.rows r f new }) k.g)) (places_evolve (state_of k.m k.g) (state_of (record k.m { rows = changed k.m.rows r f new }) k.g) s.views moves.0 k.places) (λ p. p);
        worn = each_stays s.views id v w at (KnowsWorn (state_of (record k.m { rows = changed k.m.rows r f new }) k.g)) (worns_evolve (state_of k.m k.g) (state_of (record k.m { rows = changed k.m.rows r f new }) k.g) s.views moves.0 k.worn) (λ p. p);
        lasting = each_stays s.views id v w at (λ u. AreLasting (state_of (record k.m { rows = changed k.m.rows r f new }) k.g) u.words.lasting) (lastings_evolve (state_of k.m k.g) (state_of (record k.m { rows = changed k.m.rows r f new }) k.g) s.views moves.0 k.lasting) (λ p. p);
        based = each_stays s.views id v w at (KnowsBase (state_of (record k.m { rows = changed k.m.rows r f new }) k.g)) (bases_evolve about s.words s.views k (state_of (record k.m { rows = changed k.m.rows r f new }) k.g) moves.0 (λ _. refl)) (λ p. p);
        tries = each_stays s.views id v w at (KnowsTry (state_of (record k.m { rows = changed k.m.rows r f new }) k.g)) (tries_evolve (state_of k.m k.g) (state_of (record k.m { rows = changed k.m.rows r f new }) k.g) s.views moves.0 k.tries) (λ p. p);
        heights = each_stays s.views id v w at (λ u. AreHeights s' u.holds u.heights) (heights_evolve (state_of k.m k.g) s' s.views (λ j u there y held. ((moves.2 y (λ e. omega (arith, held, apart j u there, ap (λ (i : ℕ). times i u.holds) e))).live, all_moves.2 y)) k.heights) (λ p. p);
        debts = each_stays s.views id v w at (KnowsDebt s') (debts_known (state_of k.m k.g) s' s.views k.table moves.0 k.doing (λ j u there y c. (moves.2 y (λ e. omega (arith, k.held j u there y c, apart j u there, ap (λ (i : ℕ). times i u.holds) e))).stamp) k.debts) (λ p. p);
        owing = owed_silent s.views id v w at (state_of k.m k.g) s' k.m.next k.m.next about.rows moves.0 (omega arith) all_moves.1 refl k.owing;
        marked = marks_stay s.views id v w k.m.rows (changed k.m.rows r f new) at k.marked (stamps_same k.m.rows r x near still) refl;
        cut = cut_stays s.views id v w at k.m.epoch k.cut refl refl;
        acting = each_stays s.views id v w at ActsAsPass k.acting (λ p. p);
        apart = record {
          low = k.apart.low;
          own = each_stays s.views id v w at (OwnsUnlinked k.g.linked) k.apart.own (λ p. p);
          fresh = λ y above z. dite (ℕ_discrete y r)
              (λ e. let q = ap (λ (i : ℕ). row (changed k.m.rows r f new) i) e ∙ row_same k.m.rows r x near in (ap (λ (o : Row). o.lock) q ∙ lock ∙ free, ap (λ (o : Row). o.stamp) q ∙ still ∙ (k.apart.fresh r pos own.0).1))
              (λ ne. let q = row_other k.m.rows r y x ne in let h = k.apart.fresh y above z in (ap (λ (o : Row). o.lock) q ∙ h.0, ap (λ (o : Row). o.stamp) q ∙ h.1));
          wrote = each_others s.views id v at w
              (λ j u ne there. facts_elsewhere k.m.rows r x u.fresh.own u.fresh.own u.fresh.wrote (k.apart.wrote j u there) (not_theirs s.views id v u at j ne there r k.drawn own.1 (k.apart.own j u there r)) (λ y. omega arith))
              (ap (field f) (row_same k.m.rows r x near) ∙ field_same f new (row k.m.rows r), mine, facts_left k.m.rows r f new v.fresh.own v.fresh.wrote near (k.apart.wrote id v at));
        };
      },
      refl,
    )
