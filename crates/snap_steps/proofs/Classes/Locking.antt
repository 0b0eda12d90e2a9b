-- Steps on a lock word.
use Rattle.snap_steps.proofs.Parts.Places.{places_evolve}
use Rattle.snap_steps.specs.Rule.Places.{KnowsPlace}
use Rattle.snap_steps.specs.Rule.Debts.{KnowsDebt}
use Rattle.snap_steps.specs.Rule.Heights.{AreHeights}
use Rattle.snap_steps.specs.declared.view.ChildHeight.{ChildHeight}
use Rattle.snap_steps.proofs.Parts.Debts.{owed_silent, debts_known}
use Rattle.snap_steps.proofs.Parts.Heights.{LeavesHeights, heights_kept, heights_evolve, leaves_apart, heights_same}
use Rattle.snap_steps.proofs.Tables.{lock_still}
use Rattle.snap_rule.specs.State.{State as Table}
use Rattle.std.proofs.Common.{◌≡◌, ◌≢◌, ℕ, ◌<◌, ◌≤◌, List, set, refl, ap, ◌∙◌, arith}
use lib.ListN.{get_elem?}
use mathlib.Core.Option.{some}
use Rattle.snap_rule.specs.Doing.{DoingOk}
use Rattle.snap_stamp.specs.Layout.{word_at}
use Rattle.snap_stamp.specs.declared.layout.Field.TheVariants.{Lock}
use Rattle.snap_steps.specs.Numbers.{times_drawn}
use Rattle.snap_steps.specs.Counting.{times}
use Rattle.snap_steps.specs.Memory.{Row, with_field, row}
use Rattle.snap_steps.specs.Rule.Changes.{changing, HoldsIts}
use Rattle.snap_steps.specs.Stages.{in_write, owes_count, has_counted}
use Rattle.snap_steps.specs.Each.{Each}
use Rattle.snap_steps.specs.Rule.Notes.{KnowsHeader}
use Rattle.snap_steps.specs.Rule.Locks.{AreLocked, KnowsRows}
use Rattle.snap_steps.specs.Rule.Ways.{AllLinked, IsOnWay}
use Rattle.snap_steps.specs.Rule.Epochs.{KnowsEpoch}
use Rattle.snap_steps.specs.Rule.{Kept}
use Rattle.snap_steps.specs.Rule.Words.{KnowsAbout}
use Rattle.snap_steps.specs.States.{state_of}
use Rattle.snap_steps.proofs.Tables.{doings_stay, lock_moves, ways_evolve}
use Rattle.snap_steps.specs.declared.view.View.{View}
use Rattle.snap_steps.specs.declared.view.Fact.{Fact}
use Rattle.snap_steps.specs.declared.rule.About.{About}
use Rattle.snap_steps.proofs.Totals.{total-set, term_le}
use Rattle.snap_steps.proofs.Cells.{cell_set, changed, row_other}
use Rattle.snap_steps.proofs.Parts.Apart.{apart_changed}
use Rattle.snap_steps.proofs.Parts.Drawn.{drawn_stays}
use Rattle.snap_steps.proofs.EachView.{each_set, each_stays}
use Rattle.snap_steps.proofs.Parts.Gate.{gated_stays}
use Rattle.snap_steps.proofs.Parts.History.{history_stays}
use Rattle.snap_steps.proofs.Parts.Names.{named_stays}
use Rattle.snap_steps.proofs.Parts.Uses.{used_stays, cut_stays}
use Rattle.snap_steps.proofs.Parts.Bases.{bases_evolve}
use Rattle.snap_steps.specs.Rule.Bases.{KnowsBase}
use Rattle.snap_steps.specs.Rule.Worn.{KnowsWorn}
use Rattle.snap_steps.specs.Rule.Tries.{KnowsTry}
use Rattle.snap_steps.proofs.Parts.Tries.{tries_evolve}
use Rattle.snap_steps.proofs.Parts.Marks.{marks_stay, stamps_same}
use Rattle.snap_steps.specs.Rule.Lasting.{AreLasting}
use Rattle.snap_steps.proofs.Parts.Lasting.{lastings_evolve}
use Rattle.snap_steps.specs.Rule.Names.{ActsAsPass}
use Rattle.snap_steps.proofs.Parts.Worn.{worns_evolve}

-- a step on a lock word
pub locking : (about : About) (words : List ℕ) (views : List View) (k : Kept about words views) (id : ℕ) (v : View) (at : get_elem? views id ≡ some v) (r n : ℕ) (low : r ≤ about.rows) (holds : List ℕ) (knows : List Fact) (heights : List ChildHeight)
    → in_write v.stage ≡ 1 → AreLocked (changed k.m.rows r Lock n) (set views id (record v { holds = holds; words = record v.words { knows = knows }; heights = heights })) → Each (KnowsRows (changed k.m.rows r Lock n)) (set views id (record v { holds = holds; words = record v.words { knows = knows }; heights = heights })) → (0 < r → 0 < times r k.g.linked) → AreHeights (state_of k.m k.g) holds heights → HoldsIts (record v { holds = holds; words = record v.words { knows = knows }; heights = heights })
    → Kept about (set words (word_at r Lock) n) (set views id (record v { holds = holds; words = record v.words { knows = knows }; heights = heights }))
locking about words views k id v at r n low holds knows heights writing are_locked known is_linked heights_are held =
    let w : View = record v { holds = holds; words = record v.words { knows = knows }; heights = heights } in let rows' : List Row = changed k.m.rows r Lock n in let wide = k.memory.wide in
    let some_writer : k.g.writers ≢ 0 = λ z. omega (arith, k.writers, term_le (λ u. in_write u.stage) views id v at) in
    let st : Table = state_of k.m k.g in let s' : Table = state_of (record k.m { rows = rows' }) k.g in
    let moves = lock_moves k.m k.g r n (omega arith) some_writer k.table in
    let leaves : (y : ℕ) → LeavesHeights st s' y = λ y. leaves_apart st s' y (moves.2 y tt) (heights_same k.m.rows r (with_field Lock n (row k.m.rows r)) (omega arith) refl) in
    record {
      heights = each_set {P = λ u. AreHeights s' u.holds u.heights} {Q = λ u. AreHeights s' u.holds u.heights} views id w (heights_evolve st s' views (λ j u there y c. leaves y) k.heights) (λ u p. p) (heights_kept st s' holds heights (λ y c. leaves y) heights_are);
      debts = each_stays views id v w at (KnowsDebt s') (debts_known st s' views k.table moves.0 k.doing (λ j u there y c. (moves.2 y tt).stamp) k.debts) (λ p. p);
      owing = owed_silent views id v w at st s' k.m.next k.m.next about.rows moves.0 (omega arith) (lock_still k.m k.g r n (omega arith)) refl k.owing;
      m = record k.m { rows = rows' };
      g = k.g;
      memory = cell_set k.memory r Lock low n;
      about_known = each_stays views id v w at (KnowsAbout about) k.about_known (λ p. p);
      named = named_stays views id v w at about.passes k.named refl refl refl;
      history = history_stays views id v w at k.g.history k.history refl refl refl refl refl refl;
      counted = record { all = omega (arith, k.counted.all, total-set (λ u. owes_count u.stage) views id v w at); few = omega (arith, k.counted.few, total-set (λ u. has_counted u.stage) views id v w at) };
      drawn = drawn_stays views id v w at k.m.next k.m.next k.drawn (omega arith) refl refl;
      notes = each_stays views id v w at (KnowsHeader k.m.next k.m.epoch) k.notes (λ p. p);
      gated = gated_stays views id v w at k.m.gate k.m.left k.gated refl;
      used = used_stays views id v w at k.m.gate k.m.epoch k.used refl refl refl refl refl;
      locked = are_locked;
      known = known;
      table = moves.1;
      writers = omega (arith, k.writers, total-set (λ u. in_write u.stage) views id v w at);
      changes = λ y d none. k.changes y d (omega (arith, none, total-set (λ u. changing y d u.doing) views id v w at));
      doing = each_stays views id v w at (λ u. DoingOk (state_of (record k.m { rows = rows' }) k.g) u.doing) (doings_stay (state_of k.m k.g) (state_of (record k.m { rows = rows' }) k.g) views k.doing (λ j u there y c. moves.2 y tt)) (λ p. p);
      held = each_stays views id v w at HoldsIts k.held (λ p. held);
      present = each_stays views id v w at (KnowsEpoch k.m.epoch) k.present (λ p. p);
      reached = each_stays views id v w at (λ u. AllLinked k.g.linked u.trail.reached) k.reached (λ p. p);
      ways = each_stays views id v w at (IsOnWay (state_of (record k.m { rows = rows' }) k.g)) (ways_evolve (state_of k.m k.g) (state_of (record k.m { rows = rows' }) k.g) views moves.0 k.history.seen k.ways) (λ p. p);
      places = each_stays views id v w at (KnowsPlace (state_of (record k.m { rows = rows' }) k.g)) (places_evolve (state_of k.m k.g) (state_of (record k.m { rows = rows' }) k.g) views moves.0 k.places) (λ p. p);
      worn = each_stays views id v w at (KnowsWorn (state_of (record k.m { rows = rows' }) k.g)) (worns_evolve (state_of k.m k.g) (state_of (record k.m { rows = rows' }) k.g) views moves.0 k.worn) (λ p. p);
      lasting = each_stays views id v w at (λ u. AreLasting (state_of (record k.m { rows = rows' }) k.g) u.words.lasting) (lastings_evolve (state_of k.m k.g) (state_of (record k.m { rows = rows' }) k.g) views moves.0 k.lasting) (λ p. p);
      based = each_stays views id v w at (KnowsBase (state_of (record k.m { rows = rows' }) k.g)) (bases_evolve about words views k (state_of (record k.m { rows = rows' }) k.g) moves.0 (λ _. refl)) (λ p. p);
      tries = each_stays views id v w at (KnowsTry (state_of (record k.m { rows = rows' }) k.g)) (tries_evolve (state_of k.m k.g) (state_of (record k.m { rows = rows' }) k.g) views moves.0 k.tries) (λ p. p);
      marked = marks_stay views id v w k.m.rows rows' at k.marked (stamps_same k.m.rows r (with_field Lock n (row k.m.rows r)) (omega arith) refl) refl;
      cut = cut_stays views id v w at k.m.epoch k.cut refl refl;
      acting = each_stays views id v w at ActsAsPass k.acting (λ p. p);
      apart = apart_changed views id v w at k.m.next k.m.rows k.g.linked k.apart (λ u j there. omega (arith, k.drawn.none_zero, term_le (times_drawn 0) views j u there)) r (with_field Lock n (row k.m.rows r))
          (λ s pos z ne. let q = row_other k.m.rows r s (with_field Lock n (row k.m.rows r)) ne in let f = k.apart.fresh s pos z in (ap (λ (y : Row). y.lock) q ∙ f.0, ap (λ (y : Row). y.stamp) q ∙ f.1)) is_linked refl refl refl;
    }
