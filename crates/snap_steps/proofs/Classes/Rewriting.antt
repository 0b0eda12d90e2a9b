-- Steps on a word of a held row that make no entry.
use Rattle.snap_steps.proofs.Parts.Places.{places_evolve}
use Rattle.snap_steps.specs.Rule.Places.{KnowsPlace}
use Rattle.snap_steps.specs.Rule.Debts.{KnowsDebt, debts_of}
use Rattle.snap_steps.specs.Rule.Heights.{AreHeights}
use Rattle.snap_rule.specs.Debt.{DebtOk}
use Rattle.snap_rule.specs.Room.{HasRoom}
use Rattle.snap_rule.specs.Updates as updates
use Rattle.snap_steps.proofs.Parts.Debts.{owed_after, debt_known}
use Rattle.snap_steps.proofs.Parts.Heights.{LeavesHeights, heights_kept}
use Rattle.snap_steps.specs.Counting.{times}
use Rattle.std.proofs.Common.{◌<◌, ◌≡◌, ◌≢◌, ℕ, List, set, refl, arith}
use lib.ListN.{get_elem?}
use mathlib.Core.Option.{some}
use Rattle.snap_rule.proofs.InChange.{doing_kept}
use Rattle.snap_rule.specs.Doing.{Concerns, DoingOk}
use Rattle.snap_rule.specs.State.{State as Table, Beside}
use Rattle.snap_rule.specs.State.Change.{plain}
use Rattle.snap_stamp.specs.declared.side.Side.{Side}
use Rattle.snap_steps.specs.Counting.{total}
use Rattle.snap_steps.specs.Memory.{Row}
use Rattle.snap_steps.specs.States.{state_of}
use Rattle.snap_steps.specs.Rule.Changes.{changing, HoldsIts}
use Rattle.snap_steps.specs.Stages.{in_write, owes_count, has_counted}
use Rattle.snap_steps.specs.Rule.Words.{IsMemory, KnowsAbout}
use Rattle.snap_steps.specs.Each.{Each}
use Rattle.snap_steps.specs.Rule.Notes.{KnowsHeader}
use Rattle.snap_steps.specs.Rule.Locks.{AreLocked, KnowsRows}
use Rattle.snap_steps.specs.Rule.Ways.{AllLinked, IsOnWay}
use Rattle.snap_steps.specs.Rule.Epochs.{KnowsEpoch}
use Rattle.snap_steps.specs.Rule.Apart.{AreApart}
use Rattle.snap_steps.specs.Rule.{Kept}
use Rattle.snap_steps.specs.declared.view.View.{View}
use Rattle.snap_steps.specs.declared.rule.About.{About}
use Rattle.snap_steps.proofs.EachView.{each_set, each_others, each_stays}
use Rattle.snap_steps.proofs.Totals.{total-set}
use Rattle.snap_steps.proofs.Tables.{Moves, ways_evolve}
use Rattle.snap_steps.proofs.Reached.{all_linked_grows}
use Rattle.snap_steps.proofs.Parts.Drawn.{drawn_stays}
use Rattle.snap_steps.proofs.Parts.Names.{named_stays}
use Rattle.snap_steps.proofs.Parts.Gate.{gated_stays}
use Rattle.snap_steps.proofs.Parts.Uses.{used_stays, cut_stays}
use Rattle.snap_steps.proofs.Parts.History.{history_stays}
use Rattle.snap_steps.proofs.Parts.Bases.{bases_evolve}
use Rattle.snap_steps.specs.Rule.Bases.{KnowsBase}
use Rattle.snap_steps.specs.Rule.Worn.{KnowsWorn}
use Rattle.snap_steps.specs.Rule.Tries.{KnowsTry}
use Rattle.snap_steps.proofs.Parts.Tries.{tries_evolve}
use Rattle.snap_steps.specs.Rule.Marks.{AreMarked}
use Rattle.snap_steps.specs.Rule.Lasting.{AreLasting}
use Rattle.snap_steps.proofs.Parts.Lasting.{lastings_evolve}
use Rattle.snap_steps.specs.Rule.Names.{ActsAsPass}
use Rattle.snap_steps.proofs.Parts.Worn.{worns_evolve}

-- the view v, in what such a step may change, as w is
abbrev pub with_words : View → View → View
with_words v w = record v { trail = w.trail; doing = w.doing; words = record v.words { knows = w.words.knows }; fresh = w.fresh; heights = w.heights; debt = w.debt }

-- the class of these steps
pub rewriting : (about : About) (words : List ℕ) (views : List View) (k : Kept about words views) (id : ℕ) (v w : View) (at : get_elem? views id ≡ some v) (words' : List ℕ) (rows' : List Row) (b : Beside) (away : ℕ → Type 0)
    → IsMemory about words' (record k.m { rows = rows' })
    → (let s' : Table = state_of (record k.m { rows = rows' }) (record b { history = k.g.history; writers = k.g.writers }) in Moves (state_of k.m k.g) s' away × DoingOk s' w.doing)
    → ((n : ℕ) (d : Side) → total (λ u. changing n d u.doing) (set views id (with_words v w)) ≡ 0 → b.pending n d ≡ plain)
    → HoldsIts (with_words v w) → ((j : ℕ) (u : View) → j ≢ id → get_elem? views j ≡ some u → (n : ℕ) → Concerns u.doing n → away n)
    → AreLocked rows' (set views id (with_words v w)) → Each (KnowsRows rows') (set views id (with_words v w)) → AllLinked b.linked w.trail.reached → AreApart k.m.next rows' b.linked (set views id (with_words v w)) → AreMarked rows' (set views id (with_words v w))
    → (let s' : Table = state_of (record k.m { rows = rows' }) (record b { history = k.g.history; writers = k.g.writers }) in
    ((j : ℕ) (u : View) → j ≢ id → get_elem? views j ≡ some u → (n : ℕ) → 0 < times n u.holds → LeavesHeights (state_of k.m k.g) s' n) × AreHeights s' v.holds w.heights
    × KnowsDebt s' (with_words v w) × (HasRoom (state_of k.m k.g) k.m.next about.rows → DebtOk (state_of k.m k.g) (debts_of views) → DebtOk s' (updates.changed (debts_of views) id w.debt)))
    → Kept about words' (set views id (with_words v w))
rewriting about words views k id v w at words' rows' b away memory moves pending held clear locked known reached apart marked owed =
    let u : View = with_words v w in
    let g' : Beside = record b { history = k.g.history; writers = k.g.writers } in
    let s : Table = state_of k.m k.g in let s' : Table = state_of (record k.m { rows = rows' }) g' in let ev = moves.0.0 in
    record {
      m = record k.m { rows = rows' };
      g = g';
      memory = memory;
      about_known = each_stays views id v u at (KnowsAbout about) k.about_known (λ p. p);
      named = named_stays views id v u at about.passes k.named refl refl refl;
      history = history_stays views id v u at k.g.history k.history refl refl refl refl refl refl;
      counted = record { all = omega (arith, k.counted.all, total-set (λ u. owes_count u.stage) views id v u at); few = omega (arith, k.counted.few, total-set (λ u. has_counted u.stage) views id v u at) };
      drawn = drawn_stays views id v u at k.m.next k.m.next k.drawn (omega arith) refl refl;
      notes = each_stays views id v u at (KnowsHeader k.m.next k.m.epoch) k.notes (λ p. p);
      gated = gated_stays views id v u at k.m.gate k.m.left k.gated refl;
      used = used_stays views id v u at k.m.gate k.m.epoch k.used refl refl refl refl refl;
      locked = locked;
      known = known;
      table = moves.0.1;
      writers = omega (arith, k.writers, total-set (λ u. in_write u.stage) views id v u at);
      changes = pending;
      doing = each_others views id v at u (λ j u ne there. doing_kept s s' u.doing (λ n c. moves.0.2 n (clear j u ne there n c)) (k.doing j u there)) moves.1;
      held = each_others views id v at u (λ j u ne there. k.held j u there) held;
      present = each_stays views id v u at (KnowsEpoch k.m.epoch) k.present (λ p. p);
      reached = each_set {P = λ u. AllLinked k.g.linked u.trail.reached} {Q = λ u. AllLinked b.linked u.trail.reached} views id u k.reached (λ x p. all_linked_grows k.g.linked b.linked ev.linked x.trail.reached p) reached;
      ways = each_stays views id v u at (IsOnWay s') (ways_evolve s s' views ev k.history.seen k.ways) (λ p. p);
      places = each_stays views id v u at (KnowsPlace s') (places_evolve s s' views ev k.places) (λ p. p);
      worn = each_stays views id v u at (KnowsWorn s') (worns_evolve s s' views ev k.worn) (λ p. p);
      lasting = each_stays views id v u at (λ u. AreLasting s' u.words.lasting) (lastings_evolve s s' views ev k.lasting) (λ p. p);
      based = each_stays views id v u at (KnowsBase s') (bases_evolve about words views k s' ev (λ _. refl)) (λ p. p);
      tries = each_stays views id v u at (KnowsTry s') (tries_evolve s s' views ev k.tries) (λ p. p);
      marked = marked;
      cut = cut_stays views id v u at k.m.epoch k.cut refl refl;
      acting = each_stays views id v u at ActsAsPass k.acting (λ p. p);
      apart = apart;
      heights = each_others views id v at u (λ j y ne there. heights_kept s s' y.holds y.heights (owed.0 j y ne there) (k.heights j y there)) owed.1;
      debts = each_others views id v at u (λ j y ne there. debt_known s s' y k.table ev (k.doing j y there) (λ n c. (moves.0.2 n (clear j y ne there n c)).stamp) (k.debts j y there)) owed.2;
      owing = owed_after views id v u at s s' k.m.next k.m.next about.rows ev (omega arith) owed.3 k.owing;
    }
