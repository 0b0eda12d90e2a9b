-- Steps on a pass's turn at the gate, its notes, and the words that count writes.
use Rattle.snap_steps.proofs.Parts.Places.{places_evolve, place_known_evolves}
use Rattle.snap_steps.specs.Rule.Places.{KnowsPlace, PlaceKnown}
use Rattle.snap_rule.specs.Views.{ReadingOk}
use Rattle.snap_rule.specs.declared.reader.Reading.{Reading}
use Rattle.snap_steps.specs.Rule.Debts.{KnowsDebt, debts_of}
use Rattle.snap_steps.specs.Rule.Heights.{AreHeights}
use Rattle.snap_rule.specs.Debt.{DebtOk, no_debt}
use Rattle.snap_rule.specs.Room.{HasRoom}
use Rattle.snap_rule.specs.declared.debt.Debt.{Debt}
use Rattle.snap_rule.specs.Debt.Changes.{DebtDoing}
use Rattle.snap_rule.specs.Updates as updates
use Rattle.snap_rule.proofs.Debts.Silent.{silent_owes}
use Rattle.snap_rule.proofs.Debts.Turning.{debt_doing_kept}
use Rattle.snap_rule.specs.Debt.Step.{IsSilent}
use Rattle.snap_rule.specs.State.{State as Table}
use Rattle.snap_steps.proofs.Parts.Debts.{owed_after, debts_known, owed_itself}
use Rattle.snap_steps.proofs.Parts.Heights.{heights_evolve, leaves_apart}
use Rattle.snap_steps.proofs.Tables.{header_still}
use Rattle.std.proofs.Common.{◌≡◌, ℕ, ◌+◌, ◌/◌, ◌≤◌, List, [], set, sym, refl, subst, ap, arith, ◌∷◌, ◌++◌, get_or}
use lib.ListN.{get_elem?}
use mathlib.Core.Option.{some}
use Rattle.atomic_table.specs.Table.{State}
use Rattle.snap_rule.specs.Doing.{DoingOk}
use Rattle.snap_rule.specs.Kinds.Words.{MayCount}
use Rattle.snap_steps.specs.declared.view.View.{View}
use Rattle.snap_steps.specs.Rule.{Kept}
use Rattle.snap_steps.specs.declared.rule.About.{About}
use Rattle.snap_steps.specs.Counting.{total, times}
use Rattle.snap_steps.specs.Memory.{Memory, Row, row}
use Rattle.snap_steps.specs.Rule.Changes.{changing, HoldsIts}
use Rattle.snap_steps.specs.Stages.{in_write, owes_count, has_counted}
use Rattle.snap_steps.specs.Rule.Apart.{AreApart}
use Rattle.snap_steps.specs.Each.{Each}
use Rattle.snap_steps.specs.Rule.Notes.{IsTrueNote, IsTrueOfHeader}
use Rattle.snap_steps.specs.Rule.Words.{IsMemory, KnowsAbout}
use Rattle.snap_steps.specs.Rule.Gate.{IsGated}
use Rattle.snap_steps.specs.Rule.Uses.{AreUsed}
use Rattle.snap_steps.specs.Rule.Locks.{AreLocked, KnowsRows}
use Rattle.snap_steps.specs.Rule.Ways.{AllLinked, IsOnWay}
use Rattle.snap_steps.specs.Rule.Epochs.{AllAre, KnowsEpoch}
use Rattle.snap_steps.specs.States.{state_of}
use Rattle.snap_steps.proofs.Tables.{header_moves, doings_stay, reading_evolves, ways_evolve}
use Rattle.snap_steps.specs.declared.view.WordNote.{WordNote}
use Rattle.snap_steps.specs.declared.view.Stage.{Stage}
use Rattle.snap_steps.proofs.EachView.{each_set, each_stays}
use Rattle.snap_steps.proofs.Totals.{total-set}
use Rattle.snap_steps.proofs.Notes.{header_later, header_more}
use Rattle.snap_steps.proofs.Parts.Apart.{apart_stays}
use Rattle.snap_steps.proofs.Parts.Drawn.{drawn_stays}
use Rattle.snap_steps.proofs.Parts.Names.{named_stays}
use Rattle.snap_steps.proofs.Parts.Locks.{locked_stays}
use Rattle.snap_steps.proofs.Parts.History.{history_stays}
use Rattle.snap_steps.specs.Steps.Header.{word_noted, handed_after, epochs_after}
use Rattle.snap_steps.proofs.Memories.{loaded}
use Rattle.snap_steps.proofs.Parts.Gate.{gated_stays}
use Rattle.snap_steps.proofs.Parts.Uses.{used_stays, cut_stays}
use Rattle.snap_steps.proofs.Parts.Bases.{bases_evolve, CutStays}
use Rattle.snap_steps.specs.Rule.Bases.{KnowsBase}
use Rattle.snap_steps.specs.Rule.Worn.{KnowsWorn}
use Rattle.snap_steps.specs.Rule.Tries.{KnowsTry}
use Rattle.snap_steps.proofs.Parts.Tries.{tries_evolve}
use Rattle.snap_steps.proofs.Parts.Marks.{marks_stay}
use Rattle.snap_steps.specs.Rule.Lasting.{AreLasting}
use Rattle.snap_steps.proofs.Parts.Lasting.{lastings_evolve}
use Rattle.snap_steps.specs.Rule.Names.{ActsAsPass}
use Rattle.snap_steps.proofs.Parts.Worn.{worns_evolve}
use Rattle.snap_steps.specs.Numbers.{all_cuts}
use Rattle.snap_steps.specs.Roles.{is_counted}
use Rattle.snap_steps.specs.declared.view.Stage.TheVariants.{Idle}

abbrev pub Rule : About → State (Unit {0}) View → Type 0
Rule about s = Kept about s.words s.views

-- a step that changes the turn of a pass and its notes, and of the words `gate`, `left` and `done` alone
pub turning : (about : About) (words : List ℕ) (views : List View) (k : Kept about words views) (id : ℕ) (v : View) (at : get_elem? views id ≡ some v) (words' : List ℕ) (m' : Memory) (notes : List WordNote) (handed epochs : ℕ) (stage : Stage) (uses : ℕ) (present copies : List ℕ) (debt : Debt) (reads place : Reading)
    → IsMemory about words' m' → m'.next ≡ k.m.next → m'.epoch ≡ k.m.epoch → IsTrueOfHeader m'.next m'.epoch notes handed epochs v.base.drawn
    → m'.done + owes_count stage ≡ k.m.done + owes_count v.stage → m'.done + k.m.left + has_counted v.stage ≤ k.m.done + m'.left + has_counted stage → m'.rows ≡ k.m.rows → ((r : ℕ) → times r v.holds ≤ in_write stage) → AllAre k.m.epoch present × (in_write stage ≡ 0 → present ≡ [])
    → IsGated m'.gate m'.left (set views id (record v { noted = record v.noted { notes = notes; handed = handed; epochs = epochs }; stage = stage; uses = uses; words = record v.words { present = present }; fresh = record v.fresh { copies = copies }; debt = debt; way = record v.way { reads = reads; place = place } }))
    → AreUsed m'.gate m'.epoch (set views id (record v { noted = record v.noted { notes = notes; handed = handed; epochs = epochs }; stage = stage; uses = uses; words = record v.words { present = present }; fresh = record v.fresh { copies = copies }; debt = debt; way = record v.way { reads = reads; place = place } }))
    → k.m.gate / 2 ≤ m'.gate / 2 → (m'.gate / 2 ≡ k.m.gate / 2 → in_write stage ≤ in_write v.stage) → (is_counted v.role ≡ 0 → stage ≡ Idle) → CutStays v.stage stage
    → (DebtDoing (state_of k.m k.g) v.doing debt × (in_write stage ≡ 0 → debt ≡ no_debt) × (HasRoom (state_of k.m k.g) k.m.next about.rows → DebtOk (state_of k.m k.g) (debts_of views) → DebtOk (state_of k.m k.g) (updates.changed (debts_of views) id debt)))
    → ReadingOk (state_of k.m k.g) v.seen reads × PlaceKnown (state_of k.m k.g) place
    → Kept about words' (set views id (record v { noted = record v.noted { notes = notes; handed = handed; epochs = epochs }; stage = stage; uses = uses; words = record v.words { present = present }; fresh = record v.fresh { copies = copies }; debt = debt; way = record v.way { reads = reads; place = place } }))
turning about words views k id v at words' m' notes handed epochs stage uses present copies debt reads place memory next epoch true_notes counted few rows writing knows_epoch gated used up entering acts cut_stays_so owed searching =
    let w : View = record v { noted = record v.noted { notes = notes; handed = handed; epochs = epochs }; stage = stage; uses = uses; words = record v.words { present = present }; fresh = record v.fresh { copies = copies }; debt = debt; way = record v.way { reads = reads; place = place } } in
    let half = gated.half in let one = gated.one in let was = k.writers in
    let total_in : total (λ u. in_write u.stage) (set views id w) + in_write v.stage ≡ total (λ u. in_write u.stage) views + in_write stage = total-set (λ u. in_write u.stage) views id v w at in
    let may : MayCount (state_of k.m k.g) m'.gate m'.left (total (λ u. in_write u.stage) (set views id w)) = record { up = up; entering = λ same none. omega (arith, entering same); count = omega arith } in
    let st : Table = state_of k.m k.g in let s' : Table = state_of m' (record k.g { writers = total (λ u. in_write u.stage) (set views id w) }) in
    let still : IsSilent st s' = header_still k.m m' k.g (total (λ u. in_write u.stage) (set views id w)) rows epoch in
    let moves = header_moves k.m m' k.g (total (λ u. in_write u.stage) (set views id w)) rows epoch may k.table in
    record {
      m = m';
      g = record k.g { writers = total (λ u. in_write u.stage) (set views id w) };
      memory = memory;
      about_known = each_stays views id v w at (KnowsAbout about) k.about_known (λ p. p);
      named = named_stays views id v w at about.passes k.named refl refl refl;
      history = history_stays views id v w at k.g.history k.history refl refl refl refl refl refl;
      counted = record { all = omega (arith, k.counted.all, total-set (λ u. owes_count u.stage) views id v w at); few = omega (arith, k.counted.few, total-set (λ u. has_counted u.stage) views id v w at) };
      drawn = drawn_stays views id v w at k.m.next m'.next k.drawn (omega arith) refl refl;
      notes = each_set views id w k.notes (header_later k.m.next m'.next k.m.epoch m'.epoch (omega arith) (omega arith)) true_notes;
      gated = gated;
      used = used;
      locked = subst (λ l. AreLocked l (set views id w)) (sym rows) (locked_stays views id v w at k.m.rows k.locked refl refl writing);
      known = subst (λ l. Each (KnowsRows l) (set views id w)) (sym rows) (each_stays views id v w at (KnowsRows k.m.rows) k.known (λ p. p));
      table = moves.1;
      writers = refl;
      changes = λ n d none. k.changes n d (omega (arith, none, total-set (λ u. changing n d u.doing) views id v w at));
      doing = each_stays views id v w at (λ u. DoingOk (state_of m' (record k.g { writers = total (λ u. in_write u.stage) (set views id w) })) u.doing) (doings_stay (state_of k.m k.g) (state_of m' (record k.g { writers = total (λ u. in_write u.stage) (set views id w) })) views k.doing (λ j u there n c. moves.2 n tt)) (λ p. p);
      held = each_stays views id v w at HoldsIts k.held (λ p. p);
      present = subst (λ e. Each (KnowsEpoch e) (set views id w)) (sym epoch) (each_stays views id v w at (KnowsEpoch k.m.epoch) k.present (λ p. knows_epoch));
      reached = each_stays views id v w at (λ u. AllLinked k.g.linked u.trail.reached) k.reached (λ p. p);
      ways = each_stays views id v w at (IsOnWay (state_of m' (record k.g { writers = total (λ u. in_write u.stage) (set views id w) }))) (ways_evolve (state_of k.m k.g) (state_of m' (record k.g { writers = total (λ u. in_write u.stage) (set views id w) })) views moves.0 k.history.seen k.ways) (λ _. reading_evolves st s' moves.0 v.seen reads (k.history.seen id v at).0 searching.0);
      places = each_stays views id v w at (KnowsPlace (state_of m' (record k.g { writers = total (λ u. in_write u.stage) (set views id w) }))) (places_evolve (state_of k.m k.g) (state_of m' (record k.g { writers = total (λ u. in_write u.stage) (set views id w) })) views moves.0 k.places) (λ _. place_known_evolves st s' moves.0 place searching.1);
      worn = each_stays views id v w at (KnowsWorn (state_of m' (record k.g { writers = total (λ u. in_write u.stage) (set views id w) }))) (worns_evolve (state_of k.m k.g) (state_of m' (record k.g { writers = total (λ u. in_write u.stage) (set views id w) })) views moves.0 k.worn) (λ p. p);
      lasting = each_stays views id v w at (λ u. AreLasting (state_of m' (record k.g { writers = total (λ u. in_write u.stage) (set views id w) })) u.words.lasting) (lastings_evolve (state_of k.m k.g) (state_of m' (record k.g { writers = total (λ u. in_write u.stage) (set views id w) })) views moves.0 k.lasting) (λ p. p);
      based = each_stays views id v w at (KnowsBase (state_of m' (record k.g { writers = total (λ u. in_write u.stage) (set views id w) }))) (bases_evolve about words views k (state_of m' (record k.g { writers = total (λ u. in_write u.stage) (set views id w) })) moves.0 (λ _. refl)) (λ p. (p.0, λ z. let was = cut_stays_so z in let q = p.1 was.0 in (was.1 q.0, q.1, q.2)));
      tries = each_stays views id v w at (KnowsTry (state_of m' (record k.g { writers = total (λ u. in_write u.stage) (set views id w) }))) (tries_evolve (state_of k.m k.g) (state_of m' (record k.g { writers = total (λ u. in_write u.stage) (set views id w) })) views moves.0 k.tries) (λ p. p);
      marked = marks_stay views id v w k.m.rows m'.rows at k.marked (λ n. ap (λ (l : List Row). (row l n).stamp) rows) refl;
      cut = subst (λ e. e ≡ total all_cuts (set views id w)) (sym epoch) (cut_stays views id v w at k.m.epoch k.cut refl refl);
      acting = each_stays views id v w at ActsAsPass k.acting (λ p z. (acts z, (p z).1, (p z).2));
      heights = each_stays views id v w at (λ u. AreHeights (state_of m' (record k.g { writers = total (λ u. in_write u.stage) (set views id w) })) u.holds u.heights) (heights_evolve (state_of k.m k.g) (state_of m' (record k.g { writers = total (λ u. in_write u.stage) (set views id w) })) views (λ j u there n c. leaves_apart (state_of k.m k.g) (state_of m' (record k.g { writers = total (λ u. in_write u.stage) (set views id w) })) n (moves.2 n tt) (λ y. ap (λ (l : List Row). (row l y).height) rows)) k.heights) (λ p. p);
      debts = each_set {P = KnowsDebt s'} {Q = KnowsDebt s'} views id w (debts_known st s' views k.table moves.0 k.doing (λ j u there n c. ap (λ (l : List Row). (row l n).stamp) rows) k.debts) (λ u p. p) (debt_doing_kept st s' k.table moves.0 v.doing debt (k.doing id v at) (λ n _ c. ap (λ (l : List Row). (row l n).stamp) rows) owed.0, owed.1);
      owing = owed_after views id v w at st s' k.m.next m'.next about.rows moves.0 (omega arith) (λ room ok. silent_owes st s' (updates.changed (debts_of views) id debt) still (owed.2 room ok)) k.owing;
      apart = subst (λ l. AreApart m'.next l k.g.linked (set views id w)) (sym rows) (apart_stays views id v w at k.m.next m'.next k.m.rows k.g.linked k.apart (omega arith) (λ p. p) (λ p. p));
    }

-- a step that writes no word and leaves a true note
pub noting : (about : About) (words : List ℕ) (views : List View) (k : Kept about words views) (i id : ℕ) (v : View) (n : WordNote) → get_elem? views id ≡ some v → IsTrueNote k.m.next k.m.epoch n
    → Kept about (set words i (get_or words i 0)) (set views id (word_noted v n))
noting about words views k i id v n at is =
    turning about words views k id v at (set words i (get_or words i 0)) k.m (v.noted.notes ++ n ∷ []) (handed_after v.noted.handed n) (epochs_after v.noted.epochs n) v.stage v.uses v.words.present v.fresh.copies v.debt v.way.reads v.way.place (loaded k.memory i) refl refl (header_more k.m.next k.m.epoch v n (k.notes id v at) is) refl (omega arith) refl (k.locked.writing id v at) (k.present id v at)
    (gated_stays views id v (word_noted v n) at k.m.gate k.m.left k.gated refl) (used_stays views id v (word_noted v n) at k.m.gate k.m.epoch k.used refl refl refl refl refl) (omega arith) (λ same. omega arith) (λ z. (k.acting id v at z).0) (λ z. (z, λ q. q)) ((k.debts id v at).0, (k.debts id v at).1, λ _ ok. owed_itself views id v at (state_of k.m k.g) ok) (k.ways id v at, k.places id v at)
