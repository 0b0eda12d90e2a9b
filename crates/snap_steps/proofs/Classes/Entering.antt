-- Steps that make the entry of a write.
use Rattle.snap_steps.proofs.Parts.Places.{places_evolve}
use Rattle.snap_steps.specs.Rule.Places.{KnowsPlace}
use Rattle.snap_steps.proofs.EachView.{each_others}
use Rattle.snap_steps.specs.Counting.{times}
use Rattle.snap_steps.specs.Rule.Debts.{KnowsDebt, debts_of}
use Rattle.snap_rule.specs.Debt.{DebtOk}
use Rattle.snap_rule.specs.Room.{HasRoom}
use Rattle.snap_rule.specs.declared.debt.Debt.{Debt}
use Rattle.snap_rule.specs.Debt.Changes.{DebtDoing}
use Rattle.snap_rule.specs.Updates as updates
use Rattle.snap_steps.proofs.Parts.Debts.{owed_after, debts_known}
use Rattle.snap_steps.proofs.Parts.Heights.{LeavesHeights, heights_kept}
use Rattle.std.proofs.Common.{◌≡◌, ℕ, ◌+◌, ◌<◌, true, false, List, [], ◌∷◌, ◌++◌, set, sym, ap, ◌∙◌, arith, length-append, zero, suc, refl, Some, None, ◌≢◌}
use lib.ListN.{get_elem?}
use mathlib.Core.Option.{some}
use Rattle.snap_model.specs.History.{told, call_key, call_value}
use Rattle.snap_model.specs.declared.call.Entry.{Entry}
use Rattle.snap_rule.specs.Doing.{Concerns, DoingOk}
use Rattle.snap_rule.specs.Rule.{TableOk, IsLive}
use Rattle.snap_rule.specs.State.{State as Table, Beside, In}
use Rattle.snap_rule.specs.Tree.{value_word, value_of}
use Rattle.snap_rule.specs.declared.reader.Reading.TheVariants.{Resting}
use Rattle.snap_stamp.specs.declared.layout.Field.TheVariants.{Birth, Stamp}
use Rattle.snap_stamp.specs.declared.side.Side.{Side}
use Rattle.snap_steps.specs.Counting.{total}
use Rattle.snap_steps.specs.Memory.{Row, row}
use Rattle.snap_steps.specs.Rule.Changes.{changing, HoldsIts}
use Rattle.snap_steps.specs.Roles.{is_counted}
use Rattle.snap_steps.specs.Stages.{in_write, is_closing, is_quiet, may_cut, owes_count, has_counted}
use Rattle.snap_steps.specs.Rule.Apart.{AreApart}
use Rattle.snap_steps.specs.Each.{Each}
use Rattle.snap_steps.specs.Rule.Notes.{KnowsHeader}
use Rattle.snap_steps.specs.Rule.Words.{IsMemory, KnowsAbout}
use Rattle.snap_steps.specs.Rule.Gate.{KnowsGate}
use Rattle.snap_steps.specs.Rule.Locks.{AreLocked, KnowsRows}
use Rattle.snap_steps.specs.Rule.Ways.{AllLinked, IsOnWay}
use Rattle.snap_steps.specs.Rule.Epochs.{AllAre, KnowsEpoch}
use Rattle.snap_steps.specs.Rule.{Kept}
use Rattle.snap_steps.specs.States.{state_of}
use Rattle.snap_steps.proofs.Tables.{Moves, doings_stay, ways_evolve, all_are, live_row}
use Rattle.snap_steps.proofs.Reached.{all_linked_grows}
use Rattle.snap_steps.specs.declared.view.View.{View}
use Rattle.snap_steps.specs.declared.view.Role.TheVariants.{Passing}
use Rattle.snap_steps.specs.declared.view.Stage.TheVariants.{Writing}
use Rattle.snap_steps.specs.declared.rule.About.{About}
use Rattle.snap_steps.proofs.EachView.{each_set, each_stays}
use Rattle.snap_steps.proofs.Totals.{total-set, term_le}
use Rattle.snap_steps.proofs.Parts.Drawn.{drawn_stays}
use Rattle.snap_steps.proofs.Parts.Names.{named_stays}
use Rattle.snap_steps.proofs.Parts.Gate.{gated_moves}
use Rattle.snap_steps.proofs.Parts.Uses.{used_moves, cut_stays}
use Rattle.snap_steps.proofs.Parts.History.{history_entered}
use Rattle.snap_steps.specs.Steps.Writes.{call_of}
use Rattle.snap_steps.specs.Facts.{IsBorn}
use Rattle.snap_steps.proofs.Knowing.{known_is}
use Rattle.snap_steps.proofs.Parts.Bases.{bases_evolve}
use Rattle.snap_steps.specs.Rule.Bases.{KnowsBase}
use Rattle.snap_steps.specs.Rule.Worn.{KnowsWorn}
use Rattle.snap_steps.specs.Rule.Tries.{KnowsTry}
use Rattle.snap_steps.proofs.Parts.Tries.{tries_evolve}
use Rattle.snap_steps.proofs.Parts.Marks.{marks_stay}
use Rattle.snap_steps.specs.Rule.Lasting.{AreLasting}
use Rattle.snap_steps.proofs.Parts.Lasting.{lastings_evolve}
use Rattle.snap_steps.specs.Rule.Names.{ActsAsPass}
use Rattle.snap_steps.proofs.Parts.Worn.{worns_evolve}
use Rattle.snap_steps.specs.declared.view.Fact.{Fact}

-- the view of a pass that has made the entry e, after which these are the rows that it has reached, its own rows and
-- what it knows
abbrev pub with_entry : View → List Entry → Entry → (reached own : List ℕ) → List Fact → List Fact → Debt → View
with_entry v log e reached own wrote knows debt = record v { trail = record v.trail { reached = reached }; heights = []; debt = debt; way = record v.way { reads = Resting }; seen = log ++ e ∷ []; mine = v.mine ++ e ∷ []; stage = Writing true false; fresh = record v.fresh { own = own; wrote = wrote }; words = record v.words { knows = knows } }

-- a step of a write without its entry that writes one word of a held row, or none, and makes the entry
pub entering : (about : About) (words : List ℕ) (views : List View) (k : Kept about words views) (id : ℕ) (v : View) (at : get_elem? views id ≡ some v) (words' : List ℕ) (rows' : List Row) (e : Entry) (b : Beside) (reached own : List ℕ) (wrote knows : List Fact) (debt : Debt) (away : ℕ → Type 0)
    → AllLinked b.linked reached
    → IsMemory about words' (record k.m { rows = rows' }) → v.role ≡ Passing → v.stage ≡ Writing false false → e.who ≡ v.who → e.reply ≡ told k.g.history (call_key e.call)
    → (let g' : Beside = record b { history = k.g.history ++ e ∷ []; writers = k.g.writers } in Moves (state_of k.m k.g) (state_of (record k.m { rows = rows' }) g') away)
    → ((n : ℕ) (d : Side) → b.pending n d ≡ k.g.pending n d) → ((j : ℕ) (u : View) → get_elem? views j ≡ some u → (n : ℕ) → Concerns u.doing n → away n)
    → AreLocked rows' (set views id (with_entry v k.g.history e reached own wrote knows debt)) → Each (KnowsRows rows') (set views id (with_entry v k.g.history e reached own wrote knows debt)) → AreApart k.m.next rows' b.linked (set views id (with_entry v k.g.history e reached own wrote knows debt)) → ((n : ℕ) → (row rows' n).stamp ≡ (row k.m.rows n).stamp)
    → (let s' : Table = state_of (record k.m { rows = rows' }) (record b { history = k.g.history ++ e ∷ []; writers = k.g.writers }) in
    ((j : ℕ) (u : View) → j ≢ id → get_elem? views j ≡ some u → (n : ℕ) → 0 < times n u.holds → LeavesHeights (state_of k.m k.g) s' n)
    × DebtDoing s' v.doing debt × (HasRoom (state_of k.m k.g) k.m.next about.rows → DebtOk (state_of k.m k.g) (debts_of views) → DebtOk s' (updates.changed (debts_of views) id debt)))
    → Kept about words' (set views id (with_entry v k.g.history e reached own wrote knows debt))
entering about words views k id v at words' rows' e b reached own wrote knows debt away all_reached memory passing writing mine_is reply moves pending clear locked known apart stamps owed =
    let w : View = with_entry v k.g.history e reached own wrote knows debt in
    let a : in_write v.stage ≡ 1 = ap in_write writing in let c0 : is_closing v.stage ≡ 0 = ap is_closing writing in let c : may_cut v.stage ≡ 0 = ap may_cut writing in let q : is_quiet v.stage ≡ 0 = ap is_quiet writing in
    let o : owes_count v.stage ≡ 0 = ap owes_count writing in let d : has_counted v.stage ≡ 0 = ap has_counted writing in
    let g = k.gated in
    let g' : Beside = record b { history = k.g.history ++ e ∷ []; writers = k.g.writers } in
    let s' : Table = state_of (record k.m { rows = rows' }) g' in
    let ev = moves.0 in
    record {
      m = record k.m { rows = rows' };
      g = g';
      memory = memory;
      about_known = each_stays views id v w at (KnowsAbout about) k.about_known (λ p. p);
      named = named_stays views id v w at about.passes k.named refl refl refl;
      history = history_entered views id v w at k.g.history e k.history k.named.once passing mine_is reply refl refl refl refl refl refl;
      counted = record { all = omega (arith, k.counted.all, length-append k.g.history (e ∷ []), total-set (λ u. owes_count u.stage) views id v w at); few = omega (arith, k.counted.few, total-set (λ u. has_counted u.stage) views id v w at) };
      drawn = drawn_stays views id v w at k.m.next k.m.next k.drawn (omega arith) refl refl;
      notes = each_stays views id v w at (KnowsHeader k.m.next k.m.epoch) k.notes (λ p. p);
      gated = gated_moves views id v w at k.m.gate k.m.left k.m.gate k.m.left g (omega arith) (omega (arith, g.one))
          (λ some_quiet. omega (arith, total-set (λ u. in_write u.stage) views id v w at, g.quiet (omega (arith, total-set (λ u. is_quiet u.stage) views id v w at))))
          (each_stays views id v w at (λ u. KnowsGate k.m.gate u.stage) g.at (λ p. tt));
      used = used_moves views id v w at k.m.gate k.m.epoch k.m.gate k.m.epoch k.used refl refl refl (omega arith) (k.used.few id v at).0;
      locked = locked;
      known = known;
      table = moves.1;
      writers = omega (arith, k.writers, total-set (λ u. in_write u.stage) views id v w at);
      changes = λ n y none. pending n y ∙ k.changes n y (omega (arith, none, total-set (λ u. changing n y u.doing) views id v w at));
      doing = each_stays views id v w at (λ u. DoingOk s' u.doing) (doings_stay (state_of k.m k.g) s' views k.doing (λ j u there n x. moves.2 n (clear j u there n x))) (λ p. p);
      held = each_stays views id v w at HoldsIts k.held (λ p. p);
      present = each_stays views id v w at (KnowsEpoch k.m.epoch) k.present (λ p. (p.0, λ z. absurd (omega (arith, z))));
      reached = each_set {P = λ u. AllLinked k.g.linked u.trail.reached} {Q = λ u. AllLinked b.linked u.trail.reached} views id w k.reached (λ u p. all_linked_grows k.g.linked b.linked ev.linked u.trail.reached p) all_reached;
      ways = each_set {P = IsOnWay s'} {Q = IsOnWay s'} views id w (ways_evolve (state_of k.m k.g) s' views ev k.history.seen k.ways) (λ u p. p) tt;
      places = each_stays views id v w at (KnowsPlace s') (places_evolve (state_of k.m k.g) s' views ev k.places) (λ p. p);
      worn = each_stays views id v w at (KnowsWorn s') (worns_evolve (state_of k.m k.g) s' views ev k.worn) (λ p. p);
      lasting = each_stays views id v w at (λ u. AreLasting s' u.words.lasting) (lastings_evolve (state_of k.m k.g) s' views ev k.lasting) (λ p. p);
      based = each_stays views id v w at (KnowsBase s') (bases_evolve about words views k s' ev (λ none. absurd (omega (arith, a, none, term_le (λ u. in_write u.stage) views id v at)))) (λ p. (p.0, λ z. absurd (omega (arith, z))));
      tries = each_stays views id v w at (KnowsTry s') (tries_evolve (state_of k.m k.g) s' views ev k.tries) (λ p. p);
      marked = marks_stay views id v w k.m.rows rows' at k.marked stamps refl;
      cut = cut_stays views id v w at k.m.epoch k.cut refl refl;
      acting = each_stays views id v w at ActsAsPass k.acting (λ _ z. absurd (omega (arith, z, ap is_counted passing)));
      apart = apart;
      heights = each_others views id v at w (λ j y ne there. heights_kept (state_of k.m k.g) s' y.holds y.heights (owed.0 j y ne there) (k.heights j y there)) tt;
      debts = each_set {P = KnowsDebt s'} {Q = KnowsDebt s'} views id w (debts_known (state_of k.m k.g) s' views k.table ev k.doing (λ j u there n c. stamps n) k.debts) (λ u p. p) (owed.1, λ z. absurd (omega (arith, z)));
      owing = owed_after views id v w at (state_of k.m k.g) s' k.m.next k.m.next about.rows ev (omega arith) owed.2 k.owing;
    }

pub key_made : (key n : ℕ) → call_key (call_of key n) ≡ key
key_made key zero = refl
key_made key (suc n) = refl

pub value_made : (key n : ℕ) → value_word (call_value (call_of key n)) ≡ n
value_made key zero = refl
value_made key (suc n) = refl

-- the value that a word is
pub value_is : (o : Rattle.std.proofs.Common.Option ℕ) (x : ℕ) → x ≡ value_word o → value_of x ≡ o
value_is None x e = ap value_of e
value_is (Some y) x e = ap value_of e

pub some_write : (views : List View) (id : ℕ) (v : View) (writers : ℕ) → get_elem? views id ≡ some v → writers ≡ total (λ u. in_write u.stage) views → in_write v.stage ≡ 1 → writers ≢ 0
some_write views id v writers at is writing = λ z. omega (arith, term_le (λ u. in_write u.stage) views id v at)

-- a row of which this is known under the lock is live
pub born_live : (s : Table) (rows : List Row) (epoch : ℕ) (v : View) (r : ℕ) → TableOk s → s.birth r ≡ (row rows r).birth → s.stamp r ≡ (row rows r).stamp → s.epoch ≡ epoch → KnowsRows rows v → AllAre epoch v.words.present → In r s.linked → IsBorn v r → IsLive s r
born_live s rows epoch v r ok birth stamp now known present is h =
    live_row s r h.birth h.stamp ok is (birth ∙ known_is rows v.holds v.words.knows r Birth h.birth known h.is_birth) (all_are epoch h.birth v.words.present present h.now ∙ sym now) (stamp ∙ known_is rows v.holds v.words.knows r Stamp h.stamp known h.is_stamp) h.unmarked
