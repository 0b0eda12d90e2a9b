-- The cut of a clone keeps the rule.
use Rattle.snap_steps.proofs.Parts.Places.{places_evolve}
use Rattle.snap_steps.specs.Rule.Places.{KnowsPlace}
use Rattle.snap_steps.proofs.Parts.Heights.{no_heights}
use Rattle.snap_steps.specs.Rule.Debts.{KnowsDebt, debts_of}
use Rattle.snap_steps.specs.Rule.Heights.{AreHeights}
use Rattle.snap_rule.specs.Debt.{DebtOk}
use Rattle.snap_rule.proofs.Debts.Kinds.{cut_owes}
use Rattle.snap_rule.proofs.Debts.Settling.{cut_cause}
use Rattle.snap_rule.proofs.Trees.Sizes.{few_stand}
use Rattle.snap_rule.specs.Settled.{IsSettledTree}
use Rattle.snap_rule.specs.Room.{HasReason}
use Rattle.snap_steps.proofs.Parts.Debts.{owed_after, owed_itself, debts_known, debts_none}
use Rattle.std.proofs.Common.{◌≤◌, ◌<◌, ◌⊎◌, inl, inr, true, false, ◌≡◌, ℕ, ◌+◌, ◌%◌, ◌^◌, List, [], get_or, sym, refl, ap, ◌∙◌, subst, arith, length, length-append, ◌∷◌}
use lib.ListN.{get_elem?}
use mathlib.Core.Option.{some}
use Rattle.atomic_table.specs.Table.{step, keeps, Allows}
use Rattle.snap_model.specs.History.{calls_of}
use Rattle.snap_model.specs.declared.call.Entry.{Entry}
use Rattle.snap_rule.proofs.Evolving.Telling.{cut_evolves, cut_image}
use Rattle.snap_rule.proofs.Pairs.{tree_pairs}
use Rattle.snap_rule.proofs.Table.{cut_keeps}
use Rattle.snap_rule.specs.Doing.{DoingOk}
use Rattle.snap_rule.specs.Evolves.{Evolves}
use Rattle.snap_rule.specs.Rule.{TableOk}
use Rattle.snap_rule.specs.State.{State as Table, In, IsImage, IsShared, Represents, WasLinked}
use Rattle.snap_rule.specs.Tree.{EachRow, Tree, root}
use Rattle.snap_rule.specs.Tree.Tree.{empty, node}
use Rattle.snap_stamp.specs.declared.side.Side.TheVariants.{Right}
use Rattle.snap_steps.specs.Counting.{total, times}
use Rattle.snap_steps.specs.Memory.{Memory}
use Rattle.snap_steps.specs.States.{state_of}
use Rattle.snap_steps.specs.Rule.Changes.{changing, HoldsIts}
use Rattle.snap_steps.specs.Steps.Gate.{cut_made, cut_told}
use Rattle.snap_steps.specs.Stages.{after_cut, in_write, is_closing, is_quiet, may_cut, owes_count, has_counted}
use Rattle.snap_steps.specs.Roles.{is_counted, is_live}
use Rattle.snap_steps.specs.Rule.Epochs.{AllAre, KnowsEpoch}
use Rattle.snap_steps.specs.Rule.Gate.{KnowsGate}
use Rattle.snap_steps.specs.Rule.History.{IsIn, IsTrueOf, whole}
use Rattle.snap_steps.specs.Rule.Names.{names, ActsAsPass}
use Rattle.snap_steps.specs.Rule.Words.{KnowsAbout}
use Rattle.snap_steps.specs.Rule.Locks.{KnowsRows}
use Rattle.snap_steps.specs.Rule.Ways.{AllLinked, IsOnWay}
use Rattle.snap_steps.specs.declared.view.View.{View}
use Rattle.snap_steps.specs.declared.view.Role.TheVariants.{Passing}
use Rattle.snap_steps.specs.declared.view.Balance.{Balance}
use Rattle.snap_steps.specs.declared.view.Balance.TheVariants.{Settled, RowsOut, StampOut}
use Rattle.snap_steps.specs.declared.view.Stage.{Stage}
use Rattle.snap_steps.specs.declared.view.Stage.TheVariants.{Idle, Writing, Closing}
use Rattle.snap_steps.specs.declared.rule.About.{About}
use Rattle.snap_steps.proofs.Ends.{knows_cuts}
use Rattle.snap_steps.proofs.EachView.{each_set, none_total, each_stays, each_others}
use Rattle.snap_steps.proofs.Totals.{total-set, term_le}
use Rattle.snap_steps.proofs.Notes.{header_later}
use Rattle.snap_steps.proofs.Prefixes.{begins_itself, begins_length}
use Rattle.snap_steps.proofs.Memories.{epoch_is, epoch_set}
use Rattle.snap_steps.proofs.Tables.{in_times, ways_evolve, doings_stay, none_changing}
use Rattle.snap_steps.proofs.Parts.Apart.{apart_stays}
use Rattle.snap_steps.proofs.Parts.Drawn.{drawn_stays}
use Rattle.snap_steps.proofs.Parts.Names.{named_stays}
use Rattle.snap_steps.proofs.Parts.Locks.{locked_stays}
use Rattle.snap_steps.proofs.Parts.Gate.{gated_moves}
use Rattle.snap_steps.proofs.Parts.Uses.{used_moves, epoch_small, gate_small}
use Rattle.snap_steps.proofs.Parts.History.{whole_grows}
use Rattle.snap_steps.proofs.Classes.Turning.{Rule}
use Rattle.snap_steps.specs.Steps.Told.{Sat}
use mathlib.Core.Option as maybe
use Rattle.snap_rule.specs.Kinds.Clones as clone_kinds
use Rattle.snap_steps.proofs.Parts.Bases.{bases_evolve, tree_of-parts}
use Rattle.snap_steps.specs.Clones.{ArePlaced, IsCaused, IsCloneOf, parts_of, tree_of}
use Rattle.snap_steps.specs.Rule.Bases.{KeepsCause, IsBase}
use Rattle.snap_steps.specs.Rule.Worn.{KnowsWorn}
use Rattle.snap_steps.specs.Rule.Tries.{KnowsTry}
use Rattle.snap_steps.proofs.Parts.Tries.{tries_evolve}
use Rattle.snap_steps.proofs.Parts.Marks.{marks_stay}
use Rattle.snap_steps.specs.Rule.Lasting.{AreLasting}
use Rattle.snap_steps.proofs.Parts.Lasting.{lastings_evolve}
use Rattle.snap_steps.proofs.Parts.Worn.{worns_evolve}
use Rattle.snap_steps.specs.Numbers.{all_cuts}

-- who is in no write owes no count, and has none
none_owes : (st : Stage) → in_write st ≡ 0 → owes_count st ≡ 0
none_owes Idle z = refl
none_owes (Writing made counted) z = absurd (omega (arith, z))
none_owes (Closing gate quiet cut) z = refl

none_counted : (st : Stage) → in_write st ≡ 0 → has_counted st ≡ 0
none_counted Idle z = refl
none_counted (Writing made counted) z = absurd (omega (arith, z))
none_counted (Closing gate quiet cut) z = refl

-- rows that were linked are rows of the table
placed_rows : (linked : List ℕ) (rows : ℕ) (s : Table) (t : Tree) → Represents s s.link t → EachRow (λ r. In r linked × IsShared s r) t → ((y : ℕ) → In y linked → y ≤ rows) → ArePlaced rows t
placed_rows linked rows s empty r e low = tt
placed_rows linked rows s (node n a b) r e low = ((r.0.is_row, low n.row e.0.0), placed_rows linked rows s a r.3 e.1 low, placed_rows linked rows s b r.4 e.2 low)

-- whether the tree is settled, and else why not
record Weighs (s s' : Table) (rows next : ℕ) (t : Tree) : Type 0 where
  balance : Balance
  caused : IsCaused rows next t balance
  cause : KeepsCause s' balance

weighs : (s s' : Table) (rows next : ℕ) → TableOk s → ((y : ℕ) → In y s.linked → (0 < y) × (y ≤ next)) → s'.linked ≡ s.linked → ((y : ℕ) → s'.stamp y ≡ s.stamp y) → IsSettledTree s.tree ⊎ HasReason s next rows → Weighs s s' rows next s.tree
weighs s s' rows next ok low linked stamps (inl settled) = record { balance = Settled; caused = settled; cause = tt }
weighs s s' rows next ok low linked stamps (inr (inl full)) = record { balance = RowsOut; caused = full; cause = tt }
weighs s s' rows next ok low linked stamps (inr (inr out)) = go out.linked
  where
    go : WasLinked s out.row → Weighs s s' rows next s.tree
    go (inl z) = absurd (omega (arith, out.last, ap s.stamp z, ok.links.zero_stamp))
    go (inr is_in) = record { balance = StampOut out.row; caused = low out.row is_in; cause = record { linked = subst (In out.row) (sym linked) is_in; last = omega (arith, out.last, stamps out.row) } }

-- `cut`
pub cuts : (about : About) (slots id : ℕ) (me : Sat) (gate : ℕ) → me.0.role ≡ Passing → me.0.joined ≡ [] → me.0.stage ≡ Closing gate true false → Allows (Rule about) slots id me 4 (λ n. (n + 1) % 2 ^ 64) (cut_told (step slots 4 1 0 maybe.none) me)
cuts about slots id me gate passing alone closing s k wide at small =
    let v : View = me.0 in let views : List View = s.views in let log : List Entry = k.g.history in let st : Table = state_of k.m k.g in
    let r : ℕ = get_or s.words 4 0 in let is : r ≡ k.m.epoch = epoch_is k.memory in let g = k.gated in let new : ℕ = (r + 1) % 2 ^ 64 in
    let low = epoch_small about.passes k.m.gate k.m.epoch views k.memory.few_passes k.named k.used in
    let up : new ≡ k.m.epoch + 1 = omega arith in
    let gate_low = gate_small about.passes k.m.gate k.m.epoch views k.memory.few_passes k.named k.used in
    let a : in_write v.stage ≡ 0 = ap in_write closing in
    let b : is_closing v.stage ≡ 1 = ap is_closing closing in
    let q : is_quiet v.stage ≡ 1 = ap is_quiet closing in
    let c : may_cut v.stage ≡ 1 = ap may_cut closing in
    let o : owes_count v.stage ≡ 0 = ap owes_count closing in
    let d : has_counted v.stage ≡ 0 = ap has_counted closing in
    let none : total (λ u. in_write u.stage) views ≡ 0 = g.quiet (omega (arith, term_le (λ u. is_quiet u.stage) views id v at)) in
    let idle : (j : ℕ) (u : View) → get_elem? views j ≡ some u → in_write u.stage ≡ 0 = λ j u there. omega (arith, none, term_le (λ y. in_write y.stage) views j u there) in
    let short : length log < 2 ^ 64 = omega (arith, gate_low, g.half, none, k.counted.all, k.counted.few, none_total (λ u. owes_count u.stage) views (λ j u there. none_owes u.stage (idle j u there)), none_total (λ u. has_counted u.stage) views (λ j u there. none_counted u.stage (idle j u there))) in
    let free : (j : ℕ) (u : View) → get_elem? views j ≡ some u → (n : ℕ) → times n u.holds ≡ 0 = λ j u there n. omega (arith, idle j u there, k.locked.writing j u there n) in
    let s' : Table = state_of (record k.m { epoch = new }) k.g in
    let may : clone_kinds.MayCut st = record { none_writes = k.writers ∙ none; no_change = λ n e. k.changes n e (none_total (λ u. changing n e u.doing) views (λ j u there. none_changing u.doing u.holds n e (k.held j u there) (free j u there n))) } in
    let none_owe = debts_none st views (λ j u there. (k.debts j u there).1 (idle j u there)) in
    let low_row : (y : ℕ) → In y k.g.linked → (0 < y) × (y ≤ k.m.next) = λ y is_in. let l = k.apart.low y (in_times y k.g.linked is_in) in (l.0, l.1) in
    let why : Weighs st s' about.rows k.m.next k.g.tree = weighs st s' about.rows k.m.next k.table low_row refl (λ y. refl) (cut_cause st (debts_of views) k.m.next about.rows k.table may k.owing none_owe).1 in
    let w : View = cut_made v log k.g.tree k.m.next why.balance in let stage : w.stage ≡ Closing gate true true = ap after_cut closing in
    let a' : in_write w.stage ≡ 0 = ap in_write stage in let b' : is_closing w.stage ≡ 1 = ap is_closing stage in let c' : may_cut w.stage ≡ 0 = ap may_cut stage in
    let o' : owes_count w.stage ≡ 0 = ap owes_count stage in let d' : has_counted w.stage ≡ 0 = ap has_counted stage in
    let path : clone_kinds.cut st ≡ s' = ap (λ (e : ℕ). let m : Memory = record k.m { epoch = e } in state_of m k.g) (sym up) in
    let ev : Evolves st s' = subst (Evolves st) path (cut_evolves st k.table.tree k.table.links k.table.changes may) in
    let ok : TableOk s' = subst TableOk path (cut_keeps st k.table may) in
    let image = subst (λ (z : Table). IsImage z (st.link 0 Right) k.g.tree) path (cut_image st k.table.tree k.table.links k.table.changes may) in
    let clone : IsCloneOf log k.g.tree = record { legal = k.history.legal; ordered = k.table.tree.ordered; tells = tree_pairs st k.table.tree; short = short } in
    let is_tree : tree_of (parts_of k.g.tree) ≡ k.g.tree = tree_of-parts k.g.tree in
    let top : s'.link 0 Right ≡ root (tree_of (parts_of k.g.tree)) = sym image.top ∙ sym (ap root is_tree) in
    let base : IsBase s' w.base = record { begins = begins_itself log; image = subst (λ (t : Tree). IsImage s' (root t) t) (sym is_tree) (record { top = refl; reads = image.reads; rows = image.rows }); clone = subst (IsCloneOf log) (sym is_tree) clone; cause = why.cause } in
    let laid = (k.about_known id v at (ap is_live passing)).0 in let seen = k.history.seen id v at in let own = (k.history.mine id v at).0 (ap is_counted passing) in let more = seen.0 in
    let no_epochs : (u : View) → in_write u.stage ≡ 0 → KnowsEpoch k.m.epoch u → KnowsEpoch new u = λ (u : View) (z : in_write u.stage ≡ 0) (h : KnowsEpoch k.m.epoch u). (subst (AllAre new) (sym (h.1 z)) tt, h.1) in (
      w,
      keeps,
      tt,
      record {
        m = record k.m { epoch = new };
        g = k.g;
        memory = epoch_set k.memory new;
        about_known = each_stays views id v w at (KnowsAbout about) k.about_known (λ p. p);
        named = named_stays views id v w at about.passes k.named refl refl refl;
        history = record {
          legal = k.history.legal;
          seen = each_stays views id v w at (IsIn log) k.history.seen (λ p. (begins_itself log, p.1));
          longest = omega (arith, k.history.longest, whole_grows log v w refl (begins_length v.seen w.seen more) (begins_length w.seen log (begins_itself log)), total-set (whole log) views id v w at);
          mine = each_stays views id v w at (IsTrueOf log) k.history.mine (λ p. ((λ e. let t = p.0 e in (t.0, refl {a = calls_of log v.who})), p.1, p.1));
          others = λ i z. k.history.others i (omega (arith, z, total-set (names i) views id v w at));
        };
        counted = record { all = omega (arith, k.counted.all, total-set (λ u. owes_count u.stage) views id v w at); few = omega (arith, k.counted.few, total-set (λ u. has_counted u.stage) views id v w at) };
        drawn = drawn_stays views id v w at k.m.next k.m.next k.drawn (omega arith) refl refl;
        notes = each_set views id w k.notes (header_later k.m.next k.m.next k.m.epoch new (omega arith) (omega arith)) (let h = header_later k.m.next k.m.next k.m.epoch new (omega arith) (omega arith) v (k.notes id v at) in record { notes_are = h.notes_are; handed_is = h.handed_is; epochs_are = h.epochs_are; drawn_is = omega arith });
        gated = gated_moves views id v w at k.m.gate k.m.left k.m.gate k.m.left g (omega arith) (omega (arith, g.one)) (λ some. omega (arith, none, total-set (λ u. in_write u.stage) views id v w at))
            (each_stays views id v w at (λ u. KnowsGate k.m.gate u.stage) g.at (λ p. subst (KnowsGate k.m.gate) (sym stage) (subst (KnowsGate k.m.gate) closing p)));
        used = used_moves views id v w at k.m.gate k.m.epoch k.m.gate new k.used refl refl refl (omega arith) (k.used.few id v at).0;
        locked = locked_stays views id v w at k.m.rows k.locked refl refl (λ x. omega (arith, free id v at x));
        known = each_stays views id v w at (KnowsRows k.m.rows) k.known (λ p. p);
        table = ok;
        writers = omega (arith, k.writers, total-set (λ u. in_write u.stage) views id v w at);
        changes = λ n e z. k.changes n e (omega (arith, z, total-set (λ u. changing n e u.doing) views id v w at));
        doing = each_stays views id v w at (λ u. DoingOk s' u.doing) (doings_stay st s' views k.doing (λ j u there n x. absurd (omega (arith, k.held j u there n x, free j u there n)))) (λ p. p);
        held = each_stays views id v w at HoldsIts k.held (λ p. p);
        present = each_others views id v at w (λ j u ne there. no_epochs u (idle j u there) (k.present j u there)) (no_epochs w a' ((k.present id v at).0, (λ _. (k.present id v at).1 a)));
        reached = each_stays views id v w at (λ u. AllLinked k.g.linked u.trail.reached) k.reached (λ p. p);
        ways = each_set {P = IsOnWay s'} {Q = IsOnWay s'} views id w (ways_evolve st s' views ev k.history.seen k.ways) (λ u p. p) tt;
        places = each_stays views id v w at (KnowsPlace s') (places_evolve st s' views ev k.places) (λ p. p);
        worn = each_stays views id v w at (KnowsWorn s') (worns_evolve st s' views ev k.worn) (λ p. p);
        lasting = each_stays views id v w at (λ u. AreLasting s' u.words.lasting) (lastings_evolve st s' views ev k.lasting) (λ p. p);
        based = each_others views id v at w (λ j u ne there. bases_evolve about s.words views k s' ev (λ _. refl) j u there) (base, λ _. (ap is_quiet stage, top, refl));
        tries = each_stays views id v w at (KnowsTry s') (tries_evolve st s' views ev k.tries) (λ p. p);
        heights = each_stays views id v w at (λ u. AreHeights s' u.holds u.heights) (λ j u there. no_heights st s' u.holds u.heights (free j u there) (k.heights j u there)) (λ p. p);
        debts = each_stays views id v w at (KnowsDebt s') (debts_known st s' views k.table ev k.doing (λ j u there n c. refl) k.debts) (λ p. (p.0, λ z. p.1 a));
        owing = owed_after views id v w at st s' k.m.next k.m.next about.rows ev (omega arith) (λ room ok. owed_itself views id v at s' (subst (λ (z : Table). DebtOk z (debts_of views)) path (cut_owes st (debts_of views) ok (debts_none st views (λ j u there. (k.debts j u there).1 (idle j u there)))))) k.owing;
        marked = marks_stay views id v w k.m.rows k.m.rows at k.marked (λ n. refl) refl;
        cut = omega (arith, k.cut, up, total-set all_cuts views id v w at, length-append v.cuts (length log ∷ []));
        acting = each_stays views id v w at ActsAsPass k.acting (λ _ z. absurd (omega (arith, z, ap is_counted passing)));
        apart = apart_stays views id v w at k.m.next k.m.next k.m.rows k.g.linked k.apart (omega arith) (λ p. p) (λ p. p);
      },
      (log, k.g.tree, k.m.next, why.balance, record { goes_on = more; legal = k.history.legal; own = sym own.0 }, clone, placed_rows k.g.linked v.rows s' k.g.tree image.reads image.rows (λ y is_in. let room = k.memory.room in omega (arith, (k.apart.low y (in_times y k.g.linked is_in)).1, (k.about_known id v at (ap is_live passing)).0)), record { caused = subst (λ (n : ℕ). IsCaused n k.m.next k.g.tree why.balance) (sym laid) why.caused; few = few_stand st k.m.next k.table (λ y is_in. (low_row y is_in).1); low = omega (arith, laid, k.memory.room) }, refl, λ all. knows_cuts about s.words views k id v at passing all),
    )
