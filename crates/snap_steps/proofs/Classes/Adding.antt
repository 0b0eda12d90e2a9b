-- A seat more: a note, or a pass that is handed out; and the table at its start.
use Rattle.snap_steps.specs.Rule.Places.{KnowsPlace}
use Rattle.snap_rule.specs.State.{State as Table}
use Rattle.snap_steps.specs.Rule.Debts.{KnowsDebt, debts_of}
use Rattle.snap_steps.specs.Rule.Heights.{AreHeights}
use Rattle.snap_rule.specs.Debt.{DebtOk, no_debt}
use Rattle.snap_steps.proofs.Parts.Debts.{debts_same, debts_more}
use Rattle.snap_rule.proofs.Debts.Turning.{opens_owes}
use Rattle.std.proofs.Common.{◌≡◌, ℕ, ◌+◌, List, [], ◌∷◌, ◌++◌, refl, arith, zero, suc, ◌*◌, replicate, ap, ◌∙◌, ◌≤◌, sym, subst, ◌<◌, ◌≢◌, length, set, ⊎_elim, false, true, Bool}
use Rattle.std.proofs.lemmas.List.{length-replicate}
use lib.ListN.{get_elem?}
use mathlib.Core.Logic.{dite}
use mathlib.Core.Option.{some}
use native.Mathlib.Decide.{ℕ_discrete}
use Rattle.atomic_table.proofs.Lists.{at_set, at_snoc}
use Rattle.atomic_table.specs.Table.{Splits}
use Rattle.snap_model.specs.History.{calls_of, Begins}
use Rattle.snap_model.specs.declared.call.Entry.{Entry}
use Rattle.snap_rule.proofs.Opened.{opens}
use Rattle.snap_rule.specs.Doing.{DoingOk}
use Rattle.snap_rule.specs.Rule.{TableOk, opened}
use Rattle.snap_rule.specs.State.{Beside}
use Rattle.snap_rule.specs.State.Change.{plain}
use Rattle.snap_rule.specs.Tree.Tree.{empty}
use Rattle.snap_stamp.specs.declared.layout.Field.{Field}
use Rattle.snap_stamp.specs.declared.layout.Field.TheVariants.{Key, Birth, Stamp, Lock, Height, Left, Right, Value}
use Rattle.snap_steps.specs.Counting.{times, total, one_if}
use Rattle.snap_steps.specs.Rule.Changes.{changing, HoldsIts}
use Rattle.snap_steps.specs.Steps.Seats.{note_of, issued, next_pass}
use Rattle.snap_steps.specs.Numbers.{all_uses, numbers_of, numbers, all_cuts, all_drawn, times_drawn}
use Rattle.snap_steps.specs.Stages.{in_write, is_closing, is_quiet, may_cut, owes_count, has_counted}
use Rattle.snap_steps.specs.Roles.{silent, no_base, is_live, is_opening, opener, own_number, is_counted}
use Rattle.snap_steps.specs.Rule.Names.{names, ActsAsPass}
use Rattle.snap_steps.specs.Rule.History.{whole, IsIn, IsTrueOf}
use Rattle.snap_steps.specs.Rule.{Kept}
use Rattle.snap_steps.specs.declared.view.View.{View}
use Rattle.snap_steps.specs.declared.view.Role.TheVariants.{Opening, Noting, Passing}
use Rattle.snap_steps.specs.declared.rule.About.{About}
use Rattle.snap_steps.proofs.EachView.{each_more, total_more, each_one, each_split}
use Rattle.snap_steps.specs.Memory.{empty_row, words_of_rows, row, field, Row, Memory}
use Rattle.snap_steps.specs.States.{state_of, state_with}
use Rattle.snap_steps.specs.Rule.Apart.{OwnsUnlinked, KnowsOwn}
use Rattle.snap_steps.specs.Rule.Notes.{KnowsHeader}
use Rattle.snap_steps.specs.Rule.Gate.{KnowsGate}
use Rattle.snap_steps.specs.Rule.Uses.{HasFewUses}
use Rattle.snap_steps.specs.Rule.Locks.{OwnsLocks, KnowsRows, is_taken}
use Rattle.snap_steps.specs.Rule.Ways.{AllLinked, IsOnWay}
use Rattle.snap_steps.specs.Rule.Epochs.{KnowsEpoch}
use Rattle.snap_steps.specs.Rule.Words.{KnowsAbout}
use Rattle.snap_steps.specs.declared.view.Stage.TheVariants.{Idle}
use Rattle.snap_steps.proofs.Totals.{total-set, terms_le, one_same, one_other}
use Rattle.snap_steps.proofs.Classes.Turning.{Rule}
use Rattle.snap_steps.proofs.Parts.Bases.{no_base_is}
use Rattle.snap_steps.specs.Rule.Bases.{IsBase, KnowsBase}
use Rattle.snap_steps.specs.Steps.Clones.{seat_of}
use Rattle.snap_steps.specs.declared.view.Base.{Base}
use Rattle.snap_steps.specs.Rule.Worn.{IsWorn, KnowsWorn}
use Rattle.snap_steps.specs.Rule.Tries.{KnowsTry}
use Rattle.snap_steps.specs.Rule.Marks.{lowers}
use Rattle.snap_stamp.specs.Stamps.{IsShrinking}
use Rattle.snap_steps.specs.Rule.Lasting.{AreLasting}

-- one seat more, which counts nowhere
pub silent_more : (about : About) (words : List ℕ) (views : List View) (k : Kept about words views) (rows passes : ℕ) (seen : List Entry) (handed epochs : ℕ) (noted_worn : Bool) (base : Base) (outworn : List ℕ)
    → (rows ≡ about.rows) × (passes ≡ about.passes) → Begins seen k.g.history → handed ≤ k.m.next → epochs ≤ k.m.epoch → (noted_worn ≡ true → IsWorn (state_of k.m k.g)) → IsBase (state_of k.m k.g) base → base.drawn ≤ k.m.next
    → Kept about words (views ++ silent rows passes seen handed epochs noted_worn base outworn ∷ [])
silent_more about words views k rows passes seen handed epochs noted_worn base outworn laid begins low_next low_epoch is_worn is_base low_drawn = let u : View = silent rows passes seen handed epochs noted_worn base outworn in record {
  m = k.m;
  g = k.g;
  memory = k.memory;
  about_known = each_more views u k.about_known (λ x p. p) (λ _. laid);
  named = record {
    once = λ i. omega (arith, total_more (names i) views u, k.named.once i);
    below = λ i l. omega (arith, total_more (names i) views u, k.named.below i l);
    one_opener = omega (arith, k.named.one_opener, total_more (λ x. is_opening x.role) views u);
    unissued = each_more views u k.named.unissued (λ x p hands i l. omega (arith, total_more (names i) views u, p hands i l)) (λ (hands : Noting ≡ Opening). cc);
  };
  history = record {
    legal = k.history.legal;
    seen = each_more views u k.history.seen (λ x p. p) (begins, tt);
    longest = omega (arith, total_more (whole k.g.history) views u, k.history.longest);
    mine = each_more views u k.history.mine (λ x p. p) ((λ e. absurd (omega arith)), tt, tt);
    others = λ i none. k.history.others i (omega (arith, total_more (names i) views u, none));
  };
  counted = record { all = omega (arith, k.counted.all, total_more (λ x. owes_count x.stage) views u); few = omega (arith, k.counted.few, total_more (λ x. has_counted x.stage) views u) };
  drawn = record {
    once = λ r above low. omega (arith, total_more (times_drawn r) views u, k.drawn.once r above low);
    none_later = λ r l. omega (arith, total_more (times_drawn r) views u, k.drawn.none_later r l);
    none_zero = omega (arith, total_more (times_drawn 0) views u, k.drawn.none_zero);
    all = omega (arith, total_more all_drawn views u, k.drawn.all);
  };
  notes = each_more views u k.notes (λ x p. p) record { notes_are = tt; handed_is = low_next; epochs_are = low_epoch; drawn_is = low_drawn };
  gated = record {
    half = omega (arith, k.gated.half, total_more (λ x. in_write x.stage) views u, total_more (λ x. is_closing x.stage) views u);
    one = omega (arith, k.gated.one, total_more (λ x. is_closing x.stage) views u);
    at = each_more views u k.gated.at (λ x p. p) tt;
    quiet = λ some. omega (arith, total_more (λ x. in_write x.stage) views u, k.gated.quiet (omega (arith, total_more (λ x. is_quiet x.stage) views u)));
  };
  used = record {
    enough = omega (arith, k.used.enough, total_more (λ x. may_cut x.stage) views u, total_more all_uses views u);
    few = each_more views u k.used.few (λ x p. p) (omega arith, tt);
  };
  table = k.table;
  writers = omega (arith, k.writers, total_more (λ x. in_write x.stage) views u);
  changes = λ n d none. k.changes n d (omega (arith, none, total_more (λ x. changing n d x.doing) views u));
  doing = each_more views u k.doing (λ x p. p) tt;
  held = each_more views u k.held (λ x p. p) (λ n c. absurd c);
  present = each_more views u k.present (λ x p. p) (tt, λ _. refl);
  locked = record {
    count = λ r. omega (arith, total_more (λ x. times r x.holds) views u, k.locked.count r);
    owner = each_more views u k.locked.owner (λ x p. p) (λ r l. absurd (omega arith));
    writing = each_more views u k.locked.writing (λ x p. p) (λ r. omega arith);
  };
  known = each_more views u k.known (λ x p. p) tt;
  reached = each_more views u k.reached (λ x p. p) tt;
  ways = each_more views u k.ways (λ x p. p) tt;
  places = each_more views u k.places (λ x p. p) tt;
  worn = each_more views u k.worn (λ x p. p) is_worn;
  lasting = each_more views u k.lasting (λ x p. p) tt;
  based = each_more views u k.based (λ x p. p) (is_base, λ z. absurd (omega (arith, z)));
  tries = each_more views u k.tries (λ x p. p) tt;
  heights = each_more views u k.heights (λ x p. p) tt;
  debts = each_more views u k.debts (λ x p. p) (refl, λ _. refl);
  owing = λ room. subst (DebtOk (state_of k.m k.g)) (λ i j. sym (debts_more views u refl j) i) (k.owing room);
  marked = λ n none. k.marked n (omega (arith, none, total_more (λ x. lowers n x.doing) views u));
  cut = omega (arith, k.cut, total_more all_cuts views u);
  acting = each_more views u k.acting (λ x p. p) (λ _. (refl, refl, refl));
  apart = record { low = k.apart.low; own = each_more views u k.apart.own (λ x p. p) (λ r l. absurd (omega arith)); fresh = k.apart.fresh; wrote = each_more views u k.apart.wrote (λ x p. p) tt };
}

-- a note is such a seat
pub noted_more : (about : About) (words : List ℕ) (views : List View) (k : Kept about words views) (id : ℕ) (v : View) → get_elem? views id ≡ some v → is_live v.role ≡ 1 → Kept about words (views ++ note_of v ∷ [])
noted_more about words views k id v at live = let h = k.notes id v at in
    silent_more about words views k v.rows v.passes v.seen v.noted.handed v.noted.epochs v.noted.worn no_base [] (k.about_known id v at live) (k.history.seen id v at).0 h.handed_is h.epochs_are (k.worn id v at) (no_base_is (state_of k.m k.g)) (omega arith)

-- and so is the seat of a clone
pub clone_more : (about : About) (words : List ℕ) (views : List View) (k : Kept about words views) (id : ℕ) (v : View) → get_elem? views id ≡ some v → is_live v.role ≡ 1 → Kept about words (views ++ seat_of v ∷ [])
clone_more about words views k id v at live = let h = k.notes id v at in let b = (k.based id v at).0 in
    silent_more about words views k v.rows v.passes v.base.history v.noted.handed v.noted.epochs v.noted.worn v.base v.outworn (k.about_known id v at live) b.begins h.handed_is h.epochs_are (k.worn id v at) b h.drawn_is

empty_rows : (n : ℕ) → replicate (8 * n) 0 ≡ words_of_rows (replicate n empty_row)
empty_rows zero = refl
empty_rows (suc n) =
    let e : 8 * suc n ≡ suc (suc (suc (suc (suc (suc (suc (suc (8 * n)))))))) = omega arith in
    ap (λ (m : ℕ). replicate m 0) e ∙ ap (λ (l : List ℕ). 0 ∷ 0 ∷ 0 ∷ 0 ∷ 0 ∷ 0 ∷ 0 ∷ 0 ∷ l) (empty_rows n)

row_empty : (n r : ℕ) → row (replicate n empty_row) r ≡ empty_row
row_empty zero r = refl
row_empty (suc n) zero = refl
row_empty (suc n) (suc r) = row_empty n r

no_word : (f : Field) → field f empty_row ≡ 0
no_word Key = refl
no_word Birth = refl
no_word Stamp = refl
no_word Lock = refl
no_word Height = refl
no_word Left = refl
no_word Right = refl
no_word Value = refl

pub starts : (about : About) (words : List ℕ) → about.rows ≤ 1048576 → about.passes ≤ 64 → words ≡ replicate (8 + 8 * (about.rows + 1)) 0 → Kept about words (opener about.rows about.passes 0 ∷ [])
starts about words few_rows few_passes zeros =
    let v : View = opener about.rows about.passes 0 in
    let m : Memory = record { next = 0; gate = 0; left = 0; done = 0; epoch = 0; rows = replicate (about.rows + 1) empty_row } in
    let g : Beside = record { history = []; tree = empty; linked = []; replaced = []; links = λ n d. 0; pending = λ n d. plain; writers = 0 } in
    let state_is : state_of m g ≡ opened = λ i. state_with (λ f n. zero_word f n i) m g in
    let e : 8 + 8 * (about.rows + 1) ≡ suc (suc (suc (suc (suc (suc (suc (suc (8 * (about.rows + 1))))))))) = omega arith in
    record {
      m = m;
      g = g;
      memory = record {
        words_are = zeros ∙ ap (λ (n : ℕ). replicate n 0) e ∙ ap (λ (l : List ℕ). 0 ∷ 0 ∷ 0 ∷ 0 ∷ 0 ∷ 0 ∷ 0 ∷ 0 ∷ l) (empty_rows (about.rows + 1));
        wide = length-replicate (about.rows + 1) empty_row;
        few_rows = few_rows;
        few_passes = few_passes;
        room = omega arith;
      };
      about_known = each_one (KnowsAbout about) v (λ _. (refl, refl));
      named = record { once = λ i. omega arith; below = λ i l. refl; one_opener = omega arith; unissued = each_one (λ u. u.role ≡ Opening → (i : ℕ) → u.who ≤ i → total (names i) (v ∷ []) ≡ 0) v (λ hands i l. refl) };
      history = record { legal = tt; seen = each_one (IsIn []) v (record { rest = []; is = refl }, tt); longest = omega arith; mine = each_one (IsTrueOf []) v ((λ e. absurd (omega arith)), tt, tt); others = λ i none. refl };
      counted = record { all = refl; few = omega arith };
      drawn = record { once = λ r above low. absurd (omega arith); none_later = λ r l. refl; none_zero = refl; all = refl };
      notes = each_one (KnowsHeader 0 0) v record { notes_are = tt; handed_is = omega arith; epochs_are = omega arith; drawn_is = omega arith };
      gated = record { half = refl; one = omega arith; at = each_one (λ u. KnowsGate 0 u.stage) v tt; quiet = λ some. refl };
      used = record { enough = omega arith; few = each_one HasFewUses v (omega arith, tt) };
      table = subst TableOk (sym state_is) opens.0;
      writers = refl;
      changes = λ n d none. refl;
      doing = each_one (λ u. DoingOk (state_of m g) u.doing) v tt;
      held = each_one HoldsIts v (λ n c. absurd c);
      present = each_one (KnowsEpoch 0) v (tt, λ _. refl);
      locked = record { count = λ r. sym (ap (λ (x : Row). is_taken x.lock) (row_empty (about.rows + 1) r)); owner = each_one (OwnsLocks m.rows) v (λ r l. absurd (omega arith)); writing = each_one (λ u. (r : ℕ) → times r u.holds ≤ in_write u.stage) v (λ r. omega arith) };
      known = each_one (KnowsRows m.rows) v tt;
      reached = each_one (λ u. AllLinked [] u.trail.reached) v tt;
      ways = each_one (IsOnWay (state_of m g)) v tt;
      places = each_one (KnowsPlace (state_of m g)) v tt;
      worn = each_one (KnowsWorn (state_of m g)) v (λ (e : false ≡ true). cc);
      lasting = each_one (λ u. AreLasting (state_of m g) u.words.lasting) v tt;
      based = each_one (KnowsBase (state_of m g)) v (no_base_is (state_of m g), λ z. absurd (omega (arith, z)));
      tries = each_one (KnowsTry (state_of m g)) v tt;
      heights = each_one (λ u. AreHeights (state_of m g) u.holds u.heights) v tt;
      debts = each_one (KnowsDebt (state_of m g)) v (refl, λ _. refl);
      owing = λ room. subst (λ (z : Table). DebtOk z (debts_of (v ∷ []))) (sym state_is) (subst (DebtOk opened) (λ i j. sym (none_at j) i) opens_owes);
      marked = λ n none z. let zero_stamp : IsShrinking 0 = subst (λ (x : Row). IsShrinking x.stamp) (row_empty (about.rows + 1) n) z in omega (arith, zero_stamp);
      cut = refl;
      acting = each_one ActsAsPass v (λ _. (refl, refl, refl));
      apart = record { low = λ r l. absurd (omega arith); own = each_one (OwnsUnlinked []) v (λ r l. absurd (omega arith)); fresh = λ r l z. (ap (λ (x : Row). x.lock) (row_empty (about.rows + 1) r), ap (λ (x : Row). x.stamp) (row_empty (about.rows + 1) r)); wrote = each_one (KnowsOwn m.rows) v tt };
    }
  where
    none_at : (j : ℕ) → debts_of (opener about.rows about.passes 0 ∷ []) j ≡ no_debt
    none_at zero = refl
    none_at (suc j) = refl

    zero_word : (f : Field) (n : ℕ) → field f (row (replicate (about.rows + 1) empty_row) n) ≡ 0
    zero_word f n = ap (field f) (row_empty (about.rows + 1) n) ∙ no_word f

-- one pass more is handed out
pub issues : (about : About) (id : ℕ) (v : View) → v.role ≡ Opening → v.stage ≡ Idle → v.who < about.passes → Splits (Rule about) id v (issued v) (next_pass v)
issues about id v hands idle room s k at =
    let free : (r : ℕ) → times r v.holds ≡ 0 = λ r. omega (arith, k.locked.writing id v at r, ap in_write idle) in
    let w : View = issued v in let u : View = next_pass v in let views : List View = set s.views id w in
    let knows = k.about_known id v at (ap is_live hands) in
    let own : numbers w ≡ numbers v = ap (λ r. own_number r (v.who + 1) ++ numbers_of v.admitted) hands ∙ sym (ap (λ r. own_number r v.who ++ numbers_of v.admitted) hands) in
    let all : (g : View → ℕ) → total g (views ++ u ∷ []) + g v ≡ total g s.views + g w + g u = λ g. omega (arith, total_more g views u, total-set g s.views id v w at) in
    let unused : (i : ℕ) → v.who ≤ i → total (names i) s.views ≡ 0 = k.named.unissued id v at hands in
    let named : (i : ℕ) → total (names i) (views ++ u ∷ []) ≡ total (names i) s.views + one_if i v.who = λ i. omega (arith, all (names i), ap (times i) own) in
    record {
      m = k.m;
      g = k.g;
      memory = k.memory;
      about_known = each_split s.views id w u k.about_known (λ x p. p) (λ _. knows) (λ _. knows);
      named = record {
        once = λ i. dite (ℕ_discrete i v.who) (λ e. omega (arith, named i, one_same i v.who e, unused i (omega arith))) (λ n. omega (arith, named i, one_other i v.who n, k.named.once i));
        below = λ i l. omega (arith, named i, one_other i v.who (λ e. omega arith), k.named.below i l);
        one_opener = omega (arith, all (λ x. is_opening x.role), k.named.one_opener);
        unissued = λ j x there hers i l. ⊎_elim
            (λ (t : get_elem? views j ≡ some x). ⊎_elim
            (λ (q : (j ≡ id) × (w ≡ x)). let next : v.who + 1 ≡ x.who = ap (λ (y : View). y.who) q.1 in omega (arith, named i, one_other i v.who (λ e. omega arith), unused i (omega arith)))
            (λ (q : (j ≢ id) × (get_elem? s.views j ≡ some x)). absurd (omega (arith, k.named.one_opener, terms_le (λ y. is_opening y.role) s.views id j v x q.0 at q.1, ap is_opening hands, ap is_opening hers)))
            (at_set s.views id j w x t))
            (λ (t : u ≡ x). let e : Passing ≡ Opening = ap (λ (y : View). y.role) t ∙ hers in absurd (cc))
            (at_snoc views u x j there);
      };
      history = record {
        legal = k.history.legal;
        seen = each_split s.views id w u k.history.seen (λ x p. p) (k.history.seen id v at) (record { rest = k.g.history; is = refl }, tt);
        longest = omega (arith, all (whole k.g.history), k.history.longest);
        mine = each_split s.views id w u k.history.mine (λ x p. p) ((λ e. absurd (omega (arith, ap is_counted hands))), (k.history.mine id v at).1, (k.history.mine id v at).2) ((λ e. let none_yet : calls_of k.g.history v.who ≡ [] = k.history.others v.who (unused v.who (omega arith)) in (sym none_yet, sym none_yet)), tt, tt);
        others = λ i none. k.history.others i (omega (arith, named i, none));
      };
      counted = record { all = omega (arith, k.counted.all, all (λ x. owes_count x.stage)); few = omega (arith, k.counted.few, all (λ x. has_counted x.stage)) };
      drawn = record {
        once = λ r above low. omega (arith, all (times_drawn r), k.drawn.once r above low);
        none_later = λ r l. omega (arith, all (times_drawn r), k.drawn.none_later r l);
        none_zero = omega (arith, all (times_drawn 0), k.drawn.none_zero);
        all = omega (arith, all all_drawn, k.drawn.all);
      };
      notes = each_split s.views id w u k.notes (λ x p. p) (k.notes id v at) record { notes_are = tt; handed_is = omega arith; epochs_are = omega arith; drawn_is = omega arith };
      gated = record {
        half = omega (arith, k.gated.half, all (λ x. in_write x.stage), all (λ x. is_closing x.stage));
        one = omega (arith, k.gated.one, all (λ x. is_closing x.stage));
        at = each_split s.views id w u k.gated.at (λ x p. p) (k.gated.at id v at) tt;
        quiet = λ some. omega (arith, all (λ x. in_write x.stage), k.gated.quiet (omega (arith, all (λ x. is_quiet x.stage))));
      };
      used = record {
        enough = omega (arith, k.used.enough, all (λ x. may_cut x.stage), all all_uses);
        few = each_split s.views id w u k.used.few (λ x p. p) (omega (arith, (k.used.few id v at).0, ap (λ r. length (own_number r v.who)) hands, ap (λ r. length (own_number r (v.who + 1))) hands), (k.used.few id v at).1) (omega arith, tt);
      };
      table = k.table;
      writers = omega (arith, k.writers, all (λ x. in_write x.stage));
      changes = λ n d none. k.changes n d (omega (arith, none, all (λ x. changing n d x.doing)));
      doing = each_split s.views id w u k.doing (λ x p. p) (k.doing id v at) tt;
      held = each_split s.views id w u k.held (λ x p. p) (k.held id v at) (λ n c. absurd c);
      present = each_split s.views id w u k.present (λ x p. p) (k.present id v at) (tt, λ _. refl);
      locked = record {
        count = λ r. omega (arith, all (λ x. times r x.holds), k.locked.count r);
        owner = each_split s.views id w u k.locked.owner (λ x p. p) (λ r l. absurd (omega (arith, free r))) (λ r l. absurd (omega arith));
        writing = each_split s.views id w u k.locked.writing (λ x p. p) (k.locked.writing id v at) (λ r. omega arith);
      };
      known = each_split s.views id w u k.known (λ x p. p) (k.known id v at) tt;
      reached = each_split s.views id w u k.reached (λ x p. p) (k.reached id v at) tt;
      ways = each_split s.views id w u k.ways (λ x p. p) (k.ways id v at) tt;
      places = each_split s.views id w u k.places (λ x p. p) (k.places id v at) tt;
      worn = each_split s.views id w u k.worn (λ x p. p) (k.worn id v at) (λ (e : false ≡ true). cc);
      lasting = each_split s.views id w u k.lasting (λ x p. p) (k.lasting id v at) tt;
      based = each_split s.views id w u k.based (λ x p. p) (k.based id v at) (no_base_is (state_of k.m k.g), λ z. absurd (omega (arith, z)));
      tries = each_split s.views id w u k.tries (λ x p. p) (k.tries id v at) tt;
      heights = each_split s.views id w u k.heights (λ x p. p) (k.heights id v at) tt;
      debts = each_split s.views id w u k.debts (λ x p. p) (k.debts id v at) (refl, λ _. refl);
      owing = λ room. subst (DebtOk (state_of k.m k.g)) (λ i j. sym (debts_more views u refl j ∙ debts_same s.views id v w at refl j) i) (k.owing room);
      marked = λ n none. k.marked n (omega (arith, none, all (λ x. lowers n x.doing)));
      cut = omega (arith, k.cut, all all_cuts);
      acting = each_split s.views id w u k.acting (λ x p. p) (k.acting id v at) (λ z. absurd (omega (arith, z)));
      apart = record { low = k.apart.low; own = each_split s.views id w u k.apart.own (λ x p. p) (k.apart.own id v at) (λ r l. absurd (omega arith)); fresh = k.apart.fresh; wrote = each_split s.views id w u k.apart.wrote (λ x p. p) (k.apart.wrote id v at) tt };
    }
