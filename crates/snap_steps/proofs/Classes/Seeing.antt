-- Steps that write no word, after which a pass knows or has seen more.
use Rattle.snap_steps.specs.Rule.Places.{KnowsPlace}
use Rattle.snap_steps.specs.Rule.Debts.{KnowsDebt, debts_of}
use Rattle.snap_steps.specs.Rule.Heights.{AreHeights}
use Rattle.snap_rule.specs.Debt.{DebtOk}
use Rattle.snap_rule.specs.Room.{HasRoom}
use Rattle.snap_rule.specs.Updates as updates
use Rattle.snap_steps.proofs.Parts.Debts.{owed_after, owed_itself}
use Rattle.snap_rule.proofs.Evolving.Silent.{same_evolves}
use Rattle.std.proofs.Common.{◌≡◌, ℕ, List, get_or, set, arith, refl}
use lib.ListN.{get_elem?}
use mathlib.Core.Option.{some}
use Rattle.snap_model.specs.History.{Begins}
use Rattle.snap_rule.specs.Doing.{DoingOk}
use Rattle.snap_steps.specs.Rule.Changes.{changing, HoldsIts}
use Rattle.snap_steps.specs.Stages.{in_write, owes_count, has_counted}
use Rattle.snap_steps.specs.Rule.Notes.{KnowsHeader}
use Rattle.snap_steps.specs.Rule.Names.{names, ActsAsPass}
use Rattle.snap_steps.specs.Rule.History.{AllBegin, IsIn, IsTrueOf, whole}
use Rattle.snap_steps.specs.Facts.{AreFacts}
use Rattle.snap_steps.specs.Rule.Locks.{KnowsRows}
use Rattle.snap_steps.specs.Rule.Ways.{AllLinked, IsOnWay}
use Rattle.snap_steps.specs.Rule.Epochs.{KnowsEpoch}
use Rattle.snap_steps.specs.Rule.{Kept}
use Rattle.snap_steps.specs.Rule.Words.{KnowsAbout}
use Rattle.snap_steps.specs.States.{state_of}
use Rattle.snap_steps.specs.declared.view.View.{View}
use Rattle.snap_steps.specs.declared.rule.About.{About}
use Rattle.snap_steps.proofs.Totals.{total-set}
use Rattle.snap_steps.proofs.Prefixes.{begins_length}
use Rattle.snap_steps.proofs.Histories.{of_between, theirs_between}
use Rattle.snap_steps.proofs.Memories.{loaded}
use Rattle.snap_steps.proofs.Parts.Apart.{apart_stays}
use Rattle.snap_steps.proofs.EachView.{each_stays}
use Rattle.snap_steps.proofs.Parts.Drawn.{drawn_stays}
use Rattle.snap_steps.proofs.Parts.Names.{named_stays}
use Rattle.snap_steps.proofs.Parts.Gate.{gated_stays}
use Rattle.snap_steps.proofs.Parts.Locks.{locked_stays}
use Rattle.snap_steps.proofs.Parts.Uses.{used_stays, cut_stays}
use Rattle.snap_steps.proofs.Parts.History.{whole_grows}
use Rattle.snap_steps.specs.Rule.Bases.{KnowsBase}
use Rattle.snap_steps.specs.Rule.Worn.{KnowsWorn}
use Rattle.snap_steps.specs.Rule.Tries.{KnowsTry}
use Rattle.snap_steps.proofs.Parts.Marks.{marks_stay}
use Rattle.snap_steps.specs.Rule.Lasting.{AreLasting}

-- the view v, in what such a step may change, as w is
abbrev pub with_sight : View → View → View
with_sight v w = record v { trail = w.trail; seen = w.seen; joined = w.joined; noted = w.noted; words = w.words; way = w.way; outworn = w.outworn }

-- and, of its call that never waits, of heights and of its debt, as w is
abbrev pub with_try : View → View → View
with_try v w = record (with_sight v w) { tries = w.tries; heights = w.heights; debt = w.debt }

-- a step that writes no word, after which the pass has seen or knows more, and has gone on with such a call
pub trying : (about : About) (words : List ℕ) (views : List View) (k : Kept about words views) (i id : ℕ) (v w : View) (at : get_elem? views id ≡ some v)
    → AreFacts k.m.rows v.holds w.words.knows → AllLinked k.g.linked w.trail.reached → IsOnWay (state_of k.m k.g) w → KnowsPlace (state_of k.m k.g) w → KnowsEpoch k.m.epoch (with_try v w) → KnowsHeader k.m.next k.m.epoch (with_try v w) → KnowsWorn (state_of k.m k.g) w → AreLasting (state_of k.m k.g) w.words.lasting → KnowsTry (state_of k.m k.g) w
    → AreHeights (state_of k.m k.g) v.holds w.heights → KnowsDebt (state_of k.m k.g) (with_try v w) → (HasRoom (state_of k.m k.g) k.m.next about.rows → DebtOk (state_of k.m k.g) (debts_of views) → DebtOk (state_of k.m k.g) (updates.changed (debts_of views) id w.debt))
    → Begins v.seen w.seen → Begins w.seen k.g.history → AllBegin w.joined k.g.history → Kept about (set words i (get_or words i 0)) (set views id (with_try v w))
trying about words views k i id v w at knows_rows reached way place present notes worn lasting tries heights debt owed more less joined =
    let u : View = with_try v w in record {
      m = k.m;
      g = k.g;
      memory = loaded k.memory i;
      about_known = each_stays views id v u at (KnowsAbout about) k.about_known (λ p. p);
      named = named_stays views id v u at about.passes k.named refl refl refl;
      history = record {
        legal = k.history.legal;
        seen = each_stays views id v u at (IsIn k.g.history) k.history.seen (λ p. (less, joined));
        longest = omega (arith, k.history.longest, whole_grows k.g.history v u refl (begins_length v.seen w.seen more) (begins_length w.seen k.g.history less), total-set (whole k.g.history) views id v u at);
        mine = each_stays views id v u at (IsTrueOf k.g.history) k.history.mine (λ p. (
          (λ e. let q = p.0 e in (q.0, of_between v.seen w.seen k.g.history v.who more less q.1)),
          p.1,
          theirs_between v.seen w.seen k.g.history v.admitted more less p.1 p.2,
        ));
        others = λ i none. k.history.others i (omega (arith, none, total-set (names i) views id v u at));
      };
      counted = record { all = omega (arith, k.counted.all, total-set (λ x. owes_count x.stage) views id v u at); few = omega (arith, k.counted.few, total-set (λ x. has_counted x.stage) views id v u at) };
      drawn = drawn_stays views id v u at k.m.next k.m.next k.drawn (omega arith) refl refl;
      notes = each_stays views id v u at (KnowsHeader k.m.next k.m.epoch) k.notes (λ _. notes);
      gated = gated_stays views id v u at k.m.gate k.m.left k.gated refl;
      used = used_stays views id v u at k.m.gate k.m.epoch k.used refl refl refl refl refl;
      cut = cut_stays views id v u at k.m.epoch k.cut refl refl;
      acting = each_stays views id v u at ActsAsPass k.acting (λ p. p);
      table = k.table;
      writers = omega (arith, k.writers, total-set (λ x. in_write x.stage) views id v u at);
      changes = λ n d none. k.changes n d (omega (arith, none, total-set (λ x. changing n d x.doing) views id v u at));
      doing = each_stays views id v u at (λ x. DoingOk (state_of k.m k.g) x.doing) k.doing (λ p. p);
      held = each_stays views id v u at HoldsIts k.held (λ p. p);
      present = each_stays views id v u at (KnowsEpoch k.m.epoch) k.present (λ _. present);
      locked = locked_stays views id v u at k.m.rows k.locked refl refl (k.locked.writing id v at);
      known = each_stays views id v u at (KnowsRows k.m.rows) k.known (λ _. knows_rows);
      reached = each_stays views id v u at (λ x. AllLinked k.g.linked x.trail.reached) k.reached (λ _. reached);
      ways = each_stays views id v u at (IsOnWay (state_of k.m k.g)) k.ways (λ _. way);
      places = each_stays views id v u at (KnowsPlace (state_of k.m k.g)) k.places (λ _. place);
      worn = each_stays views id v u at (KnowsWorn (state_of k.m k.g)) k.worn (λ _. worn);
      lasting = each_stays views id v u at (λ x. AreLasting (state_of k.m k.g) x.words.lasting) k.lasting (λ _. lasting);
      based = each_stays views id v u at (KnowsBase (state_of k.m k.g)) k.based (λ p. p);
      tries = each_stays views id v u at (KnowsTry (state_of k.m k.g)) k.tries (λ _. tries);
      heights = each_stays views id v u at (λ x. AreHeights (state_of k.m k.g) x.holds x.heights) k.heights (λ _. heights);
      debts = each_stays views id v u at (KnowsDebt (state_of k.m k.g)) k.debts (λ _. debt);
      owing = owed_after views id v u at (state_of k.m k.g) (state_of k.m k.g) k.m.next k.m.next about.rows (same_evolves (state_of k.m k.g)) (omega arith) owed k.owing;
      marked = marks_stay views id v u k.m.rows k.m.rows at k.marked (λ n. refl) refl;
      apart = apart_stays views id v u at k.m.next k.m.next k.m.rows k.g.linked k.apart (omega arith) (λ p. p) (λ p. p);
    }

-- the same outside such a call
pub seeing : (about : About) (words : List ℕ) (views : List View) (k : Kept about words views) (i id : ℕ) (v w : View) (at : get_elem? views id ≡ some v)
    → AreFacts k.m.rows v.holds w.words.knows → AllLinked k.g.linked w.trail.reached → IsOnWay (state_of k.m k.g) w → KnowsPlace (state_of k.m k.g) w → KnowsEpoch k.m.epoch (with_sight v w) → KnowsHeader k.m.next k.m.epoch (with_sight v w) → KnowsWorn (state_of k.m k.g) w → AreLasting (state_of k.m k.g) w.words.lasting
    → Begins v.seen w.seen → Begins w.seen k.g.history → AllBegin w.joined k.g.history → Kept about (set words i (get_or words i 0)) (set views id (with_sight v w))
seeing about words views k i id v w at knows_rows reached way place present notes worn lasting more less joined =
    trying about words views k i id v (with_sight v w) at knows_rows reached way place present notes worn lasting (k.tries id v at) (k.heights id v at) (k.debts id v at) (λ _ ok. owed_itself views id v at (state_of k.m k.g) ok) more less joined
