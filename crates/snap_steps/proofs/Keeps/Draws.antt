-- A try to draw keeps the rule.
use Rattle.snap_steps.specs.Rule.Places.{KnowsPlace}
use Rattle.snap_steps.specs.Rule.Debts.{KnowsDebt}
use Rattle.snap_steps.specs.Rule.Heights.{AreHeights}
use Rattle.snap_rule.proofs.Evolving.Silent.{same_evolves}
use Rattle.snap_steps.proofs.Parts.Debts.{owed_after, owed_itself}
use Rattle.std.proofs.Common.{◌≡◌, ℕ, ◌+◌, ◌<◌, eqb, [], ◌∷◌, ◌++◌, get_or, set, sym, refl, ap, subst, arith}
use mathlib.Core.Logic.{dite}
use mathlib.Core.Option.{Option}
use native.Mathlib.Decide.{ℕ_discrete}
use prog.Atomic.{either}
use Rattle.atomic_table.proofs.Lists.{exchanged}
use Rattle.atomic_table.specs.Table.{step, Act, keeps, Valid, carried_after, stepped, Allows}
use Rattle.snap_rule.specs.Doing.{DoingOk}
use Rattle.snap_steps.specs.Counting.{times}
use Rattle.snap_steps.specs.Rule.Changes.{changing, HoldsIts}
use Rattle.snap_steps.specs.Steps.Header.{word_noted}
use Rattle.snap_steps.specs.Steps.Draws.{drew, drawing_tried}
use Rattle.snap_steps.specs.Stages.{in_write, owes_count, has_counted}
use Rattle.snap_steps.specs.Roles.{is_counted, is_live}
use Rattle.snap_steps.specs.Rule.Apart.{AreApart, OwnsUnlinked}
use Rattle.snap_steps.specs.Rule.Drawn.{AreDrawn}
use Rattle.snap_steps.specs.Rule.Locks.{KnowsRows}
use Rattle.snap_steps.specs.Rule.Ways.{AllLinked, IsOnWay}
use Rattle.snap_steps.specs.Rule.Epochs.{KnowsEpoch}
use Rattle.snap_steps.specs.Rule.Words.{KnowsAbout}
use Rattle.snap_steps.specs.States.{state_of}
use Rattle.snap_steps.specs.declared.view.View.{View}
use Rattle.snap_steps.specs.declared.view.WordNote.TheVariants.{Next}
use Rattle.snap_steps.specs.declared.view.Role.TheVariants.{Passing}
use Rattle.snap_steps.specs.declared.rule.About.{About}
use Rattle.snap_steps.proofs.EachView.{each_set, each_stays}
use Rattle.snap_steps.proofs.Totals.{one_other, one_same, times-append, total-set}
use Rattle.snap_steps.proofs.Notes.{header_later}
use Rattle.snap_steps.proofs.Memories.{next_is, next_set}
use Rattle.snap_steps.proofs.Parts.Apart.{apart_stays}
use Rattle.snap_steps.proofs.Knowing.{facts_more}
use Rattle.snap_steps.proofs.Parts.Drawn.{drawn_more}
use Rattle.snap_steps.proofs.Parts.Names.{named_stays}
use Rattle.snap_steps.proofs.Parts.Gate.{gated_stays}
use Rattle.snap_steps.proofs.Parts.Locks.{locked_stays}
use Rattle.snap_steps.proofs.Parts.Uses.{used_stays, cut_stays}
use Rattle.snap_steps.proofs.Parts.History.{history_stays}
use Rattle.snap_steps.proofs.Classes.Turning.{Rule, noting}
use Rattle.snap_steps.specs.Steps.Told.{Sat}
use Rattle.snap_steps.specs.Rule.Bases.{KnowsBase}
use Rattle.snap_steps.specs.Rule.Worn.{KnowsWorn}
use Rattle.snap_steps.specs.Rule.Tries.{KnowsTry}
use Rattle.snap_steps.proofs.Parts.Marks.{marks_stay}
use Rattle.snap_steps.specs.Rule.Lasting.{AreLasting}
use Rattle.snap_steps.specs.Rule.Names.{ActsAsPass}

pub draws : (about : About) (slots id : ℕ) (me : Sat) (found : ℕ) (said : Option (Unit {0})) → found < about.rows → me.0.role ≡ Passing
    → Allows (Rule about) slots id me 0 (λ n. either (eqb n found) (found + 1) n) (drawing_tried (step slots 0 found (found + 1) said) me)
draws about slots id me found said room passing s k wide at small =
    let is = next_is k.memory in let top = k.memory.room in let a = (k.about_known id me.0 at (ap is_live passing)).0 in let r : ℕ = get_or s.words 0 0 in
    let G : ℕ → Type 0 = λ x. (w : View) × (a : Act (Unit {0})) × Valid s.homes me.1 a × Rule about (stepped s 0 x id me.1 w a) × drawing_tried (step slots 0 found (found + 1) said) me r (w, carried_after me.1 a) in
    exchanged r found (found + 1) G
    (λ hit. let w : View = drew me.0 (found + 1) in let here' : k.m.next + 1 ≡ found + 1 = omega arith in
    let own_more : (r : ℕ) → 0 < times r w.fresh.own → OwnsUnlinked k.g.linked me.0 → (times r k.g.linked ≡ 0) × (0 < times r w.drawn) = λ r l p. dite (ℕ_discrete r (found + 1))
    (λ e. (dite (ℕ_discrete (times r k.g.linked) 0) (λ z. z) (λ nz. let low = k.apart.low r (omega arith) in absurd (omega (arith, low.1))), omega (arith, times-append r me.0.drawn ((found + 1) ∷ []), one_same r (found + 1) e)))
    (λ ne. let q = p r (omega (arith, l, one_other r (found + 1) ne)) in (q.0, omega (arith, q.1, times-append r me.0.drawn ((found + 1) ∷ [])))) in let here : k.m.next ≡ found = omega arith in (
      w,
      keeps,
      tt,
      record {
        m = record k.m { next = found + 1 };
        memory = next_set k.memory (found + 1) (omega arith);
        about_known = each_stays s.views id me.0 w at (KnowsAbout about) k.about_known (λ p. p);
        g = k.g;
        table = k.table;
        writers = omega (arith, k.writers, total-set (λ u. in_write u.stage) s.views id me.0 w at);
        changes = λ n d none. k.changes n d (omega (arith, none, total-set (λ u. changing n d u.doing) s.views id me.0 w at));
        doing = each_stays s.views id me.0 w at (λ u. DoingOk (state_of k.m k.g) u.doing) k.doing (λ p. p);
        held = each_stays s.views id me.0 w at HoldsIts k.held (λ p. p);
        present = each_stays s.views id me.0 w at (KnowsEpoch k.m.epoch) k.present (λ p. p);
        apart = subst (λ n. AreApart n k.m.rows k.g.linked (set s.views id w)) here' (apart_stays s.views id me.0 w at k.m.next (k.m.next + 1) k.m.rows k.g.linked k.apart (omega arith) (λ p r l. own_more r l p) (λ p. facts_more k.m.rows (found + 1) me.0.fresh.own me.0.fresh.wrote p));
        locked = locked_stays s.views id me.0 w at k.m.rows k.locked refl refl (k.locked.writing id me.0 at);
        known = each_stays s.views id me.0 w at (KnowsRows k.m.rows) k.known (λ p. p);
        reached = each_stays s.views id me.0 w at (λ u. AllLinked k.g.linked u.trail.reached) k.reached (λ p. p);
        ways = each_stays s.views id me.0 w at (IsOnWay (state_of k.m k.g)) k.ways (λ p. p);
        places = each_stays s.views id me.0 w at (KnowsPlace (state_of k.m k.g)) k.places (λ p. p);
        worn = each_stays s.views id me.0 w at (KnowsWorn (state_of k.m k.g)) k.worn (λ p. p);
        lasting = each_stays s.views id me.0 w at (λ u. AreLasting (state_of k.m k.g) u.words.lasting) k.lasting (λ p. p);
        based = each_stays s.views id me.0 w at (KnowsBase (state_of k.m k.g)) k.based (λ p. p);
        tries = each_stays s.views id me.0 w at (KnowsTry (state_of k.m k.g)) k.tries (λ p. p);
        heights = each_stays s.views id me.0 w at (λ u. AreHeights (state_of k.m k.g) u.holds u.heights) k.heights (λ p. p);
        debts = each_stays s.views id me.0 w at (KnowsDebt (state_of k.m k.g)) k.debts (λ p. p);
        owing = owed_after s.views id me.0 w at (state_of k.m k.g) (state_of k.m k.g) k.m.next (found + 1) about.rows (same_evolves (state_of k.m k.g)) (omega arith) (λ _ ok. owed_itself s.views id me.0 at (state_of k.m k.g) ok) k.owing;
        marked = marks_stay s.views id me.0 w k.m.rows k.m.rows at k.marked (λ n. refl) refl;
        cut = cut_stays s.views id me.0 w at k.m.epoch k.cut refl refl;
        acting = each_stays s.views id me.0 w at ActsAsPass k.acting (λ _ z. absurd (omega (arith, z, ap is_counted passing)));
        named = named_stays s.views id me.0 w at about.passes k.named refl refl refl;
        history = history_stays s.views id me.0 w at k.g.history k.history refl refl refl refl refl refl;
        counted = record { all = omega (arith, k.counted.all, total-set (λ u. owes_count u.stage) s.views id me.0 w at); few = omega (arith, k.counted.few, total-set (λ u. has_counted u.stage) s.views id me.0 w at) };
        gated = gated_stays s.views id me.0 w at k.m.gate k.m.left k.gated refl;
        used = used_stays s.views id me.0 w at k.m.gate k.m.epoch k.used refl refl refl refl refl;
        drawn = subst (λ n. AreDrawn (n + 1) (set s.views id w)) here (drawn_more s.views id me.0 w at k.m.next k.drawn (ap (λ (n : ℕ). me.0.drawn ++ (n + 1) ∷ []) (sym here)) refl);
        notes = each_set s.views id w k.notes (header_later k.m.next (found + 1) k.m.epoch k.m.epoch (omega arith) (omega arith)) (header_later k.m.next (found + 1) k.m.epoch k.m.epoch (omega arith) (omega arith) me.0 (k.notes id me.0 at));
      },
      (refl, (λ _. refl), (λ miss. absurd (miss hit)), omega arith),
    ))
    (λ miss. (
      word_noted me.0 (Next r),
      keeps,
      tt,
      noting about s.words s.views k 0 id me.0 (Next r) at (omega arith),
      (refl, (λ hit. absurd (miss hit)), (λ _. refl), omega arith),
    ))
