-- Entering, leaving, closing and opening keep the rule.
use Rattle.snap_steps.specs.States.{state_of}
use Rattle.snap_rule.specs.declared.reader.Reading.TheVariants.{Resting}
use Rattle.snap_rule.specs.declared.change.Doing.{Doing}
use Rattle.snap_rule.specs.Debt.{no_debt}
use Rattle.snap_rule.proofs.Debts.Kinds.{leave_owes}
use Rattle.snap_steps.specs.Steps.Debts.{OwesNothing}
use Rattle.snap_steps.specs.Roles.{is_live}
use Rattle.snap_steps.proofs.Owing.{owed_none, owes_none, doing_free}
use Rattle.snap_steps.proofs.Parts.Debts.{owed_itself}
use Rattle.snap_rule.specs.Debt.Changes.{DebtDoing}
use Rattle.snap_steps.specs.Rule.Debts.{debts_of}
use Rattle.std.proofs.Common.{◌≡◌, ℕ, ◌+◌, ◌-◌, ◌%◌, ◌^◌, ◌<◌, length, false, eqb, get_or, set, refl, ap, arith, ◌≤◌, Bool, List, [], sym, ◌∙◌, subst}
use mathlib.Core.Option.{Option, none}
use prog.Atomic.{either}
use Rattle.atomic_table.proofs.Lists.{exchanged}
use Rattle.atomic_table.specs.Table.{step, Act, keeps, Valid, carried_after, stepped, Allows}
use Rattle.snap_steps.specs.Counting.{total, times}
use Rattle.snap_steps.specs.Steps.Header.{word_noted}
use Rattle.snap_steps.specs.Steps.Gate.{entered, entering_tried, closed, closing_tried, idled, ended}
use Rattle.snap_steps.specs.Stages.{in_write, is_closing, may_cut, owes_count, has_counted, is_quiet}
use Rattle.snap_steps.specs.Roles.{own_number, is_counted}
use Rattle.snap_steps.specs.declared.view.View.{View}
use Rattle.snap_steps.specs.declared.view.WordNote.TheVariants.{Gate}
use Rattle.snap_steps.specs.declared.view.Stage.TheVariants.{Idle, Writing, Closing}
use Rattle.snap_steps.specs.declared.view.Role.TheVariants.{Passing}
use Rattle.snap_steps.specs.declared.rule.About.{About}
use Rattle.snap_steps.proofs.Totals.{total-set, term_le}
use Rattle.snap_steps.proofs.Memories.{gate_is, gate_set, left_is, left_set}
use Rattle.snap_steps.proofs.Parts.Uses.{used_moves, gate_small}
use Rattle.snap_steps.proofs.Parts.Gate.{gated_moves, nobody_closes, quiets_le}
use Rattle.snap_steps.proofs.Classes.Turning.{Rule, turning, noting}
use Rattle.snap_steps.specs.Steps.Told.{Sat}
use Rattle.snap_steps.proofs.EachView.{each_set, each_stays}
use Rattle.snap_steps.specs.Rule.Gate.{KnowsGate}
use Rattle.snap_steps.proofs.Parts.Counts.{counted_le}

pub enters : (about : About) (slots id : ℕ) (me : Sat) (found new : ℕ) (said : Option (Unit {0})) → found % 2 ≡ 0 → new ≡ (found + 2) % 2 ^ 64 → me.0.stage ≡ Idle → me.0.uses < 2 ^ 48 → me.0.role ≡ Passing
    → Allows (Rule about) slots id me 1 (λ n. either (eqb n found) new n) (entering_tried (step slots 1 found new said) me)
enters about slots id me found new said even up idle unused passing s k wide at small =
    let v : View = me.0 in let w : View = entered v in let r : ℕ = get_or s.words 1 0 in let is : r ≡ k.m.gate = gate_is k.memory in let g = k.gated in let half = g.half in let one = g.one in
    let low = gate_small about.passes k.m.gate k.m.epoch s.views k.memory.few_passes k.named k.used in
    let G : ℕ → Type 0 = λ x. (w : View) × (a : Act (Unit {0})) × Valid s.homes me.1 a × Rule about (stepped s 1 x id me.1 w a) × entering_tried (step slots 1 found new said) me r (w, carried_after me.1 a) in
    exchanged r found new G
    (λ hit.
    let a : in_write v.stage ≡ 0 = ap in_write idle in let b : is_closing v.stage ≡ 0 = ap is_closing idle in let c : may_cut v.stage ≡ 0 = ap may_cut idle in let o : owes_count v.stage ≡ 0 = ap owes_count idle in let q : has_counted v.stage ≡ 0 = ap has_counted idle in let d : is_counted v.role ≡ 1 = ap is_counted passing in
    let closing = total-set (λ u. is_closing u.stage) s.views id v w at in
    let none_closing : total (λ u. is_closing u.stage) (set s.views id w) ≡ 0 = omega arith in (
      w,
      keeps,
      tt,
      turning about s.words s.views k id v at (set s.words 1 new) (record k.m { gate = new }) v.noted.notes v.noted.handed v.noted.epochs (Writing false false) (v.uses + 1) v.words.present [] no_debt Resting Resting (gate_set k.memory new) refl refl (k.notes id v at) (omega (arith, o)) (omega (arith, q)) refl (λ x. omega (arith, k.locked.writing id v at x, a)) ((k.present id v at).0, λ z. absurd (omega (arith, z)))
          (gated_moves s.views id v w at k.m.gate k.m.left new k.m.left g (omega arith) (omega arith) (λ some. absurd (omega (arith, quiets_le (set s.views id w)))) (nobody_closes new (set s.views id w) none_closing))
          (used_moves s.views id v w at k.m.gate k.m.epoch new k.m.epoch k.used refl refl refl (omega arith) (omega (arith, ap (λ r. length (own_number r v.who)) passing))) (omega arith) (λ z. omega arith) (λ z. absurd (omega (arith, z, d))) (λ z. absurd (omega (arith, z)))
          (subst (DebtDoing (state_of k.m k.g) v.doing) ((k.debts id v at).1 a) (k.debts id v at).0, (λ _. refl), λ room ok. owed_none k id v at ((k.debts id v at).1 a) ok) (tt, tt),
      (refl, ((λ _. refl), (λ miss. absurd (miss hit)))),
    ))
    (λ miss. (word_noted v (Gate r), keeps, tt, noting about s.words s.views k 1 id v (Gate r) at tt, (refl, ((λ hit. absurd (miss hit)), (λ _. refl)))))

pub closes : (about : About) (slots id : ℕ) (me : Sat) (found new : ℕ) (said : Option (Unit {0})) → found % 2 ≡ 0 → new ≡ found + 1 → me.0.stage ≡ Idle → me.0.uses < 2 ^ 48 → me.0.role ≡ Passing
    → Allows (Rule about) slots id me 1 (λ n. either (eqb n found) new n) (closing_tried (step slots 1 found new said) me)
closes about slots id me found new said even up idle unused passing s k wide at small =
    let v : View = me.0 in let w : View = closed v new in let r : ℕ = get_or s.words 1 0 in let is : r ≡ k.m.gate = gate_is k.memory in let g = k.gated in let half = g.half in let one = g.one in
    let G : ℕ → Type 0 = λ x. (w : View) × (a : Act (Unit {0})) × Valid s.homes me.1 a × Rule about (stepped s 1 x id me.1 w a) × closing_tried (step slots 1 found new said) me r (w, carried_after me.1 a) in
    exchanged r found new G
    (λ hit.
    let a : in_write v.stage ≡ 0 = ap in_write idle in let b : is_closing v.stage ≡ 0 = ap is_closing idle in let c : may_cut v.stage ≡ 0 = ap may_cut idle in let o : owes_count v.stage ≡ 0 = ap owes_count idle in let q : has_counted v.stage ≡ 0 = ap has_counted idle in let d : is_counted v.role ≡ 1 = ap is_counted passing in let e : is_quiet v.stage ≡ 0 = ap is_quiet idle in
    let none_before : total (λ u. is_closing u.stage) s.views ≡ 0 = omega arith in (
      w,
      keeps,
      tt,
      turning about s.words s.views k id v at (set s.words 1 new) (record k.m { gate = new }) v.noted.notes v.noted.handed v.noted.epochs (Closing new false false) (v.uses + 1) v.words.present v.fresh.copies v.debt v.way.reads v.way.place (gate_set k.memory new) refl refl (k.notes id v at) (omega (arith, o)) (omega (arith, q)) refl (λ x. omega (arith, k.locked.writing id v at x, a)) ((k.present id v at).0, λ _. (k.present id v at).1 a)
          (gated_moves s.views id v w at k.m.gate k.m.left new k.m.left g (omega arith) (omega arith) (λ some. absurd (omega (arith, quiets_le s.views, total-set (λ u. is_quiet u.stage) s.views id v w at)))
          (each_set s.views id w (nobody_closes new s.views none_before) (λ u p. p) refl))
          (used_moves s.views id v w at k.m.gate k.m.epoch new k.m.epoch k.used refl refl refl (omega arith) (omega (arith, ap (λ r. length (own_number r v.who)) passing))) (omega arith) (λ z. omega arith) (λ z. absurd (omega (arith, z, d))) (λ z. absurd (omega (arith, z)))
          ((k.debts id v at).0, (λ _. (k.debts id v at).1 a), λ room ok. owed_itself s.views id v at (state_of k.m k.g) ok) (k.ways id v at, k.places id v at),
      (refl, ((λ _. refl), (λ miss. absurd (miss hit)))),
    ))
    (λ miss. (word_noted v (Gate r), keeps, tt, noting about s.words s.views k 1 id v (Gate r) at tt, (refl, ((λ hit. absurd (miss hit)), (λ _. refl)))))

pub leaves : (about : About) (slots id : ℕ) (me : Sat) (made counted : Bool) → me.0.stage ≡ Writing made counted → owes_count (Writing made counted) ≡ 0 → me.0.holds ≡ [] → is_live me.0.role ≡ 1 → OwesNothing me.0 → Allows (Rule about) slots id me 2 (λ n. (n + 1) % 2 ^ 64) (ended (step slots 2 1 0 none) me)
leaves about slots id me made counted writing settled free live owes s k wide at small =
    let v : View = me.0 in let w : View = idled v in let r : ℕ = get_or s.words 2 0 in let is : r ≡ k.m.left = left_is k.memory in let g = k.gated in let half = g.half in let one = g.one in
    let low = gate_small about.passes k.m.gate k.m.epoch s.views k.memory.few_passes k.named k.used in
    let a : in_write v.stage ≡ 1 = ap in_write writing in let b : is_closing v.stage ≡ 0 = ap is_closing writing in let c : may_cut v.stage ≡ 0 = ap may_cut writing in let o : owes_count v.stage ≡ 0 = ap owes_count writing ∙ settled in let q : has_counted v.stage ≤ 1 = counted_le v.stage in let e : is_quiet v.stage ≡ 0 = ap is_quiet writing in
    let mine = term_le (λ u. in_write u.stage) s.views id v at in
    let new : ℕ = (r + 1) % 2 ^ 64 in let up : new ≡ k.m.left + 1 = omega arith in (
      w,
      keeps,
      tt,
      turning about s.words s.views k id v at (set s.words 2 new) (record k.m { left = new }) v.noted.notes v.noted.handed v.noted.epochs Idle v.uses [] v.fresh.copies no_debt v.way.reads v.way.place (left_set k.memory new) refl refl (k.notes id v at) (omega (arith, o)) (omega (arith, q)) refl (λ x. subst (λ (h : List ℕ). times x h ≤ 0) (sym free) (omega arith)) (tt, λ _. refl)
          (gated_moves s.views id v w at k.m.gate k.m.left k.m.gate new g (omega arith) (omega arith) (λ some. absurd (omega (arith, g.quiet (omega (arith, total-set (λ u. is_quiet u.stage) s.views id v w at)))))
          (each_stays s.views id v w at (λ u. KnowsGate k.m.gate u.stage) g.at (λ p. tt)))
          (used_moves s.views id v w at k.m.gate k.m.epoch k.m.gate k.m.epoch k.used refl refl refl (omega arith) (k.used.few id v at).0) (omega arith) (λ z. omega arith) (λ _. refl) (λ z. absurd (omega (arith, z)))
          (subst (λ (g : Doing). DebtDoing (state_of k.m k.g) g no_debt) (sym (doing_free v.doing v.holds (k.held id v at) (λ x. ap (times x) free))) refl, (λ _. refl), λ room ok. leave_owes (state_of k.m k.g) (debts_of s.views) id ok (owes_none k id v at live owes room)) (k.ways id v at, k.places id v at),
      refl,
    )

pub opens : (about : About) (slots id : ℕ) (me : Sat) (gate : ℕ) (quiet cut : Bool) → me.0.stage ≡ Closing gate quiet cut → Allows (Rule about) slots id me 1 (λ n. (n + (2 ^ 64 - 1)) % 2 ^ 64) (ended (step slots 1 1 0 none) me)
opens about slots id me gate quiet cut closing s k wide at small =
    let v : View = me.0 in let w : View = idled v in let r : ℕ = get_or s.words 1 0 in let is : r ≡ k.m.gate = gate_is k.memory in let g = k.gated in let half = g.half in let one = g.one in
    let low = gate_small about.passes k.m.gate k.m.epoch s.views k.memory.few_passes k.named k.used in
    let a : in_write v.stage ≡ 0 = ap in_write closing in let b : is_closing v.stage ≡ 1 = ap is_closing closing in let o : owes_count v.stage ≡ 0 = ap owes_count closing in let q : has_counted v.stage ≡ 0 = ap has_counted closing in
    let mine = term_le (λ u. is_closing u.stage) s.views id v at in
    let new : ℕ = (r + (2 ^ 64 - 1)) % 2 ^ 64 in let down : new + 1 ≡ k.m.gate = omega arith in
    let after = total-set (λ u. is_closing u.stage) s.views id v w at in
    let none_closing : total (λ u. is_closing u.stage) (set s.views id w) ≡ 0 = omega arith in (
      w,
      keeps,
      tt,
      turning about s.words s.views k id v at (set s.words 1 new) (record k.m { gate = new }) v.noted.notes v.noted.handed v.noted.epochs Idle v.uses [] v.fresh.copies no_debt v.way.reads v.way.place (gate_set k.memory new) refl refl (k.notes id v at) (omega (arith, o)) (omega (arith, q)) refl (λ x. omega (arith, k.locked.writing id v at x, a)) (tt, λ _. refl)
          (gated_moves s.views id v w at k.m.gate k.m.left new k.m.left g (omega arith) (omega arith) (λ some. absurd (omega (arith, quiets_le (set s.views id w)))) (nobody_closes new (set s.views id w) none_closing))
          (used_moves s.views id v w at k.m.gate k.m.epoch new k.m.epoch k.used refl refl refl (omega arith) (k.used.few id v at).0) (omega arith) (λ z. omega arith) (λ _. refl) (λ z. absurd (omega (arith, z)))
          (subst (DebtDoing (state_of k.m k.g) v.doing) ((k.debts id v at).1 a) (k.debts id v at).0, (λ _. refl), λ room ok. owed_none k id v at ((k.debts id v at).1 a) ok) (k.ways id v at, k.places id v at),
      refl,
    )
