-- Taking a note, learning and admitting keep the rule.
use Rattle.std.proofs.Common.{◌≡◌, ℕ, ◌+◌, List, [], ◌∷◌, ◌++◌, sym, ap, subst, refl, arith, length, ◌∙◌}
use mathlib.Core.Option.{none}
use Rattle.atomic_table.proofs.Lists.{set_again}
use Rattle.atomic_table.specs.Table.{Splits, Joins, step, keeps, Allows}
use Rattle.snap_model.specs.History.{Begins}
use Rattle.snap_steps.specs.Steps.Seats.{note_of, learned, took, sure, made_sure}
use Rattle.snap_steps.specs.Roles.{is_live, gone, own_number, is_counted, is_opening, silent}
use Rattle.snap_steps.specs.Rule.{Kept}
use Rattle.snap_model.specs.declared.call.Entry.{Entry}
use Rattle.snap_steps.specs.declared.view.Base.{Base}
use Rattle.snap_steps.specs.declared.view.View.{View}
use Rattle.snap_steps.specs.declared.view.Role.TheVariants.{Passing}
use Rattle.snap_steps.specs.declared.rule.About.{About}
use Rattle.snap_steps.proofs.Classes.Turning.{Rule}
use Rattle.snap_steps.specs.Steps.Told.{Sat}
use Rattle.snap_steps.proofs.Classes.Adding.{noted_more}
use Rattle.snap_steps.specs.Histories.{longer}
use Rattle.snap_steps.specs.Numbers.{all_uses, admitted_of, numbers_of, all_cuts, all_drawn, times_drawn}
use Rattle.snap_steps.specs.Rule.Names.{names}
use Rattle.snap_steps.specs.declared.view.Stage.TheVariants.{Idle}
use Rattle.snap_steps.proofs.Histories.{longer_begins, theirs_between, of_between, theirs_more, legal_begin, AreShorter, all_begin}
use Rattle.snap_steps.proofs.EachView.{before}
use Rattle.snap_steps.proofs.Classes.Joins.{joining}
use Rattle.snap_steps.specs.Counting.{total, times}
use Rattle.snap_steps.specs.Rule.History.{AreTheirs}
use Rattle.snap_steps.specs.declared.view.Admitted.{Admitted}
use Rattle.snap_steps.proofs.Totals.{total-append, times-append}
use Rattle.snap_steps.proofs.Parts.Names.{numbers_more}
use Rattle.snap_steps.proofs.Parts.Uses.{few_more}
use Rattle.snap_steps.proofs.Prefixes.{begins_itself}
use Rattle.snap_steps.proofs.Classes.Seeing.{seeing}

pub notes_kept : (about : About) (id : ℕ) (v : View) → v.role ≡ Passing → Splits (Rule about) id v v (note_of v)
notes_kept about id v passing s k at = subst (λ (l : List View). Kept about s.words (l ++ note_of v ∷ [])) (sym (set_again s.views id v at)) (noted_more about s.words s.views k id v at (ap is_live passing))

-- a note, or the seat of a clone
pub learns : (about : About) (id : ℕ) (v : View) (other : ℕ) (u : View) (seen : List Entry) (base : Base) (outworn : List ℕ) → v.role ≡ Passing → u ≡ silent u.rows u.passes seen u.noted.handed u.noted.epochs u.noted.worn base outworn → Joins (Rule about) id v other u (learned v u) gone
learns about id v other u seen base outworn passing is s k at apart there =
    let idle : u.stage ≡ Idle = ap (λ (x : View). x.stage) is in let not_opening : is_opening u.role ≡ 0 = ap (λ (x : View). is_opening x.role) is in
    let none_named : (i : ℕ) → names i u ≡ 0 = λ i. ap (λ (x : View). names i x) is in
    let none_used : all_uses u ≡ 0 = ap all_uses is in let none_cut : all_cuts u ≡ 0 = ap all_cuts is in let none_drawn : all_drawn u ≡ 0 = ap all_drawn is in
    let none_times : (r : ℕ) → times_drawn r u ≡ 0 = λ r. ap (times_drawn r) is in
    let theirs = k.history.mine id v at in
    let before_u = before s.views id v (learned v u) at other u gone apart there in
    let long = longer_begins v.seen u.seen k.g.history (k.history.seen id v at).0 (k.history.seen other u before_u).0 in
    joining about s.words s.views k id v at other u apart v.admitted there passing not_opening idle (λ i. omega (arith, none_named i)) (omega arith) (omega arith) (λ r. omega (arith, none_times r)) (omega arith) (k.used.few id v at)
    theirs.1 (theirs_between v.seen (longer v.seen u.seen) k.g.history v.admitted long.1 long.0 theirs.1 theirs.2)

pub admits : (about : About) (id : ℕ) (v : View) (other : ℕ) (u : View) → v.role ≡ Passing → u.role ≡ Passing → u.stage ≡ Idle → Joins (Rule about) id v other u (took v u) gone
admits about id v other u passing theirs_too idle s k at apart there =
    let b : View = took v u in
    let mine = k.history.mine id v at in
    let before_u = before s.views id v b at other u gone apart there in
    let hers = k.history.mine other u before_u in let own = hers.0 (ap is_counted theirs_too) in
    let a = (k.history.seen id v at).0 in let c = (k.history.seen other u before_u).0 in
    let long = longer_begins v.seen u.seen k.g.history a c in
    let few_v = k.used.few id v at in let few_u = k.used.few other u before_u in
    let one_v : own_number v.role v.who ≡ v.who ∷ [] = ap (λ r. own_number r v.who) passing in
    let one_u : own_number u.role u.who ≡ u.who ∷ [] = ap (λ r. own_number r u.who) theirs_too in
    let uses : total (λ (x : Admitted). x.uses) b.admitted ≡ total (λ (x : Admitted). x.uses) v.admitted + (u.uses + total (λ (x : Admitted). x.uses) u.admitted) = total-append (λ (x : Admitted). x.uses) v.admitted (admitted_of u ∷ u.admitted) in
    let not_opening : is_opening u.role ≡ 0 = ap is_opening theirs_too in
    let cuts : all_cuts b ≡ all_cuts v + all_cuts u = omega (arith, total-append (λ (x : Admitted). length x.cuts) v.admitted (admitted_of u ∷ u.admitted)) in
    let at_u : AreTheirs k.g.history (admitted_of u ∷ u.admitted) = (own.0, hers.1) in
    let begins_u : Begins (longer v.seen u.seen) k.g.history = long.0 in
    joining about s.words s.views k id v at other u apart (v.admitted ++ admitted_of u ∷ u.admitted) there passing not_opening idle
    (λ i. omega (arith, times-append i (own_number v.role v.who) (numbers_of b.admitted), times-append i (own_number v.role v.who) (numbers_of v.admitted), times-append i (own_number u.role u.who) (numbers_of u.admitted), ap (times i) one_u, numbers_more i v.admitted (admitted_of u ∷ u.admitted)))
    (omega (arith, uses))
    cuts
    (λ r. omega (arith, total-append (λ (x : Admitted). times r x.drawn) v.admitted (admitted_of u ∷ u.admitted)))
    (omega (arith, total-append (λ (x : Admitted). length x.drawn) v.admitted (admitted_of u ∷ u.admitted)))
    (few_v.0, few_more v.admitted (admitted_of u ∷ u.admitted) few_v.1 (omega (arith, few_u.0, ap length one_u), few_u.1))
    (theirs_more k.g.history v.admitted (admitted_of u ∷ u.admitted) mine.1 at_u)
    (theirs_more (longer v.seen u.seen) v.admitted (admitted_of u ∷ u.admitted) (theirs_between v.seen (longer v.seen u.seen) k.g.history v.admitted long.1 long.0 mine.1 mine.2)
    (own.0 ∙ sym (of_between u.seen (longer v.seen u.seen) k.g.history u.who long.2 long.0 own.1), theirs_between u.seen (longer v.seen u.seen) k.g.history u.admitted long.2 long.0 hers.1 hers.2))

pub makes_sure : (about : About) (slots id : ℕ) (me : Sat) → me.0.role ≡ Passing → AreShorter me.0.joined me.0.seen → Allows (Rule about) slots id me 0 (λ n. n) (made_sure (step slots 0 0 0 none) me)
makes_sure about slots id me passing shorter s k wide at small =
    let v : View = me.0 in let w : View = sure v in let seen = k.history.seen id v at in let own = (k.history.mine id v at).0 (ap is_counted passing) in (
      w,
      keeps,
      tt,
      seeing about s.words s.views k 0 id v w at (k.known id v at) (k.reached id v at) (k.ways id v at) (k.places id v at) (k.present id v at) (k.notes id v at) (k.worn id v at) (k.lasting id v at) (begins_itself v.seen) seen.0 tt,
      (refl, all_begin k.g.history v.seen v.joined seen.0 seen.1 shorter, legal_begin v.seen k.g.history seen.0 k.history.legal, own.1 ∙ sym own.0),
    )
