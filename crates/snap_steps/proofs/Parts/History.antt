-- The history, once a view has changed or an entry was made.
use Rattle.std.proofs.Common.{length, ◌≡◌, ℕ, ◌+◌, List, ◌++◌, set, ap, ◌∙◌, subst, sym, arith, ◌≤◌, ◌≢◌, [], ◌∷◌, refl}
use lib.ListN.{get_elem?}
use mathlib.Core.Logic.{dite}
use mathlib.Core.Option.{some}
use native.Mathlib.Decide.{ℕ_discrete}
use Rattle.atomic_table.proofs.Lists.{set_here}
use Rattle.snap_model.specs.History.{Begins, calls_of, told, call_key}
use Rattle.snap_model.specs.declared.call.Entry.{Entry}
use Rattle.snap_steps.specs.Counting.{times, total}
use Rattle.snap_steps.specs.Rule.Names.{names}
use Rattle.snap_steps.specs.Rule.History.{AllBegin, AreTheirs, IsIn, IsTrueOf, whole, IsHistory, saw_all}
use Rattle.snap_steps.specs.Roles.{is_counted, own_number, is_opening}
use Rattle.snap_steps.specs.Numbers.{numbers_of, numbers}
use Rattle.snap_steps.specs.declared.view.View.{View}
use Rattle.snap_steps.proofs.Totals.{total-set, one_same, one_other, term_le, terms_le, times-append, at_near}
use Rattle.snap_steps.proofs.EachView.{each_stays, each_others}
use Rattle.snap_steps.specs.declared.view.Role.TheVariants.{Passing, Noting, Opening, Spent}
use Rattle.snap_steps.proofs.Prefixes.{begins_itself, begins_more}
use Rattle.snap_steps.proofs.Histories.{legal_more, of_mine, of_other, all_begin_more, theirs_later}
use Rattle.snap_steps.specs.declared.view.Role.{Role}

module _ (views : List View) (id : ℕ) (v w : View) (at : get_elem? views id ≡ some v) where
  pub history_stays : (log : List Entry) → IsHistory log views → w.seen ≡ v.seen → w.joined ≡ v.joined → w.mine ≡ v.mine → w.who ≡ v.who → w.role ≡ v.role → w.admitted ≡ v.admitted → IsHistory log (set views id w)
  history_stays log h seen joined mine who role admitted =
      let same : numbers w ≡ numbers v = λ k. own_number (role k) (who k) ++ numbers_of (admitted k) in
      record {
        legal = h.legal;
        seen = each_stays views id v w at (IsIn log) h.seen (λ p. (subst (λ l. Begins l log) (sym seen) p.0, subst (λ l. AllBegin l log) (sym joined) p.1));
        longest = let all : whole log w ≡ whole log v = λ i. saw_all (role i) (length (seen i)) (length log) in omega (arith, h.longest, all, total-set (whole log) views id v w at);
        mine = each_stays views id v w at (IsTrueOf log) h.mine (λ p. (
          (λ e. let q = p.0 (ap is_counted (sym role) ∙ e) in (mine ∙ q.0 ∙ ap (calls_of log) (sym who), (λ j. calls_of (seen j) (who j)) ∙ q.1 ∙ ap (calls_of log) (sym who))),
          subst (AreTheirs log) (sym admitted) p.1,
          subst (AreTheirs w.seen) (sym admitted) (subst (λ l. AreTheirs l v.admitted) (sym seen) p.2),
        ));
        others = λ i none. h.others i (omega (arith, none, ap (times i) same, total-set (names i) views id v w at));
      }

saw_all_grows : (r : Role) (a b n : ℕ) → a ≤ b → b ≤ n → saw_all r a n ≤ saw_all r b n
saw_all_grows Passing a b n l m = dite (ℕ_discrete a n) (λ e. omega (arith, one_same a n e, one_same b n (omega arith))) (λ ne. omega (arith, one_other a n ne))
saw_all_grows Opening a b n l m = omega arith
saw_all_grows Noting a b n l m = omega arith
saw_all_grows Spent a b n l m = omega arith

saw_all_over : (r : Role) (a b n : ℕ) → is_opening r ≡ 0 → a ≤ b → b ≤ n → saw_all r a n ≤ saw_all Passing b n
saw_all_over Passing a b n z l m = saw_all_grows Passing a b n l m
saw_all_over Opening a b n z l m = absurd (omega arith)
saw_all_over Noting a b n z l m = omega arith
saw_all_over Spent a b n z l m = omega arith

-- who has seen all still has, once it has seen more
pub whole_grows : (log : List Entry) (v w : View) → w.role ≡ v.role → length v.seen ≤ length w.seen → length w.seen ≤ length log → whole log v ≤ whole log w
whole_grows log v w role a b = omega (arith, saw_all_grows v.role (length v.seen) (length w.seen) (length log) a b, ap (λ r. saw_all r (length w.seen) (length log)) role)

-- so has the pass to which its seat was joined
pub whole_over : (log : List Entry) (v w : View) → w.role ≡ Passing → is_opening v.role ≡ 0 → length v.seen ≤ length w.seen → length w.seen ≤ length log → whole log v ≤ whole log w
whole_over log v w role none a b = omega (arith, saw_all_over v.role (length v.seen) (length w.seen) (length log) none a b, ap (λ r. saw_all r (length w.seen) (length log)) role)

-- what the rule asks of the history, once the entry e of the pass was made
pub history_entered : (views : List View) (id : ℕ) (v w : View) (at : get_elem? views id ≡ some v) (log : List Entry) (e : Entry) → IsHistory log views → ((i : ℕ) → total (names i) views ≤ 1)
    → v.role ≡ Passing → e.who ≡ v.who → e.reply ≡ told log (call_key e.call)
    → w.seen ≡ log ++ e ∷ [] → w.mine ≡ v.mine ++ e ∷ [] → w.who ≡ v.who → w.role ≡ v.role → w.admitted ≡ v.admitted → w.joined ≡ v.joined → IsHistory (log ++ e ∷ []) (set views id w)
history_entered views id v w at log e h once passing mine_is reply seen mine who role admitted joined =
    let log' : List Entry = log ++ e ∷ [] in
    let same : numbers w ≡ numbers v = λ j. own_number (role j) (who j) ++ numbers_of (admitted j) in
    let own : times v.who (own_number v.role v.who) ≡ 1 = ap (λ r. times v.who (own_number r v.who)) passing ∙ (omega (arith, one_same v.who v.who refl)) in
    let one : times v.who (numbers v) ≡ 1 + times v.who (numbers_of v.admitted) = omega (arith, times-append v.who (own_number v.role v.who) (numbers_of v.admitted)) in
    let mine_once : times v.who (numbers_of v.admitted) ≡ 0 = omega (arith, once v.who, term_le (names v.who) views id v at) in
    let p = h.mine id v at in let true_mine = p.0 (ap is_counted passing) in
    let there : get_elem? (set views id w) id ≡ some w = set_here views id w (at_near views id v at) in
    let theirs : AreTheirs log' w.admitted = subst (AreTheirs log') (sym admitted) (theirs_later log e v.admitted (ap (λ (i : ℕ). times i (numbers_of v.admitted)) mine_is ∙ mine_once) p.1) in
    record {
      legal = legal_more log e h.legal reply;
      seen = each_others views id v at w (λ j u ne is. let q = h.seen j u is in (begins_more u.seen log (e ∷ []) q.0, all_begin_more log e u.joined q.1))
          (subst (λ l. Begins l log') (sym seen) (begins_itself log'), subst (λ l. AllBegin l log') (sym joined) (all_begin_more log e v.joined (h.seen id v at).1));
      longest = omega (arith, term_le (whole log') (set views id w) id w there, ap (λ r. saw_all r (length w.seen) (length log')) (role ∙ passing), one_same (length w.seen) (length log') (ap length seen));
      mine = each_others views id v at w
          (λ j u ne is.
          let q = h.mine j u is in
          let apart : times v.who (numbers u) ≡ 0 = omega (arith, once v.who, terms_le (names v.who) views id j v u ne at is, one) in
          let theirs_apart : times e.who (numbers_of u.admitted) ≡ 0 = ap (λ (i : ℕ). times i (numbers_of u.admitted)) mine_is ∙ omega (arith, apart, times-append v.who (own_number u.role u.who) (numbers_of u.admitted)) in (
            (λ counts.
                let not_mine : e.who ≢ u.who = λ is_u. let here : times v.who (own_number u.role u.who) ≡ 1 = own_one u counts (sym mine_is ∙ is_u) in omega (arith, apart, times-append v.who (own_number u.role u.who) (numbers_of u.admitted)) in
                let t = q.0 counts in (t.0 ∙ sym (of_other log e u.who not_mine), t.1 ∙ sym (of_other log e u.who not_mine))),
            theirs_later log e u.admitted theirs_apart q.1,
            q.2,
          )) (
            (λ counts. let more : calls_of log' w.who ≡ calls_of log w.who ++ e ∷ [] = of_mine log e w.who (mine_is ∙ sym who) in
                (mine ∙ ap (λ (l : List Entry). l ++ e ∷ []) (true_mine.0 ∙ ap (calls_of log) (sym who)) ∙ sym more, ap (λ (l : List Entry). calls_of l w.who) seen)),
            theirs,
            subst (λ l. AreTheirs l w.admitted) (sym seen) theirs,
          );
      others = λ i none.
          let before : total (names i) views ≡ 0 = omega (arith, none, ap (times i) same, total-set (names i) views id v w at) in
          let ne : e.who ≢ i = λ is_i. omega (arith, term_le (names v.who) views id v at, one, ap (λ (x : ℕ). total (names x) views) (sym mine_is ∙ is_i)) in
          of_other log e i ne ∙ h.others i before;
    }
  where
    own_one : (u : View) → is_counted u.role ≡ 1 → v.who ≡ u.who → times v.who (own_number u.role u.who) ≡ 1
    own_one u counts is_u = go u.role counts
      where
        go : (r : Rattle.snap_steps.specs.declared.view.Role.Role) → is_counted r ≡ 1 → times v.who (own_number r u.who) ≡ 1
        go Passing c = omega (arith, one_same v.who u.who is_u)
        go Rattle.snap_steps.specs.declared.view.Role.TheVariants.Opening c = absurd (omega arith)
        go Rattle.snap_steps.specs.declared.view.Role.TheVariants.Noting c = absurd (omega arith)
        go Rattle.snap_steps.specs.declared.view.Role.TheVariants.Spent c = absurd (omega arith)
