-- What is known at the end, where one pass speaks for every number.
use Rattle.std.proofs.Common.{◌≡◌, ◌≢◌, ℕ, zero, suc, ◌+◌, ◌-◌, ◌%◌, ◌^◌, ◌<◌, ◌≤◌, eqb, Bool, true, false, cond, List, [], ◌∷◌, ◌++◌, length, length-append, refl, sym, ap, ◌∙◌, subst, arith, eqb-true}
use Rattle.std.proofs.lemmas.Bool.Decides.{nat_tests}
use mathlib.Core.Logic.{dite}
use mathlib.Core.Option.{some, some-injective, some-ne-none}
use native.Mathlib.Decide.{ℕ_discrete, dec_le}
use lib.ListN.{get_elem?}
use Rattle.snap_model.specs.History.{IsLegal, calls_of}
use Rattle.snap_model.specs.declared.call.Entry.{Entry}
use Rattle.snap_steps.specs.Counting.{total, times, one_if}
use Rattle.snap_steps.specs.Ending.{Ended, SpeaksForAll, KnowsAll, NamesAll, Closes}
use Rattle.snap_steps.specs.Numbers.{numbers, numbers_of, all_cuts, all_drawn, times_drawn}
use Rattle.snap_steps.specs.Pairs.{adds, takes, kept_sum}
use Rattle.snap_steps.specs.Roles.{own_number, is_counted, is_live}
use Rattle.snap_steps.specs.Rule.{Kept}
use Rattle.snap_steps.specs.Rule.Drawn.{AreDrawn}
use Rattle.snap_steps.specs.Rule.History.{AreTheirs, saw_all, whole}
use Rattle.snap_steps.specs.Rule.Names.{names}
use Rattle.snap_steps.specs.Seen.{Known, CountsPairs}
use Rattle.snap_steps.specs.Stages.{owes_count}
use Rattle.snap_steps.specs.declared.rule.About.{About}
use Rattle.snap_steps.specs.declared.view.Admitted.{Admitted}
use Rattle.snap_steps.specs.declared.view.Role.{Role}
use Rattle.snap_steps.specs.declared.view.Role.TheVariants.{Opening, Passing, Noting, Spent}
use Rattle.snap_steps.specs.declared.view.Stage.TheVariants.{Idle}
use Rattle.snap_steps.specs.declared.view.View.{View}
use Rattle.snap_steps.proofs.EachView.{none_total}
use Rattle.snap_steps.proofs.PairCounts.{pair_counts, adds_few}
use Rattle.snap_steps.proofs.Prefixes.{begins_whole}
use Rattle.snap_steps.proofs.Totals.{one_same, one_other, term_le, terms_le}

-- the sum over all views, where all but one weigh nothing
total_alone : (g : View → ℕ) (views : List View) (id : ℕ) (v : View) → get_elem? views id ≡ some v → ((j : ℕ) (u : View) → j ≢ id → get_elem? views j ≡ some u → g u ≡ 0) → total g views ≡ g v
total_alone g [] id v at h = absurd (some-ne-none v (sym at))
total_alone g (x ∷ xs) zero v at h = omega (arith, ap g (some-injective x v at), none_total g xs (λ j u there. h (suc j) u (λ e. omega (arith, e)) there))
total_alone g (x ∷ xs) (suc id) v at h = omega (arith, h 0 x (λ e. omega (arith, e)) refl, total_alone g xs id v at (λ j u ne there. h (suc j) u (λ e. ne (omega (arith, e))) there))

no_number : (ns : List ℕ) → ((i : ℕ) → times i ns ≡ 0) → length ns ≡ 0
no_number [] h = refl
no_number (n ∷ ns) h = absurd (omega (arith, h n, one_same n n refl))

not_counted : (r : Role) (who : ℕ) → length (own_number r who) ≡ 0 → is_counted r ≡ 0
not_counted Opening who h = refl
not_counted Passing who h = absurd (omega arith)
not_counted Noting who h = refl
not_counted Spent who h = refl

none_admitted : (f : Admitted → ℕ) (l : List Admitted) → length (numbers_of l) ≡ 0 → total f l ≡ 0
none_admitted f [] h = refl
none_admitted f (a ∷ more) h = absurd (omega arith)

saw_none : (r : Role) (a n : ℕ) → is_counted r ≡ 0 → n ≢ 0 → saw_all r a n ≡ 0
saw_none Opening a n z ne = one_other 0 n (λ e. ne (sym e))
saw_none Passing a n z ne = absurd (omega arith)
saw_none Noting a n z ne = refl
saw_none Spent a n z ne = refl

-- entries of one number after another: each entry is counted at its own number
at_one : (w x : ℕ) (ns : List ℕ) → times w ns ≤ 1 → total (λ n. cond (eqb w n) x 0) ns ≡ cond (eqb (times w ns) 0) 0 x
at_one w x [] h = refl
at_one w x (n ∷ ns) h = go (eqb w n) refl (at_one w x ns (omega (arith, h)))
  where
    go : (b : Bool) → eqb w n ≡ b → total (λ (m : ℕ). cond (eqb w m) x 0) ns ≡ cond (eqb (times w ns) 0) 0 x → cond b x 0 + total (λ (m : ℕ). cond (eqb w m) x 0) ns ≡ cond (eqb (times w (n ∷ ns)) 0) 0 x
    go true e t =
        let one = one_same w n (eqb-true w n e) in let none : times w ns ≡ 0 = omega (arith, h, one) in let all : times w (n ∷ ns) ≡ 1 = omega (arith, one, none) in
        let rest : total (λ (m : ℕ). cond (eqb w m) x 0) ns ≡ 0 = t ∙ ap (λ (c : ℕ). cond (eqb c 0) 0 x) none in
        omega (arith, rest, ap (λ (c : ℕ). cond (eqb c 0) 0 x) all)
    go false e t =
        let ne : w ≢ n = grind (arith, nat_tests) in let all : times w (n ∷ ns) ≡ times w ns = omega (arith, one_other w n ne) in
        omega (arith, t, ap (λ (c : ℕ). cond (eqb c 0) 0 x) all)

total_plus : {A : Type 0} (f g h : A → ℕ) (l : List A) → ((a : A) → f a ≡ g a + h a) → total f l ≡ total g l + total h l
total_plus f g h [] e = refl
total_plus f g h (x ∷ xs) e = omega (arith, e x, total_plus f g h xs e)

one_entry_more : (f : Entry → ℕ) (e : Entry) (es : List Entry) (n : ℕ) → total f (calls_of (e ∷ es) n) ≡ total f (calls_of es n) + cond (eqb e.who n) (f e) 0
one_entry_more f e es n = go (eqb e.who n)
  where
    go : (b : Bool) → total f (cond b (e ∷ calls_of es n) (calls_of es n)) ≡ total f (calls_of es n) + cond b (f e) 0
    go true = omega arith
    go false = omega arith

by_number : (f : Entry → ℕ) (ns : List ℕ) (h : List Entry) → ((i : ℕ) → times i ns ≤ 1) → ((i : ℕ) → times i ns ≡ 0 → calls_of h i ≡ []) → total (λ n. total f (calls_of h n)) ns ≡ total f h
by_number f ns [] once others = nothing ns
  where
    nothing : (l : List ℕ) → total (λ (n : ℕ). 0) l ≡ 0
    nothing [] = refl
    nothing (x ∷ xs) = omega (arith, nothing xs)
by_number f ns (e ∷ es) once others =
    let there : times e.who ns ≡ 1 = dite (ℕ_discrete (times e.who ns) 0) (λ z. absurd (own z)) (λ nz. omega (arith, once e.who)) in
    let rest = by_number f ns es once (λ i z. less i z) in
    omega (arith, total_plus (λ n. total f (calls_of (e ∷ es) n)) (λ n. total f (calls_of es n)) (λ n. cond (eqb e.who n) (f e) 0) ns (one_entry_more f e es), rest, at_one e.who (f e) ns (once e.who), ap (λ (c : ℕ). cond (eqb c 0) 0 (f e)) there)
  where
    own : times e.who ns ≡ 0 → ⊥
    own z = let t : cond true (e ∷ calls_of es e.who) (calls_of es e.who) ≡ [] = sym (ap (λ b. cond b (e ∷ calls_of es e.who) (calls_of es e.who)) (Rattle.std.proofs.Common.eq-eqb e.who e.who refl)) ∙ others e.who z in absurd (omega (arith, ap length t))

    less : (i : ℕ) → times i ns ≡ 0 → calls_of es i ≡ []
    less i z = go (eqb e.who i) (others i z)
      where
        go : (b : Bool) → cond b (e ∷ calls_of es i) (calls_of es i) ≡ [] → calls_of es i ≡ []
        go true t = absurd (omega (arith, ap length t))
        go false t = t

theirs_sum : (f : Entry → ℕ) (h : List Entry) (l : List Admitted) → AreTheirs h l → total (λ (a : Admitted). total f a.mine) l ≡ total (λ n. total f (calls_of h n)) (numbers_of l)
theirs_sum f h [] t = refl
theirs_sum f h (a ∷ more) t = omega (arith, ap (total f) t.0, theirs_sum f h more t.1)

-- the sums that a pass keeps are those of the history
sum_is : (f : Entry → ℕ) (v : View) → v.role ≡ Passing → KnowsAll v → ((i : ℕ) → times i (numbers v) ≤ 1) → kept_sum f v ≡ total f v.seen
sum_is f v passing knows once =
    let all : numbers v ≡ v.who ∷ numbers_of v.admitted = ap (λ r. own_number r v.who ++ numbers_of v.admitted) passing in
    omega (arith, by_number f (numbers v) v.seen once knows.others, ap (total (λ n. total f (calls_of v.seen n))) all, ap (total f) knows.mine, theirs_sum f v.seen v.admitted knows.theirs)

module _ (about : About) (words : List ℕ) (views : List View) (k : Kept about words views) (id : ℕ) (v : View) (at : get_elem? views id ≡ some v) (passing : v.role ≡ Passing) (all : SpeaksForAll v) where
  passes_are : v.passes ≡ about.passes
  passes_are = (k.about_known id v at (ap is_live passing)).1

  not_theirs : (j : ℕ) (u : View) → j ≢ id → get_elem? views j ≡ some u → (i : ℕ) → names i u ≡ 0
  not_theirs j u ne there i = dite (dec_le about.passes i)
      (λ l. omega (arith, k.named.below i l, term_le (names i) views j u there))
      (λ g. omega (arith, all i (omega (arith, passes_are, g)), k.named.once i, terms_le (names i) views id j v u ne at there))

  no_pass : (j : ℕ) (u : View) → j ≢ id → get_elem? views j ≡ some u → is_counted u.role ≡ 0
  no_pass j u ne there = not_counted u.role u.who (omega (arith, no_number (numbers u) (not_theirs j u ne there), length-append (own_number u.role u.who) (numbers_of u.admitted)))

  none_owes : (j : ℕ) (u : View) → j ≢ id → get_elem? views j ≡ some u → owes_count u.stage ≡ 0
  none_owes j u ne there = ap owes_count (k.acting j u there (no_pass j u ne there)).0

  admits_none : (f : Admitted → ℕ) (j : ℕ) (u : View) → j ≢ id → get_elem? views j ≡ some u → total f u.admitted ≡ 0
  admits_none f j u ne there = none_admitted f u.admitted (omega (arith, no_number (numbers u) (not_theirs j u ne there), length-append (own_number u.role u.who) (numbers_of u.admitted)))

  none_cut : (j : ℕ) (u : View) → j ≢ id → get_elem? views j ≡ some u → all_cuts u ≡ 0
  none_cut j u ne there = omega (arith, ap length (k.acting j u there (no_pass j u ne there)).1, admits_none (λ (a : Admitted). length a.cuts) j u ne there)

  none_drawn : (j : ℕ) (u : View) → j ≢ id → get_elem? views j ≡ some u → all_drawn u ≡ 0
  none_drawn j u ne there = omega (arith, ap length (k.acting j u there (no_pass j u ne there)).2, admits_none (λ (a : Admitted). length a.drawn) j u ne there)

  times_none : (r j : ℕ) (u : View) → j ≢ id → get_elem? views j ≡ some u → times_drawn r u ≡ 0
  times_none r j u ne there = omega (arith, ap (times r) (k.acting j u there (no_pass j u ne there)).2, admits_none (λ (a : Admitted). times r a.drawn) j u ne there)

  drew : (drawn : ℕ) → drawn ≡ k.m.next → AreDrawn drawn (v ∷ [])
  drew drawn next = record {
    once = λ r above low. omega (arith, k.drawn.once r above (omega arith), total_alone (times_drawn r) views id v at (times_none r));
    none_later = λ r l. omega (arith, k.drawn.none_later r (omega arith), total_alone (times_drawn r) views id v at (times_none r));
    none_zero = omega (arith, k.drawn.none_zero, total_alone (times_drawn 0) views id v at (times_none 0));
    all = omega (arith, next, k.drawn.all, total_alone all_drawn views id v at none_drawn);
  }

  seen_whole : length k.g.history ≤ length v.seen
  seen_whole = dite (ℕ_discrete (length k.g.history) 0) (λ z. omega (arith, z))
      (λ nz. let alone = total_alone (whole k.g.history) views id v at (λ j u ne there. saw_none u.role (length u.seen) (length k.g.history) (no_pass j u ne there) nz) in
      let own : whole k.g.history v ≡ one_if (length v.seen) (length k.g.history) = ap (λ r. saw_all r (length v.seen) (length k.g.history)) passing in
      dite (ℕ_discrete (length v.seen) (length k.g.history)) (λ e. omega (arith, e)) (λ ne. absurd (omega (arith, k.history.longest, alone, own, one_other (length v.seen) (length k.g.history) ne))))

  seen_is : v.seen ≡ k.g.history
  seen_is = begins_whole v.seen k.g.history (k.history.seen id v at).0 seen_whole

  once : (i : ℕ) → times i (numbers v) ≤ 1
  once i = omega (arith, k.named.once i, term_le (names i) views id v at)

  knows_all : KnowsAll v
  knows_all = let p = k.history.mine id v at in let own = p.0 (ap is_counted passing) in record {
    legal = subst IsLegal (sym seen_is) k.history.legal;
    mine = own.0 ∙ sym own.1;
    theirs = p.2;
    others = λ i none. ap (λ (l : List Entry). calls_of l i) seen_is ∙ k.history.others i (total_alone (names i) views id v at (λ j u ne there. not_theirs j u ne there i) ∙ none);
  }

  names_all : NamesAll v
  names_all = let few = k.used.few id v at in record {
    once = λ i l. omega (arith, all i l, once i);
    none_later = λ i l. omega (arith, k.named.below i (omega (arith, passes_are, l)), term_le (names i) views id v at);
    uses = omega (arith, few.0, ap (λ r. length (own_number r v.who)) passing);
    theirs = few.1;
  }

  pub knows_cuts : v.noted.epochs ≤ all_cuts v
  knows_cuts = omega (arith, k.cut, total_alone all_cuts views id v at none_cut, (k.notes id v at).epochs_are)

  pub ends : (last : Known) (writes drawn added taken : ℕ) → last.view ≡ v → v.stage ≡ Idle → get_elem? words 0 ≡ some drawn → get_elem? words 3 ≡ some writes → CountsPairs v added taken → writes < 2 ^ 64
      → (let e : Ended = record { writes = writes; pairs = (added + (2 ^ 64 - taken)) % 2 ^ 64; drawn = drawn; last = last } in let p : Known = record { table = last.table; view = v } in Closes p e)
  ends last writes drawn added taken is idle word0 word3 pairs small =
      let next : drawn ≡ k.m.next = some-injective drawn k.m.next (sym word0 ∙ ap (λ (ws : List ℕ). get_elem? ws 0) k.memory.words_are) in
      let done : writes ≡ k.m.done = some-injective writes k.m.done (sym word3 ∙ ap (λ (ws : List ℕ). get_elem? ws 3) k.memory.words_are) in
      let owes = total_alone (λ u. owes_count u.stage) views id v at none_owes in
      let count : writes ≡ length v.seen = omega (arith, done, k.counted.all, owes, ap owes_count idle, ap length seen_is) in
      let rows_are = (k.about_known id v at (ap is_live passing)).0 in
      let a = sum_is adds v passing knows_all once in let t = sum_is takes v passing knows_all once in
      let balance = pair_counts v.seen knows_all.legal in let few = adds_few v.seen in let is_added = pairs.added_are in let is_taken = pairs.taken_are in
      record {
        last = λ i. record { table = last.table; view = is i };
        knows = knows_all;
        names = names_all;
        writes = count;
        few = omega (arith, count, small);
        pairs = omega (arith, a, t, balance, few, is_added, is_taken, count);
        handed = omega (arith, next, (k.notes id v at).handed_is);
        drawn = omega (arith, next, rows_are, k.memory.room);
        drew = drew drawn next;
        epochs = knows_cuts;
        state = record { about = about; rows_are = sym rows_are; passes_are = sym passes_are; words = words; views = views; id = id; at = at; kept = k; next = next; worn = k.worn id v at };
      }
