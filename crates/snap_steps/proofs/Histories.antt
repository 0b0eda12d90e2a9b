-- Histories: prefixes, entries of one number, and one entry more.
use Rattle.std.proofs.Common.{◌≡◌, ℕ, ◌+◌, Bool, true, false, cond, List, [], ◌∷◌, ◌++◌, refl, ap, ◌∙◌, eq-eqb, ◌≢◌, append-nil, ne_eqb, sym, subst, length, arith, nat_lt, ◌≤◌}
use Rattle.std.proofs.lemmas.Bool.{cond_both}
use Rattle.std.proofs.lemmas.Bool.Decides.{nat_tests}
use Rattle.snap_model.specs.History.{calls_of, after_call, after_from, call_key, IsLegalFrom, told, IsLegal, Begins}
use Rattle.snap_model.specs.SortedMap.{Pairs as Map, at}
use Rattle.snap_model.specs.declared.call.Entry.{Entry}
use Rattle.snap_steps.specs.Histories.{longer}
use Rattle.snap_steps.proofs.Prefixes.{begins_itself, begins_both, begins_length, begins_whole, begins_more}
use Rattle.snap_steps.specs.Rule.History.{AreTheirs, AllBegin}
use Rattle.snap_steps.specs.declared.view.Admitted.{Admitted}
use Rattle.snap_steps.specs.Counting.{times}
use Rattle.snap_steps.specs.Numbers.{numbers_of}
use Rattle.snap_steps.proofs.Totals.{one_same}

pub of-append : (l m : List Entry) (i : ℕ) → calls_of (l ++ m) i ≡ calls_of l i ++ calls_of m i
of-append [] m i = refl
of-append (e ∷ es) m i = go (Rattle.std.proofs.Common.eqb e.who i) (of-append es m i)
  where
    go : (b : Bool) → calls_of (es ++ m) i ≡ calls_of es i ++ calls_of m i → cond b (e ∷ calls_of (es ++ m) i) (calls_of (es ++ m) i) ≡ cond b (e ∷ calls_of es i) (calls_of es i) ++ calls_of m i
    go true r = ap (λ (l : List Entry). e ∷ l) r
    go false r = r

pub of_mine : (l : List Entry) (e : Entry) (i : ℕ) → e.who ≡ i → calls_of (l ++ e ∷ []) i ≡ calls_of l i ++ e ∷ []
of_mine l e i same = of-append l (e ∷ []) i ∙ ap (λ b. calls_of l i ++ cond b (e ∷ []) []) (eq-eqb e.who i same)

pub of_other : (l : List Entry) (e : Entry) (i : ℕ) → e.who ≢ i → calls_of (l ++ e ∷ []) i ≡ calls_of l i
of_other l e i other = of-append l (e ∷ []) i ∙ ap (λ b. calls_of l i ++ cond b (e ∷ []) []) (ne_eqb e.who i other) ∙ append-nil (calls_of l i)

pub after-more : (m : Map) (l : List Entry) (e : Entry) → after_from m (l ++ e ∷ []) ≡ after_call (after_from m l) e.call
after-more m [] e = refl
after-more m (x ∷ xs) e = after-more (after_call m x.call) xs e

legal_from_more : (m : Map) (l : List Entry) (e : Entry) → IsLegalFrom m l → e.reply ≡ at (after_from m l) (call_key e.call) → IsLegalFrom m (l ++ e ∷ [])
legal_from_more m [] e h r = (r, tt)
legal_from_more m (x ∷ xs) e h r = (h.0, legal_from_more (after_call m x.call) xs e h.1 r)

pub legal_more : (l : List Entry) (e : Entry) → IsLegal l → e.reply ≡ told l (call_key e.call) → IsLegal (l ++ e ∷ [])
unfolding told
legal_more l e h r = legal_from_more [] l e h r

legal_front : (m : Map) (xs ys : List Entry) → IsLegalFrom m (xs ++ ys) → IsLegalFrom m xs
legal_front m [] ys h = tt
legal_front m (x ∷ xs) ys h = (h.0, legal_front (after_call m x.call) xs ys h.1)

pub legal_begin : (xs log : List Entry) → Begins xs log → IsLegal log → IsLegal xs
legal_begin xs log b h = legal_front [] xs b.rest (subst IsLegal (sym b.is) h)

-- the longer of two beginnings is one, and both begin it
pub longer_begins : (xs ys log : List Entry) → Begins xs log → Begins ys log → Begins (longer xs ys) log × Begins xs (longer xs ys) × Begins ys (longer xs ys)
longer_begins xs ys log a b =
    cond_both (nat_lt (length xs) (length ys)) ys xs (λ (l : List Entry). Begins l log × Begins xs l × Begins ys l)
    (λ t. (b, begins_both xs ys log a b (grind (arith, nat_tests)), begins_itself ys))
    (λ f. (a, begins_itself xs, begins_both ys xs log b a (grind (arith, nat_tests))))

pub longer_length : (xs ys : List Entry) → (length xs ≤ length (longer xs ys)) × (length ys ≤ length (longer xs ys))
longer_length xs ys =
    cond_both (nat_lt (length xs) (length ys)) ys xs (λ (l : List Entry). (length xs ≤ length l) × (length ys ≤ length l))
    (λ t. (grind (arith, nat_tests), omega arith))
    (λ f. (omega arith, grind (arith, nat_tests)))

pub of_begins : (xs ys : List Entry) (i : ℕ) → Begins xs ys → Begins (calls_of xs i) (calls_of ys i)
of_begins xs ys i b = record { rest = calls_of b.rest i; is = sym (of-append xs b.rest i) ∙ ap (λ (l : List Entry). calls_of l i) b.is }

-- a list between has as many entries of a number, where the two at the ends have
pub of_between : (xs ys log : List Entry) (i : ℕ) → Begins xs ys → Begins ys log → calls_of xs i ≡ calls_of log i → calls_of ys i ≡ calls_of log i
of_between xs ys log i a b e = begins_whole (calls_of ys i) (calls_of log i) (of_begins ys log i b) (omega (arith, begins_length (calls_of xs i) (calls_of ys i) (of_begins xs ys i a), ap length e))

pub theirs_between : (xs ys log : List Entry) (l : List Admitted) → Begins xs ys → Begins ys log → AreTheirs log l → AreTheirs xs l → AreTheirs ys l
theirs_between xs ys log [] a b h k = tt
theirs_between xs ys log (x ∷ more) a b h k = (h.0 ∙ sym (of_between xs ys log x.who a b (sym k.0 ∙ h.0)), theirs_between xs ys log more a b h.1 k.1)

pub theirs_more : (log : List Entry) (l m : List Admitted) → AreTheirs log l → AreTheirs log m → AreTheirs log (l ++ m)
theirs_more log [] m h k = k
theirs_more log (x ∷ xs) m h k = (h.0, theirs_more log xs m h.1 k)

abbrev pub AreShorter : List (List Entry) → List Entry → Type 0
AreShorter [] seen = Unit {0}
AreShorter (h ∷ hs) seen = (length h ≤ length seen) × AreShorter hs seen

pub all_begin : (log seen : List Entry) (hs : List (List Entry)) → Begins seen log → AllBegin hs log → AreShorter hs seen → AllBegin hs seen
all_begin log seen [] a h l = tt
all_begin log seen (x ∷ xs) a h l = (begins_both x seen log h.0 a l.0, all_begin log seen xs a h.1 l.1)

pub all_begin_more : (log : List Entry) (e : Entry) (hs : List (List Entry)) → AllBegin hs log → AllBegin hs (log ++ e ∷ [])
all_begin_more log e [] h = tt
all_begin_more log e (x ∷ xs) h = (begins_more x log (e ∷ []) h.0, all_begin_more log e xs h.1)

pub theirs_later : (log : List Entry) (e : Entry) (l : List Admitted) → times e.who (numbers_of l) ≡ 0 → AreTheirs log l → AreTheirs (log ++ e ∷ []) l
theirs_later log e [] none h = tt
theirs_later log e (x ∷ xs) none h =
    let ne : e.who ≢ x.who = λ same. omega (arith, one_same e.who x.who same) in
    (h.0 ∙ sym (of_other log e x.who ne), theirs_later log e xs (omega arith) h.1)
