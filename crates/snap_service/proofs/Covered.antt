-- What the closed tables tell of a session whose kit was admitted.
use Rattle.std.proofs.Common.{zero, suc, ◌≡◌, ◌≢◌, ◌≤◌, ◌<◌, ◌+◌, ◌-◌, eq-eqb, ne_eqb, ℕ, Bool, cond, List, [], ◌∷◌, ◌++◌, length, Option, Some, None, inl, inr, refl, ap, sym, ◌∙◌, subst, arith, ◌⊎◌, slice_get}
use Rattle.snap_prelude.proofs.Common.{dec_lt, dite, one_same, slice_get-get_or, slice_get_past, term_le, ℕ_discrete}
use Rattle.snap_fits.specs.Sessions.{Covers}
use Rattle.snap_fits.proofs.Prefixes.{begins_is, begins_refl}
use Rattle.snap_prelude.specs.{Admitted, admitted_of, AreTheirs, calls_of, Closes, Ended, Entry, In, Known, names}
use Rattle.snap_prelude.specs.{numbers, numbers_of, one_if, own_number, Passing, times, total, View}
use Rattle.snap_service.specs.Prelude.{Admits, AreClosed, AreSeated, AreTables, CoversAll, cuts_among, cuts_of}
use Rattle.snap_service.specs.Prelude.{front_of, fronts_of, HasFinal, IsCallers, IsFrontOfWorkers, nobody, NotedTheirs}
use Rattle.snap_service.specs.Prelude.{pass_at, SessionState, setting, SpeaksFor, Tables, track}
use Rattle.snap_text.specs.LoadFiles.{Loads}

-- an admitted number stands among the numbers
pub listed_number : (a : Admitted) (l : List Admitted) → In a l → 0 < times a.who (numbers_of l)
listed_number a [] i = absurd i
listed_number a (b ∷ more) (inl e) = omega (arith, one_same a.who b.who (ap (λ (x : Admitted). x.who) e))
listed_number a (b ∷ more) (inr i) = omega (arith, listed_number a more i)

theirs_of : (h : List Entry) (a : Admitted) (l : List Admitted) → AreTheirs h l → In a l → a.mine ≡ calls_of h a.who
theirs_of h a [] t i = absurd i
theirs_of h a (b ∷ more) t (inl e) = subst (λ (x : Admitted). x.mine ≡ calls_of h x.who) (sym e) t.0
theirs_of h a (b ∷ more) t (inr i) = theirs_of h a more t.1 i

-- the first with a number is the one with it
found : (a : Admitted) (l : List Admitted) → In a l → times a.who (numbers_of l) ≤ 1 → cuts_among l a.who ≡ a.cuts
found a [] i once = absurd i
found a (b ∷ more) (inl e) once = subst (λ (x : Admitted). cuts_among (b ∷ more) x.who ≡ x.cuts) (sym e) (ap (λ (t : Bool). cond t b.cuts (cuts_among more b.who)) (eq-eqb b.who b.who refl))
found a (b ∷ more) (inr i) once =
    let later = listed_number a more i in
    let other : b.who ≢ a.who = λ e. omega (arith, one_same a.who b.who (sym e), once, later) in
    ap (λ (t : Bool). cond t b.cuts (cuts_among more a.who)) (ne_eqb b.who a.who other) ∙ found a more i (omega (arith, once))

-- where there are cuts, some number has one
some_cuts : (l : List Admitted) → 0 < total (λ (a : Admitted). length a.cuts) l → (a : Admitted) × In a l × (a.cuts ≢ [])
some_cuts [] h = absurd (omega (arith, h))
some_cuts (a ∷ more) h = go (some_cuts more) a.cuts refl
  where
    go : (0 < total (λ (x : Admitted). length x.cuts) more → (x : Admitted) × In x more × (x.cuts ≢ [])) → (c : List ℕ) → a.cuts ≡ c → (x : Admitted) × In x (a ∷ more) × (x.cuts ≢ [])
    go f [] e = let r = f (omega (arith, h, ap length e)) in (r.0, inr r.1, r.2)
    go f (n ∷ ns) e = (a, inl refl, λ z. absurd (omega (arith, ap length (sym z ∙ e))))

some_front : (fronts : List Ended) (t : ℕ) → t < length fronts → (f : Ended) × (slice_get fronts t ≡ Some f)
some_front [] t l = absurd (omega (arith, l))
some_front (f ∷ fs) zero l = (f, refl)
some_front (f ∷ fs) (suc t) l = some_front fs t (omega (arith, l))

module _ (v : View) (f : Ended) (pass : Known) (is : pass.view ≡ v) (c : Closes pass f) (passing : v.role ≡ Passing) where
  once : (i : ℕ) → times i (numbers v) ≤ 1
  once i = subst (λ (x : View). times i (numbers x) ≤ 1) is (let k = c.state.kept in omega (arith, k.named.once i, term_le (names i) c.state.views c.state.id pass.view c.state.at))

  below : (i : ℕ) → 0 < times i (numbers v) → i < v.passes
  below i some = subst (λ (x : View). 0 < times i (numbers x) → i < x.passes) is low some
    where
      low : 0 < times i (numbers pass.view) → i < pass.view.passes
      low s = let k = c.state.kept in dite (dec_lt i pass.view.passes) (λ l. l) (λ g. absurd (omega (arith, s, g, k.named.below i (omega (arith, g, c.state.passes_are)), term_le (names i) c.state.views c.state.id pass.view c.state.at)))

  all_numbers : numbers v ≡ v.who ∷ numbers_of v.admitted
  all_numbers = ap (λ r. own_number r v.who ++ numbers_of v.admitted) passing

  -- a number that was admitted
  admitted_once : (a : Admitted) → In a v.admitted → (times a.who (numbers_of v.admitted) ≤ 1) × (v.who ≢ a.who) × (a.who < v.passes)
  admitted_once a i =
      let o = once a.who in let some = listed_number a v.admitted i in
      let sum : times a.who (numbers v) ≡ one_if a.who v.who + times a.who (numbers_of v.admitted) = ap (times a.who) all_numbers in (
        omega (arith, o, sum),
        λ e. omega (arith, o, sum, some, one_same a.who v.who (sym e)),
        below a.who (omega (arith, sum, some)),
      )

  cuts_are : (a : Admitted) → In a v.admitted → cuts_of v a.who ≡ a.cuts
  cuts_are a i = let x = admitted_once a i in ap (λ (t : Bool). cond t v.cuts (cuts_among v.admitted a.who)) (ne_eqb v.who a.who x.1) ∙ found a v.admitted i x.0

  -- some worker made a clone
  has_cut : (kits : ℕ) → v.who + 1 ≡ kits → v.passes ≡ kits → 0 < total (λ (a : Admitted). length a.cuts) v.admitted → (i : ℕ) × (i < kits - 1) × (cuts_of v i ≢ [])
  has_cut kits own passes some =
      let x = some_cuts v.admitted some in let y = admitted_once x.0 x.1 in
      let apart : v.who ≢ x.0.who = y.1 in
      (x.0.who, omega (arith, y.2, own, passes, apart), λ e. x.2 (sym (cuts_are x.0 x.1) ∙ e))

covers_one : (tables : Tables) (loads : Loads) (w : ℕ) (p k : Known) (f : Ended) → Closes k f → SpeaksFor k.view p.view → p.view.who ≡ w → k.view.role ≡ Passing → k.view.rows ≡ tables.rows → k.view.passes ≡ tables.kits
    → k.view.who + 1 ≡ tables.kits → (k.view.cuts ≡ []) ⊎ NotedTheirs k.view → Covers (setting tables loads) w (track w (Some p)) (front_of (Some f))
covers_one tables loads w p k f c sp number passing rows passes own noted =
    subst (λ (l : Known). let e : Ended = record f { last = l } in Covers (setting tables loads) w (track w (Some p)) (front_of (Some e))) (sym c.last) whole
  where
    cuts : cuts_of k.view w ≡ p.view.cuts
    cuts = ap (cuts_of k.view) (sym number) ∙ cuts_are k.view f k refl c passing (admitted_of p.view) sp.listed

    theirs : 0 < p.view.noted.epochs → 0 < total (λ (x : Admitted). length x.cuts) k.view.admitted
    theirs h = elim noted [
      | inl e ↦ omega (arith, h, sp.epochs, c.epochs, ap length e)
      | inr n ↦ omega (arith, h, sp.epochs, n)
    ]

    whole : (let e : Ended = record f { last = k } in Covers (setting tables loads) w (track w (Some p)) (front_of (Some e)))
    whole = record {
      reaches = record {
        seen = sp.seen;
        cuts = begins_is p.view.cuts (cuts_of k.view w) (sym cuts);
        handed = omega (arith, sp.handed, c.handed);
        epochs = λ h. has_cut k.view f k refl c passing tables.kits own passes (theirs h);
        worn = sp.worn;
        rows = omega (arith, c.drawn, rows);
        few = c.few;
      };
      mine = ap (calls_of k.view.seen) (sym number) ∙ sym (theirs_of k.view.seen (admitted_of p.view) k.view.admitted c.knows.theirs sp.listed);
      cuts = cuts;
    }

covers_none : (tables : Tables) (loads : Loads) (w : ℕ) → Covers (setting tables loads) w (track w None) (front_of None)
covers_none tables loads w = record {
  reaches = record { seen = begins_refl []; cuts = begins_refl []; handed = omega arith; epochs = λ h. absurd (omega (arith, h)); worn = λ e. e; rows = omega arith; few = omega arith };
  mine = refl;
  cuts = refl;
}

pub covers_all : (tables : Tables) (loads : Loads) (w : ℕ) (s : SessionState) (kit : List Known) (fronts : List Ended) → AreSeated tables kit → AreSeated tables s.passes → AreClosed kit fronts → Admits kit s.passes → IsCallers tables kit
    → ((t : ℕ) → t < length s.passes → (pass_at s.passes t).view.who ≡ w) → ((t : ℕ) → t < length tables.laid → (k : Known) → k ≡ pass_at kit t → (k.view.rows ≡ tables.rows) × (k.view.passes ≡ tables.kits)) → CoversAll tables loads w s fronts
covers_all tables loads w s kit fronts seated theirs closed admits callers number sizes t = dite (dec_lt t (length s.passes))
    (λ l.
    let there : t < length kit = omega (arith, l, seated.a_pass_each, theirs.a_pass_each) in
    let x = some_front fronts t (omega (arith, there, closed.a_front_each)) in
    let size = sizes t (omega (arith, there, seated.a_pass_each)) (pass_at kit t) refl in
    let sit = seated.each t (omega (arith, there, seated.a_pass_each)) in
    let e : slice_get s.passes t ≡ Some (pass_at s.passes t) = slice_get-get_or s.passes t nobody l in
    subst (λ (o : Option Known). Covers (setting tables loads) w (track w o) (fronts_of fronts t)) (sym e)
    (subst (λ (o : Option Ended). Covers (setting tables loads) w (track w (Some (pass_at s.passes t))) (front_of o)) (sym x.1)
    (covers_one tables loads w (pass_at s.passes t) (pass_at kit t) x.0 (closed.each t x.0 x.1) (admits t l) (number t l) sit.passing size.0 size.1 (callers.last t there) (elim (callers.noted t there) [ inl e ↦ inl e | inr z ↦ inr (let y = z.1 in y.theirs) ]))))
    (λ g.
    let e : slice_get s.passes t ≡ None = slice_get_past s.passes t (omega (arith, g)) in
    let e2 : slice_get fronts t ≡ None = slice_get_past fronts t (omega (arith, g, closed.a_front_each, seated.a_pass_each, theirs.a_pass_each)) in
    subst (λ (o : Option Known). Covers (setting tables loads) w (track w o) (fronts_of fronts t)) (sym e)
    (subst (λ (o : Option Ended). Covers (setting tables loads) w (track w None) (front_of o)) (sym e2) (covers_none tables loads w)))

-- a number for which nobody speaks made no clone
none_among : (l : List Admitted) (i : ℕ) → times i (numbers_of l) ≡ 0 → cuts_among l i ≡ []
none_among [] i z = refl
none_among (a ∷ more) i z = ap (λ (t : Bool). cond t a.cuts (cuts_among more i)) (ne_eqb a.who i (λ e. omega (arith, z, one_same i a.who (sym e)))) ∙ none_among more i (omega (arith, z))

none_cut : (v : View) (i : ℕ) → v.who ≢ i → times i (numbers_of v.admitted) ≡ 0 → cuts_of v i ≡ []
none_cut v i n z = ap (λ (t : Bool). cond t v.cuts (cuts_among v.admitted i)) (ne_eqb v.who i n) ∙ none_among v.admitted i z

only_one : (kits t : ℕ) (k : Known) (f : Ended) → Closes k f → k.view.role ≡ Passing → k.view.passes ≡ kits → k.view.who + 1 ≡ kits → k.view.mine ≡ [] → (k.view.cuts ≡ []) ⊎ ((t ≡ 0) × HasFinal k.view) → IsFrontOfWorkers (kits - 1) t (front_of (Some f))
only_one kits t k f c passing passes own silent noted = subst (λ (l : Known). let e : Ended = record f { last = l } in IsFrontOfWorkers (kits - 1) t (front_of (Some e))) (sym c.last) whole
  where
    none : (i : ℕ) → kits ≤ i → times i (numbers k.view) ≡ 0
    none i l = dite (dec_lt 0 (times i (numbers k.view))) (λ s. absurd (omega (arith, l, passes, below k.view f k refl c passing i s))) (λ g. omega (arith, g))

    number : k.view.who ≡ kits - 1
    number = omega (arith, own)

    own_cuts : cuts_of k.view (kits - 1) ≡ k.view.cuts
    own_cuts = ap (λ (b : Bool). cond b k.view.cuts (cuts_among k.view.admitted (kits - 1))) (eq-eqb k.view.who (kits - 1) number)

    whole : (let e : Ended = record f { last = k } in IsFrontOfWorkers (kits - 1) t (front_of (Some e)))
    whole = record {
      entries = λ i l. dite (ℕ_discrete i (kits - 1))
          (λ e. ap (calls_of k.view.seen) (e ∙ sym number) ∙ sym c.knows.mine ∙ silent)
          (λ n. c.knows.others i (none i (omega (arith, l, n, own))));
      cuts = λ i l. let z = none i (omega (arith, l, own)) in none_cut k.view i (λ e. omega (arith, l, own, e)) (omega (arith, z, ap (times i) (all_numbers k.view f k refl c passing)));
      final = elim noted [ inl e ↦ inl (own_cuts ∙ e) | inr z ↦ inr (z.0, own_cuts ∙ (let y = z.1 in y.one)) ];
    }

pub only_workers : (tables : Tables) (kit : List Known) (fronts : List Ended) → AreTables tables → AreSeated tables kit → AreClosed kit fronts → IsCallers tables kit → (t : ℕ) → IsFrontOfWorkers (tables.kits - 1) t (fronts_of fronts t)
only_workers tables kit fronts ok seated closed callers t = dite (dec_lt t (length kit))
    (λ l.
    let x = some_front fronts t (omega (arith, l, closed.a_front_each)) in
    let lt : t < length tables.laid = omega (arith, l, seated.a_pass_each) in
    let sit = seated.each t lt in
    subst (λ (o : Option Ended). IsFrontOfWorkers (tables.kits - 1) t (front_of o)) (sym x.1)
    (only_one tables.kits t (pass_at kit t) x.0 (closed.each t x.0 x.1) sit.passing (sit.of.2 ∙ ok.passes_are t lt) (callers.last t l) (callers.silent t l) (callers.noted t l)))
    (λ g. subst (λ (o : Option Ended). IsFrontOfWorkers (tables.kits - 1) t (front_of o)) (sym (slice_get_past fronts t (omega (arith, g, closed.a_front_each)))) (record { entries = λ i l. refl; cuts = λ i l. refl; final = inl refl }))
