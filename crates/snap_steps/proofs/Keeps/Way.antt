-- A reader's loads keep the rule.
use Rattle.std.proofs.Common.{◌≡◌, ℕ, [], get_or, sym, refl, ap, subst, arith, List, ◌≢◌, ◌<◌, ◌%◌, cond, eqb, nat_lt, Bool, true, false, eqb-true, zero, suc, ◌≤◌, ◌∙◌, ◌⊎◌, inl, inr, ◌==◌}
use Rattle.std.proofs.lemmas.Bool.{cond_both}
use Rattle.std.proofs.lemmas.Bool.Decides.{nat_tests}
use mathlib.Core.Logic.{dite}
use native.Mathlib.Decide.{ℕ_discrete}
use Rattle.atomic_table.specs.Table.{step, keeps, Allows}
use Rattle.snap_model.specs.History.{Begins}
use Rattle.snap_model.specs.declared.call.Entry.{Entry}
use Rattle.snap_rule.proofs.Readers.Ends.{row_confirmed, key_differs, key_matches, none_confirmed, value_loaded, none_answered}
use Rattle.snap_rule.proofs.Readers.Loads.{way_starts, link_none, link_found, stamp_loaded}
use Rattle.snap_rule.proofs.Readers.Second.{link_again}
use Rattle.snap_rule.specs.Reader.{ReaderOk, PointOk}
use Rattle.snap_rule.specs.Rule.{TableOk}
use Rattle.snap_rule.specs.State.{State as Table, Beside, In}
use Rattle.snap_rule.specs.Tree.{value_of}
use Rattle.snap_rule.specs.Views.{ReadingOk}
use Rattle.snap_rule.specs.declared.reader.Point.{Point}
use Rattle.snap_rule.specs.declared.reader.Point.TheVariants.{Standing, NoLink, Linked, Stamped, Relinked, Confirmed, ConfirmedNone, Matched}
use Rattle.snap_rule.specs.declared.reader.Reading.TheVariants.{On, Resting}
use Rattle.snap_stamp.specs.Layout.{word_at}
use Rattle.snap_stamp.specs.declared.layout.Field.{Field}
use Rattle.snap_stamp.specs.declared.layout.Field.TheVariants.{Key}
use Rattle.snap_stamp.specs.declared.side.Side.{Side}
use Rattle.snap_steps.specs.Counting.{Among}
use Rattle.snap_steps.specs.States.{state_of, link_field}
use Rattle.snap_steps.specs.Steps.Header.{word_noted}
use Rattle.snap_steps.specs.Steps.Way.{set_out_for, begun_again, way_begun_again, goes_on, led_by, comes_to, way_begun, next_point, IsNext, BoundAt, last_point, read_on, next_read, Answers, IsLast, settled_at, ends_at, HasAnswer, answer_read}
use Rattle.snap_steps.specs.Roles.{is_counted, is_live}
use Rattle.snap_steps.specs.Rule.History.{AllBegin}
use Rattle.snap_steps.specs.declared.view.View.{View}
use Rattle.snap_steps.specs.declared.view.WordNote.TheVariants.{Done}
use Rattle.snap_steps.specs.declared.view.Role.TheVariants.{Passing}
use Rattle.snap_steps.specs.declared.rule.About.{About}
use Rattle.snap_steps.proofs.Prefixes.{begins_itself}
use Rattle.snap_steps.proofs.Notes.{header_more}
use Rattle.snap_steps.proofs.Memories.{done_is}
use Rattle.snap_steps.proofs.Classes.Turning.{Rule}
use Rattle.snap_steps.specs.Steps.Told.{Sat}
use Rattle.snap_steps.proofs.Classes.Seeing.{seeing}
use Rattle.snap_steps.proofs.Parts.Places.{place_goes}
use Rattle.snap_steps.specs.Memory.{Memory, field, row}
use Rattle.snap_steps.specs.Rule.Ways.{AllLinked, IsOnWay}
use Rattle.snap_steps.proofs.Reached.{in_append}
use Rattle.snap_steps.proofs.Cells.{cell_is}
use Rattle.snap_steps.proofs.Tables.{in_times}
use Rattle.snap_steps.proofs.Histories.{legal_begin, of_between}
use mathlib.Core.Option as maybe
use Rattle.snap_stamp.specs.declared.side.Side.TheVariants as sides

-- `set_out`: a load of `done`, by which a way begins
pub sets_out : (about : About) (slots id : ℕ) (me : Sat) (key : ℕ) → me.0.role ≡ Passing → me.0.joined ≡ [] → Allows (Rule about) slots id me 3 (λ n. n) (way_begun key (step slots 3 0 0 maybe.none) me)
sets_out about slots id me key passing alone s k wide at small =
    let v : View = me.0 in let r : ℕ = get_or s.words 3 0 in let is : r ≡ k.m.done = done_is k.memory in let w : View = set_out_for (word_noted v (Done r)) k.g.history key in
    let own = (k.history.mine id v at).0 (ap is_counted passing) in let seen = (k.history.seen id v at).0 in
    let start = way_starts (state_of k.m k.g) k.g.history key (begins_itself k.g.history) in (
      w,
      keeps,
      tt,
      seeing about s.words s.views k 3 id v w at (k.known id v at) (k.reached id v at) start.at_point tt (k.present id v at) (header_more k.m.next k.m.epoch v (Done r) (k.notes id v at) tt) (k.worn id v at) (k.lasting id v at) seen (begins_itself k.g.history) (subst (λ l. AllBegin l k.g.history) (sym alone) tt),
      (refl, k.g.history, record { goes_on = seen; legal = k.history.legal; own = sym own.0 }, omega (arith, k.counted.all), refl),
    )

-- `set_out_again`: a load of any word, by which a way begins with no more seen
pub sets_out_again : (about : About) (slots id : ℕ) (me : Sat) (key i : ℕ) → Allows (Rule about) slots id me i (λ n. n) (way_begun_again key (step slots i 0 0 maybe.none) me)
sets_out_again about slots id me key i s k wide at small =
    let v : View = me.0 in let w : View = begun_again v key in let seen = k.history.seen id v at in
    let start = way_starts (state_of k.m k.g) v.seen key seen.0 in (
      w,
      keeps,
      tt,
      seeing about s.words s.views k i id v w at (k.known id v at) (k.reached id v at) start.at_point tt (k.present id v at) (k.notes id v at) (k.worn id v at) (k.lasting id v at) (begins_itself v.seen) seen.0 seen.1,
      refl,
    )

-- the word that a reader at this point loads
abbrev pub word_of : Memory → ℕ → Field → ℕ
word_of m r f = field f (row m.rows r)

module _ (m : Memory) (g : Beside) (ok : TableOk (state_of m g)) (seen : List Entry) (k : ℕ) (begins : Begins seen g.history) where
  s : Table
  s = state_of m g

  at_point : (t : Point) → PointOk (state_of m g) seen k t → ReaderOk (state_of m g) seen k t
  at_point t h = record { begins = begins; at_point = h }

  pub steps_on : (t : Point) (r : ℕ) (f : Field) (x : ℕ) → PointOk (state_of m g) seen k t → IsNext t r f → word_of m r f ≡ x → ReadingOk (state_of m g) seen (next_point k t x)
  steps_on (Standing n v d) r f zero h at is = (link_none (state_of m g) ok.tree ok.links ok.changes seen k n v d (at_point (Standing n v d) h) (there d at is)).at_point
    where
      there : {x : ℕ} (d : Side) → (r ≡ n) × (f ≡ link_field d) → word_of m r f ≡ x → word_of m n (link_field d) ≡ x
      there d at is = (λ i. word_of m (sym at.0 i) (sym at.1 i)) ∙ is
  steps_on (Standing n v d) r f (suc c) h at is = (link_found (state_of m g) ok.tree ok.links ok.changes seen k n v (suc c) d (at_point (Standing n v d) h) ((λ i. word_of m (sym at.0 i) (sym at.1 i)) ∙ is) (λ z. omega (arith, z))).at_point
  steps_on (NoLink n v d) r f x h at is = absurd at
  steps_on (Linked n v d c) r f x h at is = go (eqb (x % 4) 0) refl
    where
      go : (b : Bool) → eqb (x % 4) 0 ≡ b → ReadingOk (state_of m g) seen (cond b (On k (Stamped n v d c x)) (On k (Standing 0 0 sides.Right)))
      go true e = (stamp_loaded (state_of m g) seen k n v c x d (at_point (Linked n v d c) h) ((λ i. word_of m (sym at.0 i) (sym at.1 i)) ∙ is) (eqb-true (x % 4) 0 e)).at_point
      go false e = (way_starts (state_of m g) seen k begins).at_point
  steps_on (Stamped n v d c w) r f x h at is = go (eqb x c) refl
    where
      go : (b : Bool) → eqb x c ≡ b → ReadingOk (state_of m g) seen (cond b (On k (Relinked n v c w)) (On k (Standing 0 0 sides.Right)))
      go true e = (link_again (state_of m g) ok.tree ok.links ok.sharing ok.changes seen k n v c w d (at_point (Stamped n v d c w) h) ((λ i. word_of m (sym at.0 i) (sym at.1 i)) ∙ is ∙ eqb-true x c e)).at_point
      go false e = (way_starts (state_of m g) seen k begins).at_point
  steps_on (Relinked n v c w) r f x h at is = go (eqb x v) refl
    where
      go : (b : Bool) → eqb x v ≡ b → ReadingOk (state_of m g) seen (cond b (On k (Confirmed c w)) (On k (Standing 0 0 sides.Right)))
      go true e = (row_confirmed (state_of m g) seen k n v c w (at_point (Relinked n v c w) h) ((λ i. word_of m (sym at.0 i) (sym at.1 i)) ∙ is ∙ eqb-true x v e)).at_point
      go false e = (way_starts (state_of m g) seen k begins).at_point
  steps_on (Confirmed c w) r f x h at is = go (eqb x k) refl
    where
      key : word_of m c Key ≡ x
      key = (λ i. word_of m (sym at.0 i) (sym at.1 i)) ∙ is

      other : (b : Bool) → nat_lt k x ≡ b → x ≢ k → ReadingOk (state_of m g) seen (On k (Standing c w (cond b sides.Left sides.Right)))
      other true e ne = let l : k < x = grind (arith, nat_tests) in (key_differs (state_of m g) ok.links seen k c w sides.Left (at_point (Confirmed c w) h) (omega (arith, key))).at_point
      other false e ne = let l : x ≤ k = grind (arith, nat_tests) in let l' : x < k = omega arith in (key_differs (state_of m g) ok.links seen k c w sides.Right (at_point (Confirmed c w) h) (omega (arith, key))).at_point

      go : (b : Bool) → eqb x k ≡ b → ReadingOk (state_of m g) seen (cond b (On k (Matched c)) (On k (Standing c w (cond (nat_lt k x) sides.Left sides.Right))))
      go true e = (key_matches (state_of m g) seen k c w (at_point (Confirmed c w) h) (key ∙ eqb-true x k e)).at_point
      go false e = let ne : x ≢ k = grind (arith, nat_tests) in other (nat_lt k x) refl ne
  steps_on ConfirmedNone r f x h at is = absurd at
  steps_on (Matched c) r f x h at is = absurd at

-- a link leads to a row that was linked
pub bounds : (m : Memory) (g : Beside) → TableOk (state_of m g) → (rows : ℕ) (seen : List Entry) (k : ℕ) (t : Point) (r : ℕ) (f : Field) (x : ℕ) → ((y : ℕ) → In y g.linked → y ≤ rows) → PointOk (state_of m g) seen k t → IsNext t r f → word_of m r f ≡ x → BoundAt rows (On k t) x
bounds m g ok rows seen k (Standing n v d) r f x low h at is = go (ok.links.links n d h.stamp.reached)
  where
    word : word_of m n (link_field d) ≡ x
    word = (λ i. word_of m (sym at.0 i) (sym at.1 i)) ∙ is

    go : (word_of m n (link_field d) ≡ 0) ⊎ In (word_of m n (link_field d)) g.linked → x ≤ rows
    go (inl z) = omega (arith, z, word)
    go (inr q) = let l = low (word_of m n (link_field d)) q in omega (arith, l, word)
bounds m g ok rows seen k (NoLink n v d) r f x low h at is = tt
bounds m g ok rows seen k (Linked n v d c) r f x low h at is = tt
bounds m g ok rows seen k (Stamped n v d c w) r f x low h at is = tt
bounds m g ok rows seen k (Relinked n v c w) r f x low h at is = tt
bounds m g ok rows seen k (Confirmed c w) r f x low h at is = tt
bounds m g ok rows seen k ConfirmedNone r f x low h at is = tt
bounds m g ok rows seen k (Matched c) r f x low h at is = tt

-- so does a link that a reader found
pub comes_in : (m : Memory) (g : Beside) → TableOk (state_of m g) → (seen : List Entry) (k : ℕ) (t : Point) (r : ℕ) (f : Field) (x : ℕ) → PointOk (state_of m g) seen k t → IsNext t r f → word_of m r f ≡ x → AllLinked g.linked (led_by t x)
comes_in m g ok seen k (Standing n v d) r f zero h at is = tt
comes_in m g ok seen k (Standing n v d) r f (suc c) h at is = (go (ok.links.links n d h.stamp.reached), tt)
  where
    word : word_of m n (link_field d) ≡ suc c
    word = (λ i. word_of m (sym at.0 i) (sym at.1 i)) ∙ is

    go : (word_of m n (link_field d) ≡ 0) ⊎ In (word_of m n (link_field d)) g.linked → Among (suc c) g.linked
    go (inl z) = absurd (omega (arith, z, word))
    go (inr q) = in_times (suc c) g.linked (subst (λ (y : ℕ). In y g.linked) word q)
comes_in m g ok seen k (NoLink n v d) r f x h at is = tt
comes_in m g ok seen k (Linked n v d c) r f x h at is = tt
comes_in m g ok seen k (Stamped n v d c w) r f x h at is = tt
comes_in m g ok seen k (Relinked n v c w) r f x h at is = tt
comes_in m g ok seen k (Confirmed c w) r f x h at is = tt
comes_in m g ok seen k ConfirmedNone r f x h at is = tt
comes_in m g ok seen k (Matched c) r f x h at is = tt

pub lasts : (s : Table) (h : List Entry) (k : ℕ) → Begins h s.history → (t : Point) (x : ℕ) → ReadingOk s h (last_point k t x)
lasts s h k b (Standing n v d) x = tt
lasts s h k b (NoLink n v d) x = cond_both (x == v) Resting (On k (Standing 0 0 sides.Right)) (ReadingOk s h) (λ e. tt) (λ e. (way_starts s h k b).at_point)
lasts s h k b (Linked n v d c) x = tt
lasts s h k b (Stamped n v d c w) x = tt
lasts s h k b (Relinked n v c w) x = tt
lasts s h k b (Confirmed c w) x = tt
lasts s h k b ConfirmedNone x = tt
lasts s h k b (Matched c) x = tt

-- `load_next_word`
pub reads_on : (about : About) (slots id : ℕ) (me : Sat) (r : ℕ) (f : Field) (key : ℕ) (point : Point) → r ≤ about.rows → me.0.role ≡ Passing → me.0.way.reads ≡ On key point → IsNext point r f → Allows (Rule about) slots id me (word_at r f) (λ n. n) (next_read (step slots (word_at r f) 0 0 maybe.none) me)
reads_on about slots id me r f key point low passing stands next s k wide at small =
    let v : View = me.0 in let found : ℕ = get_or s.words (word_at r f) 0 in let is : found ≡ field f (row k.m.rows r) = cell_is k.memory r f low in let w : View = read_on v found in
    let seen = k.history.seen id v at in let way : PointOk (state_of k.m k.g) v.seen key point = subst (ReadingOk (state_of k.m k.g) v.seen) stands (k.ways id v at) in
    let after : IsOnWay (state_of k.m k.g) w = subst (λ y. ReadingOk (state_of k.m k.g) v.seen (goes_on y found)) (sym stands) (steps_on k.m k.g k.table v.seen key seen.0 point r f found way next (sym is)) in
    let come : AllLinked k.g.linked (comes_to v.way.reads found) = subst (λ y. AllLinked k.g.linked (comes_to y found)) (sym stands) (comes_in k.m k.g k.table v.seen key point r f found way next (sym is)) in
    let reached : AllLinked k.g.linked w.trail.reached = in_append k.g.linked v.trail.reached (comes_to v.way.reads found) (k.reached id v at) come in
    (w, keeps, tt, seeing about s.words s.views k (word_at r f) id v w at (k.known id v at) reached after (place_goes (state_of k.m k.g) v.seen v.way.reads v.way.place (k.ways id v at) (k.places id v at)) (k.present id v at) (k.notes id v at) (k.worn id v at) (k.lasting id v at) (begins_itself v.seen) seen.0 seen.1, (refl, subst (λ y. BoundAt v.rows y found) (sym stands) (bounds k.m k.g k.table v.rows v.seen key point r f found (λ y is_there. let l = k.apart.low y (in_times y k.g.linked is_there) in let a = (k.about_known id v at (ap is_live passing)).0 in let top = k.memory.room in omega (arith, l.1)) way next (sym is))))

-- what the reader's last word tells: a history between what the pass has seen and the whole
pub record Answered (v log : List Entry) (k : ℕ) (t : Point) (x : ℕ) : Type 0 where
  pub moment : List Entry
  pub from : Begins v moment
  pub to : Begins moment log
  pub tells : Answers k t x moment

pub answers : (m : Memory) (g : Beside) (seen : List Entry) (k : ℕ) (t : Point) (r : ℕ) (f : Field) (x : ℕ) → Begins seen g.history → PointOk (state_of m g) seen k t → IsLast t r f → word_of m r f ≡ x → Answered seen g.history k t x
answers m g seen k (Standing n v d) r f x b h at is = absurd at
answers m g seen k (NoLink n v d) r f x b h at is =
    dite (ℕ_discrete x v) (λ e. let a = none_answered (state_of m g) seen k (none_confirmed (state_of m g) seen k n v d (record { begins = b; at_point = h }) ((λ i. word_of m (sym at.0 i) (sym at.1 i)) ∙ is ∙ e)) in
    record { moment = a.moment; from = a.later; to = a.made; tells = λ _. sym a.holds })
    (λ ne. record { moment = seen; from = begins_itself seen; to = b; tells = λ e. absurd (ne e) })
answers m g seen k (Linked n v d c) r f x b h at is = absurd at
answers m g seen k (Stamped n v d c w) r f x b h at is = absurd at
answers m g seen k (Relinked n v c w) r f x b h at is = absurd at
answers m g seen k (Confirmed c w) r f x b h at is = absurd at
answers m g seen k ConfirmedNone r f x b h at is = absurd at
answers m g seen k (Matched c) r f x b h at is =
    let a = value_loaded (state_of m g) seen k c (record { begins = b; at_point = h }) in
    record { moment = a.moment; from = a.later; to = a.made; tells = ap value_of (sym is ∙ (λ i. word_of m (at.0 i) (at.1 i))) ∙ a.holds }

-- `load_last_word`
pub reads_last : (about : About) (slots id : ℕ) (me : Sat) (r : ℕ) (f : Field) (key : ℕ) (point : Point) → r ≤ about.rows → me.0.role ≡ Passing → me.0.joined ≡ [] → me.0.way.reads ≡ On key point → IsLast point r f → Allows (Rule about) slots id me (word_at r f) (λ n. n) (answer_read (step slots (word_at r f) 0 0 maybe.none) me)
reads_last about slots id me r f key point low passing alone stands last s k wide at small =
    let v : View = me.0 in let found : ℕ = get_or s.words (word_at r f) 0 in let is : found ≡ field f (row k.m.rows r) = cell_is k.memory r f low in
    let seen = k.history.seen id v at in let own = (k.history.mine id v at).0 (ap is_counted passing) in
    let way : PointOk (state_of k.m k.g) v.seen key point = subst (ReadingOk (state_of k.m k.g) v.seen) stands (k.ways id v at) in
    let t = answers k.m k.g v.seen key point r f found seen.0 way last (sym is) in let h : List Entry = t.moment in (
      settled_at v h found,
      keeps,
      tt,
      seeing about s.words s.views k (word_at r f) id v (settled_at v h found) at (k.known id v at) (k.reached id v at) (subst (λ y. ReadingOk (state_of k.m k.g) h (ends_at y found)) (sym stands) (lasts (state_of k.m k.g) h key t.to point found)) (k.places id v at) (k.present id v at) (k.notes id v at) (k.worn id v at) (k.lasting id v at) t.from t.to seen.1,
      (
        h,
        record { goes_on = t.from; legal = legal_begin h k.g.history t.to k.history.legal; own = of_between v.seen h k.g.history v.who t.from t.to own.1 ∙ sym own.0 },
        refl,
        subst (λ y. HasAnswer y found h) (sym stands) t.tells,
      ),
    )
