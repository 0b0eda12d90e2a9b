-- The loads of a call that never waits keep the rule.
use Rattle.snap_steps.proofs.Parts.Debts.{owed_itself}
use Rattle.std.proofs.Common.{◌≡◌, ◌≢◌, ◌∙◌, ℕ, ◌+◌, ◌/◌, ◌%◌, ◌^◌, ◌<◌, ◌≤◌, ◌⊎◌, cond, nat_lt, eqb, Bool, true, false, inl, inr, List, [], ◌∷◌, get_or, refl, sym, ap, subst, arith}
use Rattle.std.proofs.lemmas.Bool.Decides.{nat_tests}
use Rattle.std.specs.List.{AllByRecursion as Every}
use Rattle.atomic_table.specs.Table.{step, keeps, Allows}
use Rattle.snap_model.specs.declared.call.Entry.{Entry}
use Rattle.snap_rule.proofs.Calm.{calm_begins, calm_row, trouble_tells}
use Rattle.snap_rule.proofs.Quiet.{quiet_begins, quiet_loads}
use Rattle.snap_rule.specs.Quiescence.{CalmOk, IsCalm, IsSo, QuietOk, word}
use Rattle.snap_rule.specs.Reader.{PointOk}
use Rattle.snap_rule.specs.Rule.{TableOk}
use Rattle.snap_rule.specs.State.{State as Table, Beside, In}
use Rattle.snap_rule.specs.Views.{ReadingOk, TryingOk}
use Rattle.snap_rule.specs.declared.quiescence.Load.{Load}
use Rattle.snap_rule.specs.declared.quiescence.Trying.TheVariants.{Idle, Since, Troubled}
use Rattle.snap_rule.specs.declared.reader.Point.{Point}
use Rattle.snap_rule.specs.declared.reader.Point.TheVariants.{Standing, NoLink, Linked, Stamped, Relinked, Confirmed, ConfirmedNone, Matched}
use Rattle.snap_rule.specs.declared.reader.Reading.TheVariants.{On}
use Rattle.snap_stamp.specs.Layout.{word_at}
use Rattle.snap_stamp.specs.declared.layout.Field.{Field}
use Rattle.snap_stamp.specs.declared.layout.Field.TheVariants.{Key, Birth, Stamp, Lock, Height, Left, Right, Value}
use Rattle.snap_stamp.specs.declared.side.Side.TheVariants as sides
use Rattle.snap_steps.specs.Memory.{Memory, field, row}
use Rattle.snap_steps.specs.Roles.{is_counted, is_live}
use Rattle.snap_steps.specs.Rule.Notes.{IsTrueOfHeader, KnowsHeader}
use Rattle.snap_steps.specs.Rule.Tries.{KnowsTry}
use Rattle.snap_steps.specs.Rule.Ways.{AllLinked, IsOnWay}
use Rattle.snap_steps.specs.States.{link_field, state_of}
use Rattle.snap_steps.specs.Steps.Told.{Sat}
use Rattle.snap_steps.specs.Steps.Trying.{load, try_begun, is_trouble, goes_past, tries_on, meets_trouble, trouble_noted, tried_on, tried_last, busy_seen, Along, IsTrying, try_begins, next_tried, answer_tried, busy_told}
use Rattle.snap_steps.specs.Steps.Way.{goes_on, comes_to, ends_at, BoundAt, HasAnswer, IsLast, IsNext}
use Rattle.snap_steps.specs.declared.rule.About.{About}
use Rattle.snap_steps.specs.declared.view.Role.TheVariants.{Passing}
use Rattle.snap_steps.specs.declared.view.View.{View}
use Rattle.snap_steps.specs.declared.view.WordNote.TheVariants as notes
use Rattle.snap_steps.proofs.Cells.{cell_is}
use Rattle.snap_steps.proofs.Classes.Seeing.{trying}
use Rattle.snap_steps.proofs.Parts.Places.{place_goes}
use Rattle.snap_steps.proofs.Classes.Turning.{Rule}
use Rattle.snap_steps.proofs.Histories.{legal_begin, of_between}
use Rattle.snap_steps.proofs.Keeps.Way.{word_of, steps_on, comes_in, bounds, lasts, answers}
use Rattle.snap_steps.proofs.Memories.{gate_is, left_is}
use Rattle.snap_steps.proofs.Notes.{header_more}
use Rattle.snap_steps.proofs.Parts.Marks.{none_writes}
use Rattle.snap_steps.proofs.Prefixes.{begins_itself}
use Rattle.snap_steps.proofs.Reached.{in_append}
use Rattle.snap_steps.proofs.Tables.{in_times}
use mathlib.Core.Option.{none}

-- `begin_try`
pub begins : (about : About) (slots id : ℕ) (me : Sat) → Allows (Rule about) slots id me 2 (λ n. n) (try_begins (step slots 2 0 0 none) me)
begins about slots id me s k wide at small =
    let v : View = me.0 in let r : ℕ = get_or s.words 2 0 in let is : r ≡ k.m.left = left_is k.memory in let st : Table = state_of k.m k.g in
    let child : ℕ = st.link 0 sides.Right in let w : View = try_begun v r child in let seen = k.history.seen id v at in
    let first = quiet_loads st k.m.left 0 Stamp [] (inl refl) (quiet_begins st k.table.counts) in
    let zero : QuietOk st k.m.left (load 0 Stamp 0 ∷ []) = subst (λ (x : ℕ). QuietOk st k.m.left (load 0 Stamp x ∷ [])) k.table.links.zero_stamp first in
    let quiet : QuietOk st k.m.left (load 0 Right child ∷ load 0 Stamp 0 ∷ []) = quiet_loads st k.m.left 0 Right (load 0 Stamp 0 ∷ []) (inl refl) zero in
    let calm : CalmOk st k.m.left 0 (2 ^ 64) child = calm_begins st k.table.tree k.table.changes (none_writes k) k.table.counts.entered in
    let known : KnowsTry st w = subst (λ (x : ℕ). TryingOk st (Since x (load 0 Right child ∷ load 0 Stamp 0 ∷ []) 0 (2 ^ 64) child)) (sym is) (quiet, calm) in (
      w,
      keeps,
      tt,
      trying about s.words s.views k 2 id v w at (k.known id v at) (k.reached id v at) (k.ways id v at) (k.places id v at) (k.present id v at) (header_more k.m.next k.m.epoch v (notes.Left r) (k.notes id v at) tt) (k.worn id v at) (k.lasting id v at) known (k.heights id v at) (k.debts id v at) (λ _ ok. owed_itself s.views id v at (state_of k.m k.g) ok) (begins_itself v.seen) seen.0 seen.1,
      (refl, child, refl),
    )

every_in : (P : Load → Type 0) (l : List Load) (x : Load) → In x l → Every P l → P x
every_in P [] x there h = absurd there
every_in P (y ∷ l) x (inl e) h = subst P (sym e) h.0
every_in P (y ∷ l) x (inr there) h = every_in P l x there h.1

word_here : (m : Memory) (g : Beside) (r : ℕ) (f : Field) → word (state_of m g) r f ≡ word_of m r f
word_here m g r Key = refl
word_here m g r Birth = refl
word_here m g r Stamp = refl
word_here m g r Lock = refl
word_here m g r Height = refl
word_here m g r Left = refl
word_here m g r Right = refl
word_here m g r Value = refl

-- what is known after a load: that of a word which is no trouble, or that a write was entered
module _ (m : Memory) (g : Beside) (ok : TableOk (state_of m g)) (seen : List Entry) (k e low high c : ℕ) (l : List Load) (quiet : QuietOk (state_of m g) e l) (calm : CalmOk (state_of m g) e low high c) where
  -- the word is another than was loaded
  differs : (r : ℕ) (f : Field) (x y : ℕ) → In (load r f x) l → word_of m r f ≡ y → y ≢ x → e < m.gate / 2
  differs r f x y there is ne = (trouble_tells (state_of m g) e l quiet).0 (load r f x) there (λ q. ne (sym is ∙ sym (word_here m g r f) ∙ q))

  more : (r : ℕ) (f : Field) (x : ℕ) → (r ≡ 0) ⊎ In r g.linked → word_of m r f ≡ x → QuietOk (state_of m g) e (load r f x ∷ l)
  more r f x was is = subst (λ (y : ℕ). QuietOk (state_of m g) e (load r f y ∷ l)) (word_here m g r f ∙ is) (quiet_loads (state_of m g) e r f l was quiet)

  is_row : (n : ℕ) → c ≡ n → In n g.linked → c ≢ 0
  is_row n same was z = ok.links.no_zero (subst (λ (i : ℕ). In i g.linked) (sym same ∙ z) was)

  -- the bounds once the key of a child was loaded
  past : (n x : ℕ) → c ≡ n → In n g.linked → word_of m n Key ≡ x → (a b d : Bool) → nat_lt x low ≡ a → nat_lt x high ≡ b
      → (y : ℕ) × TryingOk (state_of m g) (cond (cond a true (cond b false true)) (Troubled e) (cond d (Since e (load n Left y ∷ l) low x y) (Since e (load n Right y ∷ l) (x + 1) high y)))
  past n x same was is true b d under over = (0, (trouble_tells (state_of m g) e l quiet).1 low high c calm (is_row n same was) (inr (inl (let key : word_of m c Key ≡ x = ap (λ (i : ℕ). word_of m i Key) same ∙ is in let less : x < low = grind (arith, nat_tests) in omega (arith, key, less)))))
  past n x same was is false false d under over = (0, (trouble_tells (state_of m g) e l quiet).1 low high c calm (is_row n same was) (inr (inr (let key : word_of m c Key ≡ x = ap (λ (i : ℕ). word_of m i Key) same ∙ is in let most : high ≤ x = grind (arith, nat_tests) in omega (arith, key, most)))))
  past n x same was is false true true under over = (
    word_of m n Left,
    (
      more n Left (word_of m n Left) (inr was) refl,
      λ now. let r = calm_row (state_of m g) low high c (is_row n same was) (calm now) in
          subst (λ (y : ℕ). IsCalm (state_of m g) low y (word_of m n Left)) (ap (λ (i : ℕ). word_of m i Key) same ∙ is) (subst (λ (i : ℕ). IsCalm (state_of m g) low (word_of m c Key) (word_of m i Left)) same r.on_left),
    ),
  )
  past n x same was is false true false under over = (
    word_of m n Right,
    (
      more n Right (word_of m n Right) (inr was) refl,
      λ now. let r = calm_row (state_of m g) low high c (is_row n same was) (calm now) in
          subst (λ (y : ℕ). IsCalm (state_of m g) (y + 1) high (word_of m n Right)) (ap (λ (i : ℕ). word_of m i Key) same ∙ is) (subst (λ (i : ℕ). IsCalm (state_of m g) (word_of m c Key + 1) high (word_of m i Right)) same r.on_right),
    ),
  )

  pub goes : (t : Point) (r : ℕ) (f : Field) (x : ℕ) → PointOk (state_of m g) seen k t → IsNext t r f → Along t l c → word_of m r f ≡ x
      → (y : ℕ) × TryingOk (state_of m g) (cond (is_trouble k t low high x) (Troubled e) (goes_past k t e l low high c x y))
  goes (Standing n v d) r f x h at along is = (0, (more n (link_field d) x h.stamp.reached there, λ now. subst (IsCalm (state_of m g) low high) (sym (so now) ∙ there) (calm now)))
    where
      there : word_of m n (link_field d) ≡ x
      there = (λ i. word_of m (sym at.0 i) (sym at.1 i)) ∙ is

      so : m.gate / 2 ≡ e → word_of m n (link_field d) ≡ c
      so now = sym (word_here m g n (link_field d)) ∙ (every_in (IsSo (state_of m g)) l (load n (link_field d) c) along.1 (quiet.quiet now).1).1
  goes (NoLink n v d) r f x h at along is = absurd at
  goes (Linked n v d c') r f x h at along is = (0, go (eqb (x % 4) 0) refl)
    where
      there : word_of m c' Stamp ≡ x
      there = (λ i. word_of m (sym at.0 i) (sym at.1 i)) ∙ is

      go : (b : Bool) → eqb (x % 4) 0 ≡ b → TryingOk (state_of m g) (cond (cond b false true) (Troubled e) (Since e (load c' Stamp x ∷ l) low high c))
      go true q = (more c' Stamp x (inr h.1) there, calm)
      go false q = (trouble_tells (state_of m g) e l quiet).1 low high c calm (is_row c' along.0 h.1) (inl (λ u. let same : word_of m c Stamp ≡ x = ap (λ (i : ℕ). word_of m i Stamp) along.0 ∙ there in let ne : x % 4 ≢ 0 = grind (arith, nat_tests) in ne (ap (λ (y : ℕ). y % 4) (sym same) ∙ u)))
  goes (Stamped n v d c' w) r f x h at along is = (0, go (eqb x c') refl)
    where
      there : word_of m n (link_field d) ≡ x
      there = (λ i. word_of m (sym at.0 i) (sym at.1 i)) ∙ is

      go : (b : Bool) → eqb x c' ≡ b → TryingOk (state_of m g) (cond (cond b false true) (Troubled e) (Since e l low high c))
      go true q = (quiet, calm)
      go false q = let ne : x ≢ c' = grind (arith, nat_tests) in differs n (link_field d) c' x along.2 there ne
  goes (Relinked n v c' w) r f x h at along is = (0, go (eqb x v) refl)
    where
      there : word_of m n Stamp ≡ x
      there = (λ i. word_of m (sym at.0 i) (sym at.1 i)) ∙ is

      go : (b : Bool) → eqb x v ≡ b → TryingOk (state_of m g) (cond (cond b false true) (Troubled e) (Since e l low high c))
      go true q = (quiet, calm)
      go false q = let ne : x ≢ v = grind (arith, nat_tests) in differs n Stamp v x along.1 there ne
  goes (Confirmed c' w) r f x h at along is = go (eqb x k)
    where
      there : word_of m c' Key ≡ x
      there = (λ i. word_of m (sym at.0 i) (sym at.1 i)) ∙ is

      go : (b : Bool)
          → (y : ℕ) × TryingOk (state_of m g) (cond (cond b false (cond (nat_lt x low) true (cond (nat_lt x high) false true))) (Troubled e) (cond b (Since e l low high c) (cond (nat_lt k x) (Since e (load c' Left y ∷ l) low x y) (Since e (load c' Right y ∷ l) (x + 1) high y))))
      go true = (0, (quiet, calm))
      go false = past c' x along.0 h.0.linked there (nat_lt x low) (nat_lt x high) (nat_lt k x) refl refl
  goes ConfirmedNone r f x h at along is = absurd at
  goes (Matched c') r f x h at along is = absurd at

  pub ends : (t : Point) (r : ℕ) (f : Field) (x : ℕ) → PointOk (state_of m g) seen k t → IsLast t r f → Along t l c → word_of m r f ≡ x
      → TryingOk (state_of m g) (cond (is_trouble k t low high x) (Troubled e) (goes_past k t e l low high c x 0))
  ends (Standing n v d) r f x h at along is = absurd at
  ends (NoLink n v d) r f x h at along is = go (eqb x v) refl
    where
      go : (b : Bool) → eqb x v ≡ b → TryingOk (state_of m g) (cond (cond b false true) (Troubled e) Idle)
      go true q = tt
      go false q = let ne : x ≢ v = grind (arith, nat_tests) in differs n Stamp v x along ((λ i. word_of m (sym at.0 i) (sym at.1 i)) ∙ is) ne
  ends (Linked n v d c') r f x h at along is = absurd at
  ends (Stamped n v d c' w) r f x h at along is = absurd at
  ends (Relinked n v c' w) r f x h at along is = absurd at
  ends (Confirmed c' w) r f x h at along is = absurd at
  ends ConfirmedNone r f x h at along is = absurd at
  ends (Matched c') r f x h at along is = tt

-- a note of trouble
noted_so : (next epoch : ℕ) (v : View) (met : Bool) → KnowsHeader next epoch v → IsTrueOfHeader next epoch (trouble_noted met v.noted.notes) v.noted.handed v.noted.epochs v.base.drawn
noted_so next epoch v true h = header_more next epoch v notes.Trouble h tt
noted_so next epoch v false h = h

-- `try_next_word`
pub tries_next : (about : About) (slots id : ℕ) (me : Sat) (r : ℕ) (f : Field) (key : ℕ) (point : Point) (ended low high : ℕ) → r ≤ about.rows → me.0.role ≡ Passing → IsTrying me.0 key point ended low high → IsNext point r f
    → Allows (Rule about) slots id me (word_at r f) (λ n. n) (next_tried (step slots (word_at r f) 0 0 none) me)
tries_next about slots id me r f key point ended low high near passing call next s k wide at small =
    let v : View = me.0 in let found : ℕ = get_or s.words (word_at r f) 0 in let is : found ≡ field f (row k.m.rows r) = cell_is k.memory r f near in
    let st : Table = state_of k.m k.g in let seen = k.history.seen id v at in
    let way : PointOk st v.seen key point = subst (ReadingOk st v.seen) call.way (k.ways id v at) in
    let so : TryingOk st (Since ended call.loads low high call.child) = subst (TryingOk st) call.call (k.tries id v at) in
    let t = goes k.m k.g k.table v.seen key ended low high call.child call.loads so.0 so.1 point r f found way next call.along (sym is) in
    let w : View = tried_on v found t.0 in
    let tries : KnowsTry st w = subst (λ y. TryingOk st (tries_on y v.tries found t.0)) (sym call.way) (subst (λ y. TryingOk st (tries_on (On key point) y found t.0)) (sym call.call) t.1) in
    let after : IsOnWay st w = subst (λ y. ReadingOk st v.seen (goes_on y found)) (sym call.way) (steps_on k.m k.g k.table v.seen key seen.0 point r f found way next (sym is)) in
    let come : AllLinked k.g.linked (comes_to v.way.reads found) = subst (λ y. AllLinked k.g.linked (comes_to y found)) (sym call.way) (comes_in k.m k.g k.table v.seen key point r f found way next (sym is)) in
    let reached : AllLinked k.g.linked w.trail.reached = in_append k.g.linked v.trail.reached (comes_to v.way.reads found) (k.reached id v at) come in (
      w,
      keeps,
      tt,
      trying about s.words s.views k (word_at r f) id v w at (k.known id v at) reached after (place_goes st v.seen v.way.reads v.way.place (k.ways id v at) (k.places id v at)) (k.present id v at) (noted_so k.m.next k.m.epoch v (meets_trouble v.way.reads v.tries found) (k.notes id v at)) (k.worn id v at) (k.lasting id v at) tries (k.heights id v at) (k.debts id v at) (λ _ ok. owed_itself s.views id v at (state_of k.m k.g) ok) (begins_itself v.seen) seen.0 seen.1,
      (t.0, refl, subst (λ y. BoundAt v.rows y found) (sym call.way) (bounds k.m k.g k.table v.rows v.seen key point r f found (λ y is_there. let l = k.apart.low y (in_times y k.g.linked is_there) in let a = (k.about_known id v at (ap is_live passing)).0 in let top = k.memory.room in omega (arith, l.1)) way next (sym is))),
    )

-- `try_last_word`
pub tries_last : (about : About) (slots id : ℕ) (me : Sat) (r : ℕ) (f : Field) (key : ℕ) (point : Point) (ended low high : ℕ) → r ≤ about.rows → me.0.role ≡ Passing → me.0.joined ≡ [] → IsTrying me.0 key point ended low high → IsLast point r f
    → Allows (Rule about) slots id me (word_at r f) (λ n. n) (answer_tried (step slots (word_at r f) 0 0 none) me)
tries_last about slots id me r f key point ended low high near passing alone call last s k wide at small =
    let v : View = me.0 in let found : ℕ = get_or s.words (word_at r f) 0 in let is : found ≡ field f (row k.m.rows r) = cell_is k.memory r f near in
    let st : Table = state_of k.m k.g in let seen = k.history.seen id v at in let own = (k.history.mine id v at).0 (ap is_counted passing) in
    let way : PointOk st v.seen key point = subst (ReadingOk st v.seen) call.way (k.ways id v at) in
    let so : TryingOk st (Since ended call.loads low high call.child) = subst (TryingOk st) call.call (k.tries id v at) in
    let t = answers k.m k.g v.seen key point r f found seen.0 way last (sym is) in let h : List Entry = t.moment in let w : View = tried_last v h found in
    let known = ends k.m k.g k.table v.seen key ended low high call.child call.loads so.0 so.1 point r f found way last call.along (sym is) in
    let tries : KnowsTry st w = subst (λ y. TryingOk st (tries_on y v.tries found 0)) (sym call.way) (subst (λ y. TryingOk st (tries_on (On key point) y found 0)) (sym call.call) known) in
    let after : IsOnWay st w = subst (λ y. ReadingOk st h (ends_at y found)) (sym call.way) (lasts st h key t.to point found) in (
      w,
      keeps,
      tt,
      trying about s.words s.views k (word_at r f) id v w at (k.known id v at) (k.reached id v at) after (k.places id v at) (k.present id v at) (noted_so k.m.next k.m.epoch v (meets_trouble v.way.reads v.tries found) (k.notes id v at)) (k.worn id v at) (k.lasting id v at) tries (k.heights id v at) (k.debts id v at) (λ _ ok. owed_itself s.views id v at (state_of k.m k.g) ok) t.from t.to seen.1,
      (
        h,
        record { goes_on = t.from; legal = legal_begin h k.g.history t.to k.history.legal; own = of_between v.seen h k.g.history v.who t.from t.to own.1 ∙ sym own.0 },
        refl,
        subst (λ y. HasAnswer y found h) (sym call.way) t.tells,
      ),
    )

-- `load_busy_gate`
pub finds_busy : (about : About) (slots id : ℕ) (me : Sat) → Allows (Rule about) slots id me 1 (λ n. n) (busy_told (step slots 1 0 0 none) me)
finds_busy about slots id me s k wide at small =
    let v : View = me.0 in let r : ℕ = get_or s.words 1 0 in let is : r ≡ k.m.gate = gate_is k.memory in let w : View = busy_seen v r in let seen = k.history.seen id v at in let st : Table = state_of k.m k.g in (
      w,
      keeps,
      tt,
      trying about s.words s.views k 1 id v w at (k.known id v at) (k.reached id v at) tt (k.places id v at) (k.present id v at) (header_more k.m.next k.m.epoch v (notes.Gate r) (k.notes id v at) tt) (k.worn id v at) (k.lasting id v at) tt (k.heights id v at) (k.debts id v at) (λ _ ok. owed_itself s.views id v at (state_of k.m k.g) ok) (begins_itself v.seen) seen.0 seen.1,
      (refl, refl, λ ended met. let late : ended < k.m.gate / 2 = subst (TryingOk st) met (k.tries id v at) in omega (arith, is, late)),
    )
