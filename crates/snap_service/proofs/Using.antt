-- A call on the table in use.
use Rattle.snap_prelude.proofs.Common.{dite, get_or-set_other, get_or-set_same, get_or_read}
use Rattle.snap_prelude.proofs.Common.{length-set, slice_get-get_or, ℕ_discrete}
use Rattle.std.proofs.Common.{zero, suc, ◌≡◌, ◌≤◌, ◌<◌, ℕ, List, [], ◌∷◌, ◌++◌, length, get_or, take, true, false, Result, Ok, Err, Option, Some, None, inl, inr, refl, ap, sym, ◌∙◌, subst, arith, ◌⊎◌, slice_get, slice_set, IfOk, OnErr, MatchResult, is_err}
use Rattle.snap_fits.specs.Fits.{value_reply}
use Rattle.snap_prelude.specs.{Call, Cloned, Known, Laid, Pairs, Put, Reply, TakesBack}
use Rattle.snap_search.specs.Prelude.{Reads}
use Rattle.snap_table.specs.{Calls.Refuses, Calls.Replies, Clones.Cuts}
use Rattle.snap_service.specs.Prelude.{AreSeated, clone_at, FitsSlot, IsCloneIn, IsSeated, IsWellFormed, LoadsPairs}
use Rattle.snap_service.specs.Prelude.{Measured, Measures, most_uses, nobody, nowhere, pass_at, pass_in_use, PutAll}
use Rattle.snap_service.specs.Prelude.{SessionState, slots, table_at, Tables, with_pass, with_pass_at, with_slot, Wrote}

pub uses_le : (ps : List Known) (i : ℕ) (p : Known) → i < length ps → p ≡ get_or ps i p → p.view.uses ≤ most_uses ps
uses_le [] i p l e = absurd (omega (arith, l))
uses_le (q ∷ ps) zero p l e = omega (arith, ap (λ (k : Known). k.view.uses) e)
uses_le (q ∷ ps) (suc i) p l e = omega (arith, uses_le ps i p (omega (arith, l)) e)

module _ (s s0 : SessionState) (same : s0 ≡ s) (ok : IsWellFormed s0) (p0 : Known) (is : p0 ≡ get_or s0.passes s0.in_use p0) where
  pub pass_is : p0 ≡ pass_in_use s
  pass_is = get_or_read s0.passes s0.in_use p0 ok.a_table_in_use is nobody ∙ ap pass_in_use same

  module _ (laid : List Laid) (x : Laid) (of : laid ≡ s0.tables.laid) (at : x ≡ get_or laid s0.in_use x) where
    pub rows_are : x.rows ≡ s.tables.rows
    rows_are =
        let l : s0.in_use < length s0.tables.laid = omega (arith, ok.a_table_in_use, ok.seated.a_pass_each) in
        ap (λ (y : Laid). y.rows) (get_or_read laid s0.in_use x (omega (arith, l, ap length of)) at nowhere ∙ ap (λ (ls : List Laid). get_or ls s0.in_use nowhere) of)
        ∙ ok.service.rows_are s0.in_use l ∙ ap (λ (y : SessionState). y.tables.rows) same

    pub written_done : (p1 : Known) (call : Call) (reply_of : Option ℕ → Reply) (r : Reply)
        → (((was : Option ℕ) × (r ≡ reply_of was) × Replies p0 p1 call was) ⊎ ((r ≡ Reply.Full) × Refuses x.rows p0 p1 call))
        → (pass : Known) × (with_pass s0 p1 ≡ with_pass s pass) × Wrote s.tables.rows call reply_of (pass_in_use s) r pass
    written_done p1 call reply_of r (inl h) = (p1, ap (λ (y : SessionState). with_pass y p1) same, inl (h.0, h.1, subst (λ (k : Known). Replies k p1 call h.0) pass_is h.2))
    written_done p1 call reply_of r (inr h) = (p1, ap (λ (y : SessionState). with_pass y p1) same, inr (h.0, subst (λ (k : Known). Refuses s.tables.rows k p1 call) pass_is (subst (λ (n : ℕ). Refuses n p0 p1 call) rows_are h.1)))

    pub loaded_done : (p1 : Known) (pairs : Pairs) (r : Reply) → LoadsPairs x.rows pairs p0 r p1 → (pass : Known) × (with_pass s0 p1 ≡ with_pass s pass) × LoadsPairs s.tables.rows pairs (pass_in_use s) r pass
    loaded_done p1 pairs r h = (p1, ap (λ (y : SessionState). with_pass y p1) same, subst (λ (k : Known). LoadsPairs s.tables.rows pairs k r p1) pass_is (subst (λ (n : ℕ). LoadsPairs n pairs p0 r p1) rows_are h))

  pub read_done : (p1 : Known) (key : ℕ) (answer : Option ℕ) (r : Reply) → r ≡ value_reply answer → Reads p0 p1 key answer
      → (pass : Known) × (with_pass s0 p1 ≡ with_pass s pass) × (a : Option ℕ) × (r ≡ value_reply a) × Reads (pass_in_use s) pass key a
  read_done p1 key answer r e h = (p1, ap (λ (y : SessionState). with_pass y p1) same, answer, e, subst (λ (k : Known). Reads k p1 key answer) pass_is h)

  pub cut_done : (p1 : Known) (slot : ℕ) (clone : Cloned) → Cuts p0 p1 clone
      → (pass : Known) × (c : Cloned) × (with_slot (with_pass s0 p1) slot (Some (s0.in_use, clone)) ≡ with_slot (with_pass s pass) slot (Some (s.in_use, c))) × Cuts (pass_in_use s) pass c
  cut_done p1 slot clone h = (p1, clone, ap (λ (y : SessionState). with_slot (with_pass y p1) slot (Some (y.in_use, clone))) same, subst (λ (k : Known). Cuts k p1 clone) pass_is h)

-- another pass of the same table that is idle
pub seat_set : (tables : Tables) (ps : List Known) (i : ℕ) (p : Known) → AreSeated tables ps → i < length ps → IsSeated (table_at tables i) p → AreSeated tables (slice_set ps i p)
seat_set tables ps i p h l x = record {
  a_pass_each = omega (arith, length-set ps i p, h.a_pass_each);
  each = λ t m. dite (ℕ_discrete t i)
      (λ e. subst (λ (n : ℕ). IsSeated (table_at tables n) (pass_at (slice_set ps i p) n)) (sym e) (subst (IsSeated (table_at tables i)) (sym (get_or-set_same ps i p nobody l)) x))
      (λ n. subst (IsSeated (table_at tables t)) (sym (get_or-set_other ps i t p nobody n)) (h.each t m));
}

pub seat_replied : (rows : Laid) (old new : Known) (call : Call) (was : Option ℕ) → IsSeated rows old → Replies old new call was → IsSeated rows new
seat_replied rows old new call was x h = record {
  of = (ap (λ (k : Known). k.table) h.is ∙ x.of.0, ap (λ (k : Known). k.view.rows) h.is ∙ x.of.1, ap (λ (k : Known). k.view.passes) h.is ∙ x.of.2);
  idle = h.idle;
  passing = ap (λ (k : Known). k.view.role) h.is ∙ x.passing;
}

pub seat_refused : (rows : Laid) (n : ℕ) (old new : Known) (call : Call) → IsSeated rows old → Refuses n old new call → IsSeated rows new
seat_refused rows n old new call x h = record {
  of = (ap (λ (k : Known). k.table) h.is ∙ x.of.0, ap (λ (k : Known). k.view.rows) h.is ∙ x.of.1, ap (λ (k : Known). k.view.passes) h.is ∙ x.of.2);
  idle = h.idle;
  passing = ap (λ (k : Known). k.view.role) h.is ∙ x.passing;
}

pub seat_cut : (rows : Laid) (old new : Known) (clone : Cloned) → IsSeated rows old → Cuts old new clone → IsSeated rows new
seat_cut rows old new clone x c = let h = c.cut in record {
  of = (ap (λ (k : Known). k.table) h.is ∙ x.of.0, ap (λ (k : Known). k.view.rows) h.is ∙ x.of.1, ap (λ (k : Known). k.view.passes) h.is ∙ x.of.2);
  idle = c.idle;
  passing = ap (λ (k : Known). k.view.role) h.is ∙ x.passing;
}

pub seat_put : (rows : Laid) (old : Known) (xs : Pairs) (new : Known) → IsSeated rows old → PutAll old xs new → IsSeated rows new
seat_put rows old [] new x h = subst (IsSeated rows) (sym h) x
seat_put rows old (y ∷ ys) new x h = seat_put rows h.0 ys new (seat_replied rows old h.0 _ h.1.0 x h.1.1) h.2

-- one put more
pub put_more : (old : Known) (xs : Pairs) (mid new : Known) (x : ℕ × ℕ) (was : Option ℕ) → PutAll old xs mid → Replies mid new (Put x.0 x.1) was → PutAll old (xs ++ x ∷ []) new
put_more old [] mid new x was h r = (new, (was, subst (λ (k : Known). Replies k new (Put x.0 x.1) was) h r), refl)
put_more old (y ∷ ys) mid new x was h r = (h.0, h.1, put_more h.0 ys mid new x was h.2 r)

-- an answer by its case
pub ok_of : {A B : Type 0} (r : Result A B) (P : A → Type 0) (Q : B → Type 0) → MatchResult r P Q → is_err r ≡ false → (a : A) × P a
ok_of (Ok a) P Q h e = (a, h)
ok_of (Err b) P Q h e = absurd cc

pub err_of : {A B : Type 0} (r : Result A B) (P : A → Type 0) (Q : B → Type 0) → MatchResult r P Q → is_err r ≡ true → (b : B) × Q b
err_of (Ok a) P Q h e = absurd cc
err_of (Err b) P Q h e = (b, h)

pub get_some : (xs : Pairs) (i : ℕ) → i < length xs → slice_get xs i ≡ Some (get_or xs i (0, 0))
get_some xs i l = slice_get-get_or xs i (0, 0) l

pub if_ok : {A B : Type 0} (r : Result A B) (P Q : A → Type 0) → ((a : A) → P a → Q a) → IfOk r P → IfOk r Q
if_ok (Ok a) P Q f h = f a h
if_ok (Err b) P Q f h = h

pub well_set_at : (s : SessionState) (t : ℕ) (p : Known) → IsWellFormed s → t < length s.passes → IsSeated (table_at s.tables t) p → IsWellFormed (with_pass_at s t p)
well_set_at s t p ok l x = record {
  service = ok.service;
  seated = seat_set s.tables s.passes t p ok.seated l x;
  a_table_in_use = omega (arith, ok.a_table_in_use, length-set s.passes t p);
  a_place_each = ok.a_place_each;
  clones = ok.clones;
}

pub well_set : (s : SessionState) (p : Known) → IsWellFormed s → IsSeated (table_at s.tables s.in_use) p → IsWellFormed (with_pass s p)
well_set s p ok x = well_set_at s s.in_use p ok ok.a_table_in_use x

-- another clone in a slot, or none
pub well_slot : (s : SessionState) (slot : ℕ) (c : Option (ℕ × Cloned)) → IsWellFormed s → slot < slots → FitsSlot s.tables c → IsWellFormed (with_slot s slot c)
well_slot s slot c ok l x = record {
  service = ok.service;
  seated = ok.seated;
  a_table_in_use = ok.a_table_in_use;
  a_place_each = length-set s.clones slot c ∙ ok.a_place_each;
  clones = λ i. dite (ℕ_discrete i slot)
      (λ e. subst (FitsSlot s.tables) (sym (ap (λ (n : ℕ). get_or (slice_set s.clones slot c) n None) e ∙ get_or-set_same s.clones slot c None (omega (arith, l, ok.a_place_each)))) x)
      (λ n. subst (FitsSlot s.tables) (sym (get_or-set_other s.clones slot i c None n)) (ok.clones i));
}

-- a clone was asked how deep it is, and the view was given back
pub measured_done : (s s0 : SessionState) → s0 ≡ s → IsWellFormed s0 → (slot : ℕ) (live : ℕ × Cloned) → clone_at s slot ≡ Some live → (p0 p1 : Known) → p0 ≡ get_or s0.passes live.0 p0
    → (asked : Cloned) (r : Reply) → Measures live.1 asked r → TakesBack p0 p1 asked → Measured (clone_at s slot) s r (with_pass_at s0 live.0 p1)
measured_done s s0 same ok slot live is p0 p1 read asked r m back =
    let fits : IsCloneIn s0.tables live = subst (FitsSlot s0.tables) (ap (λ (y : SessionState). clone_at y slot) same ∙ is) (ok.clones slot) in
    let within : live.0 < length s0.passes = omega (arith, fits.within, ok.seated.a_pass_each) in
    let here : p0 ≡ pass_at s.passes live.0 = get_or_read s0.passes live.0 p0 within read nobody ∙ ap (λ (y : SessionState). pass_at y.passes live.0) same in
    subst (λ (c : Option (ℕ × Cloned)). Measured c s r (with_pass_at s0 live.0 p1)) (sym is)
    (asked, p1, ap (λ (y : SessionState). with_pass_at y live.0 p1) same, m, subst (λ (k : Known). TakesBack k p1 asked) here back)

pub seat_loaded : (rows : Laid) (n : ℕ) (pairs : Pairs) (old : Known) (r : Reply) (new : Known) → IsSeated rows old → LoadsPairs n pairs old r new → IsSeated rows new
seat_loaded rows n pairs old r new x (inl h) = seat_put rows old pairs new x h.1
seat_loaded rows n pairs old r new x (inr h) = seat_refused rows n h.4 new (Put h.1.0 h.1.1) (seat_put rows old (take h.0 pairs) h.4 x h.5) h.6

pub seat_here : (s : SessionState) (p : Known) → IsWellFormed s → p ≡ get_or s.passes s.in_use p → IsSeated (table_at s.tables s.in_use) p
seat_here s p ok is = subst (IsSeated (table_at s.tables s.in_use)) (sym (get_or_read s.passes s.in_use p ok.a_table_in_use is nobody)) (ok.seated.each s.in_use (omega (arith, ok.a_table_in_use, ok.seated.a_pass_each)))

pub by_case : {A B G : Type 0} (r : Result A B) (P : A → Type 0) (Q : Type 0) → IfOk r P → OnErr r Q → ((a : A) → P a → G) → (Q → G) → G
by_case (Ok a) P Q h k f g = f a h
by_case (Err b) P Q h k f g = g k
