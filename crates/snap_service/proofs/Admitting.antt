-- What the caller's kit keeps when it admits others and makes its clone.
use Rattle.std.proofs.Common.{◌≡◌, ◌≢◌, ◌<◌, ◌+◌, ℕ, Bool, List, [], ◌∷◌, ◌++◌, length, Option, inl, inr, refl, ap, sym, ◌∙◌, subst, arith, ◌||◌}
use Rattle.snap_prelude.proofs.Common.{dite, get_or-set_other, get_or-set_same}
use Rattle.snap_prelude.proofs.Common.{length-set, slice_get-get_or, ℕ_discrete}
use Rattle.snap_fits.specs.{Sessions.AgreesAt, Sessions.Served, Fits.matching_after, Fits.start}
use Rattle.snap_fits.proofs.{Prefixes.begins_trans, Runs.served_ends}
use Rattle.snap_prelude.specs.{Admitted, admitted_of, Begins, Cloned, Command, Ended}
use Rattle.snap_prelude.specs.{Entry, In, Known, Pairs, Reply, SpeaksForAll, total, View}
use Rattle.snap_service.specs.Prelude.{Admits, AdmitsAll, AreClosed, AreSeated, AreTables, course, FitsAll, fronts_of}
use Rattle.snap_service.specs.Prelude.{HasFinal, HasServed, IsCallers, IsFinal, IsUncut, Joins, JoinsAll, nobody}
use Rattle.snap_service.specs.Prelude.{pass_at, SessionState, setting, SpeaksFor, table_at, Tables, track}
use Rattle.snap_text.specs.LoadFiles.{Loads}
use Rattle.snap_service.proofs.{Covered.covers_all, Notes.handed_grows, Tracks.or_true, Using.seat_cut, Using.seat_set}

in_front : {X : Type 0} (x : X) (xs ys : List X) → In x xs → In x (xs ++ ys)
in_front x [] ys i = absurd i
in_front x (z ∷ xs) ys (inl e) = inl e
in_front x (z ∷ xs) ys (inr i) = inr (in_front x xs ys i)

in_middle : {X : Type 0} (x : X) (xs ys : List X) → In x (xs ++ x ∷ ys)
in_middle x [] ys = inl refl
in_middle x (z ∷ xs) ys = inr (in_middle x xs ys)

joins_new : (old receipt new : Known) → Joins old receipt new → SpeaksFor new.view receipt.view
joins_new old receipt new h = let is = h.3 in record {
  listed = subst (λ (l : List Admitted). In (admitted_of receipt.view) l) (sym (ap (λ (k : Known). k.view.admitted) is)) (in_middle (admitted_of receipt.view) old.view.admitted receipt.view.admitted);
  seen = subst (λ (l : List Entry). Begins receipt.view.seen l) (sym (ap (λ (k : Known). k.view.seen) is)) h.2;
  handed = omega (arith, ap (λ (k : Known). k.view.noted.handed) is);
  epochs = omega (arith, ap (λ (k : Known). k.view.noted.epochs) is);
  worn = λ e. ap (λ (k : Known). k.view.noted.worn) is ∙ ap (λ (b : Bool). old.view.noted.worn || b) e ∙ or_true old.view.noted.worn;
}

joins_keeps : (old receipt new other : Known) → Joins old receipt new → SpeaksFor old.view other.view → SpeaksFor new.view other.view
joins_keeps old receipt new other h x = let is = h.3 in record {
  listed = subst (λ (l : List Admitted). In (admitted_of other.view) l) (sym (ap (λ (k : Known). k.view.admitted) is)) (in_front (admitted_of other.view) old.view.admitted (admitted_of receipt.view ∷ receipt.view.admitted) x.listed);
  seen = subst (λ (l : List Entry). Begins other.view.seen l) (sym (ap (λ (k : Known). k.view.seen) is)) (begins_trans other.view.seen old.view.seen h.0 x.seen h.1.goes_on);
  handed = omega (arith, ap (λ (k : Known). k.view.noted.handed) is, x.handed);
  epochs = omega (arith, ap (λ (k : Known). k.view.noted.epochs) is, x.epochs);
  worn = λ e. ap (λ (k : Known). k.view.noted.worn) is ∙ ap (λ (b : Bool). b || receipt.view.noted.worn) (x.worn e);
}

pub admits_new : (old receipt new : List Known) → JoinsAll old receipt new → Admits new receipt
admits_new old receipt new h t l = joins_new (pass_at old t) (pass_at receipt t) (pass_at new t) (h t l)

pub admits_keeps : (tables : Tables) (old receipt new other : List Known) → AreSeated tables receipt → AreSeated tables other → JoinsAll old receipt new → Admits old other → Admits new other
admits_keeps tables old receipt new other r o h x t l = joins_keeps (pass_at old t) (pass_at receipt t) (pass_at new t) (pass_at other t) (h t (omega (arith, l, r.a_pass_each, o.a_pass_each))) (x t l)

pub stays_uncut : (tables : Tables) (old receipt new : List Known) → AreSeated tables receipt → AreSeated tables old → AreSeated tables new → JoinsAll old receipt new → IsUncut tables old → IsUncut tables new
stays_uncut tables old receipt new r o n h u = record {
  last = λ t l. let is = (let j = h t (omega (arith, l, r.a_pass_each, n.a_pass_each)) in j.3) in ap (λ (k : Known). k.view.who + 1) is ∙ u.last t (omega (arith, l, o.a_pass_each, n.a_pass_each));
  none = λ t l. let is = (let j = h t (omega (arith, l, r.a_pass_each, n.a_pass_each)) in j.3) in ap (λ (k : Known). k.view.cuts) is ∙ u.none t (omega (arith, l, o.a_pass_each, n.a_pass_each));
  silent = λ t l. let is = (let j = h t (omega (arith, l, r.a_pass_each, n.a_pass_each)) in j.3) in ap (λ (k : Known). k.view.mine) is ∙ u.silent t (omega (arith, l, o.a_pass_each, n.a_pass_each));
}

module _ (old : List Known) (clone : Cloned) (new : List Known) (h : IsFinal old clone new) (some : 0 < length old) where
  same_length : length new ≡ length old
  same_length = ap length h.1 ∙ length-set old 0 h.0

  first_is : pass_at new 0 ≡ h.0
  first_is = ap (λ (l : List Known). pass_at l 0) h.1 ∙ get_or-set_same old 0 h.0 nobody some

  other_is : (t : ℕ) → t ≢ 0 → pass_at new t ≡ pass_at old t
  other_is t n = ap (λ (l : List Known). pass_at l t) h.1 ∙ get_or-set_other old 0 t h.0 nobody n

  -- what holds of the others and of the first holds of each
  each : (P : Known → Type 0) → ((t : ℕ) → t < length old → P (pass_at old t)) → P h.0 → (t : ℕ) → t < length new → P (pass_at new t)
  each P a b t l = dite (ℕ_discrete t 0)
      (λ e. subst (λ (n : ℕ). P (pass_at new n)) (sym e) (subst P (sym first_is) b))
      (λ n. subst P (sym (other_is t n)) (a t (omega (arith, l, same_length))))

  pub final_seated : (tables : Tables) → AreSeated tables old → AreSeated tables new
  final_seated tables s = subst (AreSeated tables) (sym h.1) (seat_set tables old 0 h.0 s some (seat_cut (table_at tables 0) (pass_at old 0) h.0 clone (s.each 0 (omega (arith, some, s.a_pass_each))) h.2))

  pub final_all : AdmitsAll old → AdmitsAll new
  final_all a = each (λ (k : Known). SpeaksForAll k.view) a (let c = h.2 in subst (λ (k : Known). SpeaksForAll k.view) (sym c.cut.is) (a 0 some))

  speaks : (w : View) → SpeaksFor (pass_at old 0).view w → SpeaksFor h.0.view w
  speaks w x = let c = h.2 in let is = c.cut.is in record {
    listed = subst (λ (l : List Admitted). In (admitted_of w) l) (sym (ap (λ (k : Known). k.view.admitted) is)) x.listed;
    seen = subst (λ (l : List Entry). Begins w.seen l) (sym c.cut.seen) (begins_trans w.seen (pass_at old 0).view.seen clone.base x.seen c.cut.extends.goes_on);
    handed = omega (arith, x.handed, c.cut.noted.handed, handed_grows (pass_at old 0).view.noted.handed c.cut.more);
    epochs = omega (arith, ap (λ (k : Known). k.view.noted.epochs) is, x.epochs);
    worn = λ e. ap (λ (k : Known). k.view.noted.worn) is ∙ x.worn e;
  }

  pub final_keeps : (other : List Known) → Admits old other → Admits new other
  final_keeps other a t l = dite (ℕ_discrete t 0)
      (λ e. subst (λ (n : ℕ). SpeaksFor (pass_at new n).view (pass_at other n).view) (sym e) (subst (λ (k : Known). SpeaksFor k.view (pass_at other 0).view) (sym first_is) (speaks (pass_at other 0).view (a 0 (omega (arith, l, e))))))
      (λ n. subst (λ (k : Known). SpeaksFor k.view (pass_at other t).view) (sym (other_is t n)) (a t l))

  pub final_callers : (tables : Tables) → AdmitsAll old → IsUncut tables old → IsCallers tables new
  final_callers tables a u = let c = h.2 in let is = c.cut.is in record {
    last = each (λ (k : Known). k.view.who + 1 ≡ tables.kits) u.last (ap (λ (k : Known). k.view.who + 1) is ∙ u.last 0 some);
    noted = λ t l. dite (ℕ_discrete t 0)
        (λ e. inr (e, subst (λ (n : ℕ). HasFinal (pass_at new n).view) (sym e) (subst (λ (k : Known). HasFinal k.view) (sym first_is) made)))
        (λ n. inl (ap (λ (k : Known). k.view.cuts) (other_is t n) ∙ u.none t (omega (arith, l, same_length))));
    silent = each (λ (k : Known). k.view.mine ≡ []) u.silent (ap (λ (k : Known). k.view.mine) is ∙ u.silent 0 some);
  }
    where
      made : HasFinal h.0.view
      made = let c = h.2 in let is = c.cut.is in record {
        theirs = let all = c.cut.knows (a 0 some) in omega (arith, all, ap (λ (k : Known). k.view.noted.epochs) is, ap length (u.none 0 some), ap (λ (k : Known). total (λ (x : Admitted). length x.cuts) k.view.admitted) is);
        one = c.cut.cuts ∙ ap (λ (l : List ℕ). l ++ length clone.base ∷ []) (u.none 0 some) ∙ ap (λ (l : List Entry). length l ∷ []) (sym c.cut.seen);
      }

-- a kit that made no clone
pub uncut_callers : (tables : Tables) (kit : List Known) → IsUncut tables kit → IsCallers tables kit
uncut_callers tables kit u = record { last = u.last; noted = λ t l. inl (u.none t l); silent = u.silent }

-- the number of the session's passes
pub number_is : (loads : Loads) (w : ℕ) (s : SessionState) (cs : List Command) (rs : List Reply) (es : List (List ℕ × Pairs)) → HasServed loads w cs rs es s → (t : ℕ) → t < length s.passes → (pass_at s.passes t).view.who ≡ w
number_is loads w s cs rs es v t l =
    let a : AgreesAt w ((matching_after (setting s.tables loads) start v.told).places t) ((course w s).passes t) = v.ok.agrees.places t in
    sym (ap (λ (o : Option Known). (track w o).who) (slice_get-get_or s.passes t nobody l)) ∙ a.who

pub fits_all : (tables : Tables) (kit : List Known) (fronts : List Ended) → AreTables tables → AreSeated tables kit → AreClosed kit fronts → IsCallers tables kit → FitsAll tables kit fronts
fits_all tables kit fronts ok seated closed callers loads w s cs rs es same theirs v admits =
    served_ends (setting tables loads) w cs rs es (course w s) (fronts_of fronts) (subst (λ (t : Tables). Served (setting t loads) w cs rs es (course w s)) same v)
    (covers_all tables loads w s kit fronts seated theirs closed admits callers (number_is loads w s cs rs es v)
    (λ t l k e. let of = (let x = seated.each t l in x.of) in (ap (λ (y : Known). y.view.rows) e ∙ of.1 ∙ ok.rows_are t l, ap (λ (y : Known). y.view.passes) e ∙ of.2 ∙ ok.passes_are t l)))
