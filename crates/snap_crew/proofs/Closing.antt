-- Tables that the caller's kit closes, with a clone of its own or without one.
use Rattle.snap_prelude.proofs.Common.{dec_lt, dite, slice_get-get_or, slice_get_past}
use Rattle.std.proofs.Common.{◌≡◌, ◌<◌, ◌-◌, eq-eqb, ℕ, Bool, List, [], length, Option, Some, ap, sym, ◌∙◌, arith, cond, slice_get, slice_index_or}
use Rattle.snap_prelude.specs.{after, Closes, Ended, Known}
use Rattle.snap_text.specs.Tables.{table_text}
use Rattle.snap_service.specs.Prelude.{AreClosed, AreSeated, AreTables, cuts_among, cuts_of, front_of, fronts_of}
use Rattle.snap_service.specs.Prelude.{IsUncut, nobody, pass_at, Tables}

-- the front of a table is what its pass has seen and cut
module _ (kit : List Known) (fronts : List Ended) (closed : AreClosed kit fronts) (t : ℕ) (l : t < length kit) where
  abbrev at : Ended
  at = slice_index_or fronts t (record { writes = 0; pairs = 0; drawn = 0; last = nobody })

  front_at : slice_get fronts t ≡ Some at
  front_at = slice_get-get_or fronts t _ (omega (arith, l, closed.a_front_each))

  closes : Closes (pass_at kit t) at
  closes = closed.each t at front_at

  pub history_is : (fronts_of fronts t).history ≡ (pass_at kit t).view.seen
  history_is = ap (λ (o : Option Ended). (front_of o).history) front_at ∙ (let c = closes in ap (λ (k : Known). k.view.seen) c.last)

  pub cuts_are : (i : ℕ) → (fronts_of fronts t).cuts i ≡ cuts_of (pass_at kit t).view i
  cuts_are i = ap (λ (o : Option Ended). (front_of o).cuts i) front_at ∙ (let c = closes in ap (λ (k : Known). cuts_of k.view i) c.last)

pub no_cut : (tables : Tables) (kit : List Known) (fronts : List Ended) → AreClosed kit fronts → IsUncut tables kit → (t : ℕ) → (fronts_of fronts t).cuts (tables.kits - 1) ≡ []
no_cut tables kit fronts closed u t = dite (dec_lt t (length kit))
    (λ l.
    let v = (pass_at kit t).view in
    let own : v.who ≡ tables.kits - 1 = omega (arith, u.last t l) in
    cuts_are kit fronts closed t l (tables.kits - 1) ∙ ap (λ (b : Bool). cond b v.cuts (cuts_among v.admitted (tables.kits - 1))) (eq-eqb v.who (tables.kits - 1) own) ∙ u.none t l)
    (λ g. ap (λ (o : Option Ended). (front_of o).cuts (tables.kits - 1)) (slice_get_past fronts t (omega (arith, g, closed.a_front_each))))

-- the text of the first table by what its pass has seen, which is the whole history
pub text_is : (tables : Tables) (kit : List Known) (fronts : List Ended) (text : List ℕ) → AreTables tables → AreSeated tables kit → AreClosed kit fronts → text ≡ table_text (after (pass_at kit 0).view.seen) → text ≡ table_text (after (fronts_of fronts 0).history)
text_is tables kit fronts text ok seated closed is = is ∙ ap (λ h. table_text (after h)) (sym (history_is kit fronts closed 0 (omega (arith, ok.a_table, seated.a_pass_each))))
