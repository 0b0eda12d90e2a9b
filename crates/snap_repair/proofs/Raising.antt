-- Heights and rotations, and what they leave.
use Rattle.std.proofs.Common.{◌≡◌, ◌≢◌, ◌∙◌, ◌⊎◌, ◌+◌, inl, inr, ℕ, zero, suc, List, [], refl, sym, ap, subst, arith}
use Rattle.snap_repair.specs.{Answers.Lowers, Mending.Looks, Mending.mended, Mending.Mends, Raising.Heightens}
use Rattle.snap_repair.specs.{Raising.RaisesFor, Raising.TurnsNear}
use Rattle.snap_prelude.specs.{AimsAt, AimsByHeight, Among, Becomes, Birth, Field, Height}
use Rattle.snap_prelude.specs.{heightened, IsKnown, IsListed, IsNoted, Key, Known, link_field}
use Rattle.snap_prelude.specs.{listing, Mark, or_else, other, Side, Stamp, TurnsFor, View, word_in}
use Rattle.snap_search.proofs.Working.{grows_same, no_notes}
use Rattle.snap_shape.proofs.Touching.{One, Stays, stored}
use Rattle.snap_shape.specs.{Grips.edge_at, Grips.HasGrip, Grips.IsEdge, Grips.IsOfNow, Grips.turn_at, Shapes.later}
use Rattle.snap_shape.specs.{Shapes.Rotates, declared.grip.Grip.Grip, declared.grip.Turn.Turn}
use Rattle.snap_repair.proofs.Mending.{keeps_holds, keeps_mends, mends_on, no_rows}

abbrev known_as : Known → View → Known
known_as k v = record { table = k.table; view = v }

-- a step that stores one word of a held row, and may change the debt
pub stored_mends : (b c : Known) (w : View) (P : ℕ → Field → Type 0) → Becomes b c w → known_as b w ≡ mended b w → w.doing ≡ b.view.doing → w.drawn ≡ b.view.drawn → w.fresh.own ≡ b.view.fresh.own → w.seen ≡ b.view.seen → w.noted.notes ≡ b.view.noted.notes → w.noted.handed ≡ b.view.noted.handed → w.noted.epochs ≡ b.view.noted.epochs → w.noted.worn ≡ b.view.noted.worn → w.words.lasting ≡ b.view.words.lasting → w.words.refused ≡ b.view.words.refused → Stays b c P → Mends b c
stored_mends b c w P e same doing drawn own seen notes handed epochs worn lasting refused s = record {
  is = e ∙ same ∙ ap (λ (k : Known). mended b k.view) (sym e);
  whole = ap (λ (k : Known). k.view.doing) e ∙ doing;
  links = no_rows b.view c.view (ap (λ (k : Known). k.view.drawn) e ∙ drawn) (ap (λ (k : Known). k.view.fresh.own) e ∙ own);
  more = [];
  found = λ h. h;
  noted = no_notes b.view c.view (ap (λ (k : Known). k.view.noted.notes) e ∙ notes) (ap (λ (k : Known). k.view.noted.handed) e ∙ handed) (ap (λ (k : Known). k.view.noted.epochs) e ∙ epochs) (λ h. ap (λ (k : Known). k.view.noted.worn) e ∙ worn ∙ h);
  reached = s.reached;
  present = λ n h. subst (Among n) (sym s.present) h;
  lasting = λ q g y h. subst (λ l. IsKnown l q g y) (sym (ap (λ (k : Known). k.view.words.lasting) e ∙ lasting)) h;
  refused = grows_same b.view.words.refused c.view.words.refused (ap (λ (k : Known). k.view.words.refused) e ∙ refused);
}

pub listed_more : (m x n y : ℕ) (l : List Mark) → IsListed n y l → IsListed n y (listing m x l)
listed_more zero x n y l h = h
listed_more (suc m) x n y l h = inr h

aims_height : (v : View) (p r : ℕ) → RaisesFor v p r → AimsByHeight v p r
aims_height v p r h = elim h [ inl a ↦ inr (inr (inl a)) | inr y ↦ elim y [ inl n ↦ inr (inr (inr (inr (inl n)))) | inr z ↦ inr (inr (inr (inr (inr z)))) ] ]

pub aims_looks : (a b : Known) (r : ℕ) → Looks a b → AimsAt a.view r → AimsAt b.view r
aims_looks a b r s h = record { is_row = h.is_row; key = h.key; is_key = s.0.knows r Key h.key (λ z. z) h.is_key; to_do = ap (λ u. u.to_do) s.0.debt ∙ h.to_do }

noted_looks : (a b : Known) (r : ℕ) → Looks a b → IsNoted a.view r → IsNoted b.view r
noted_looks a b r s h = record { stamp = h.stamp; still = s.0.knows r Stamp h.stamp (λ z. z) h.still; listed = subst (λ u. IsListed r h.stamp u.list) (sym s.0.debt) h.listed }

pub raises_looks : (a b : Known) (p r : ℕ) → Looks a b → RaisesFor a.view p r → AimsByHeight b.view p r
raises_looks a b p r s h = aims_height b.view p r (elim h [ inl x ↦ inl (aims_looks a b r s x) | inr y ↦ elim y [ inl n ↦ inr (inl (noted_looks a b p s n)) | inr z ↦ inr (inr z) ] ])

pub turns_looks : (a b : Known) (p r l key : ℕ) → Looks a b → TurnsNear a.view p r l key → TurnsFor b.view p r l key
turns_looks a b p r l key s h = elim h [
  | inl x ↦ inl (s.0.knows r Key key (λ z. z) x.0, elim x.1 [ inl u ↦ inr (inr (inl (aims_looks a b r s u))) | inr u ↦ inr (inr (inr (aims_looks a b p s u))) ])
  | inr x ↦ inr (s.0.knows l Key key (λ z. z) x.0, inr (ap (λ u. u.to_do) s.0.debt ∙ x.1))
]

pub near_looks : (a b : Known) (p r l key : ℕ) → Looks a b → TurnsNear a.view p r l key → TurnsNear b.view p r l key
near_looks a b p r l key s h = elim h [
  | inl x ↦ inl (s.0.knows r Key key (λ z. z) x.0, elim x.1 [ inl u ↦ inl (aims_looks a b r s u) | inr u ↦ inr (aims_looks a b p s u) ])
  | inr x ↦ inr (s.0.knows l Key key (λ z. z) x.0, ap (λ u. u.to_do) s.0.debt ∙ x.1)
]

-- a height after a look
pub heightens : (a b c : Known) (parent row : Grip) (h : ℕ) → Looks a b → Becomes b c (heightened b.view parent.row row.row row.key h) → Heightens a c row
heightens a b c parent row h looks e =
    let s = stored b c (heightened b.view parent.row row.row row.key h) row.row Height h e refl refl refl refl in record {
      mends = mends_on a b c looks.0.mends (stored_mends b c (heightened b.view parent.row row.row row.key h) (One row.row Height) e refl refl refl refl refl refl refl refl refl refl refl s);
      holds = s.holds ∙ looks.1;
      knows = λ q f x ne k. s.knows q f x ne (looks.0.knows q f x (λ z. z) k);
      listed = λ n x k. subst (λ (z : Known). IsListed n x z.view.debt.list) (sym e) (listed_more parent.row (word_in b.view.words.knows parent.row Stamp) n x b.view.debt.list (subst (λ u. IsListed n x u.list) (sym looks.0.debt) k));
      to_do = ap (λ (k : Known). k.view.debt.to_do) e ∙ ap (λ u. or_else u.to_do row.key) looks.0.debt;
    }

pub link_no_height : (d : Side) → link_field d ≢ Height
link_no_height Side.Left = λ e. cc
link_no_height Side.Right = λ e. cc

-- what is known of a row stays known over a stored height
pub grip_height : (a b : Known) (parent row g : Grip) → Heightens a b row → HasGrip a.view g → HasGrip b.view g
grip_height a b parent row g s h = record {
  held = subst (Among g.row) (sym s.holds) h.held;
  is_key = s.knows g.row Key g.key (λ z. let e : Key ≡ Height = z.1 in cc) h.is_key;
  is_stamp = s.knows g.row Stamp g.stamp (λ z. let e : Stamp ≡ Height = z.1 in cc) h.is_stamp;
  unmarked = h.unmarked;
  own = own h.own;
}
  where
    own : (g.row ≡ 0) ⊎ IsOfNow a.view g.row → (g.row ≡ 0) ⊎ IsOfNow b.view g.row
    own (inl z) = inl z
    own (inr o) = inr (record { reached = omega (arith, o.reached, s.mends.reached g.row); birth = o.birth; is_birth = s.knows g.row Birth o.birth (λ z. let e : Birth ≡ Height = z.1 in cc) o.is_birth; now = s.mends.present o.birth o.now })

-- the edges after a rotation
pub below_edge : (b c : Known) (parent row raised : Grip) (p d : Side) → IsEdge b.view (edge_at parent p row) → IsEdge b.view (edge_at row d raised) → Rotates b c (turn_at parent p row d raised) → IsEdge c.view (edge_at raised (other d) (later row))
below_edge b c parent row raised p d u e t = record {
  above = t.keeps.grips raised (λ z. e.apart (sym z)) e.below;
  below = t.lowered;
  leads = t.below;
  is_row = u.is_row;
  on_right = λ z. absurd (e.is_row z);
  apart = λ z. e.apart (sym z);
}

pub above_edge : (b c f : Known) (parent row raised : Grip) (p d : Side) → IsEdge b.view (edge_at parent p row) → IsEdge b.view (edge_at row d raised) → parent.row ≢ raised.row → Rotates b c (turn_at parent p row d raised) → Heightens c f (later row) → IsEdge f.view (edge_at parent p raised)
above_edge b c f parent row raised p d e l apart t s = record {
  above = grip_height c f raised (later row) parent s (t.keeps.grips parent e.apart e.above);
  below = grip_height c f raised (later row) raised s (t.keeps.grips raised (λ z. l.apart (sym z)) l.below);
  leads = s.knows parent.row (link_field p) raised.row (λ z. link_no_height p z.1) t.above;
  is_row = l.is_row;
  on_right = e.on_right;
  apart = apart;
}

pub noted_height : (c f : Known) (raised row : Grip) (r : ℕ) → Heightens c f row → IsNoted c.view r → IsNoted f.view r
noted_height c f raised row r s h = record { stamp = h.stamp; still = s.knows r Stamp h.stamp (λ z. let e : Stamp ≡ Height = z.1 in cc) h.still; listed = s.listed r h.stamp h.listed }

-- after the rotation the to-do key is the lowered row's
pub aims_lowered : (b c : Known) (parent row raised : Grip) (p d : Side) → IsEdge b.view (edge_at parent p row) → Rotates b c (turn_at parent p row d raised) → RaisesFor c.view raised.row (later row).row
aims_lowered b c parent row raised p d u t = inl (record { is_row = u.is_row; key = row.key; is_key = t.lowered.is_key; to_do = t.to_do })

-- and the parent is listed
pub aims_raised : (b c f : Known) (parent row raised : Grip) (p d : Side) → (parent.row ≡ 0) ⊎ (parent.row ≢ 0) → Rotates b c (turn_at parent p row d raised) → Heightens c f (later row) → RaisesFor f.view parent.row raised.row
aims_raised b c f parent row raised p d (inl z) t s = inr (inr z)
aims_raised b c f parent row raised p d (inr nz) t s = inr (inl (noted_height c f raised (later row) parent.row s (t.noted nz)))

zero_or : (n : ℕ) → (n ≡ 0) ⊎ (n ≢ 0)
zero_or zero = inl refl
zero_or (suc n) = inr (λ z. omega (arith, z))

pub aims_up : (b c f : Known) (parent row raised : Grip) (p d : Side) → Rotates b c (turn_at parent p row d raised) → Heightens c f (later row) → RaisesFor f.view parent.row raised.row
aims_up b c f parent row raised p d t s = aims_raised b c f parent row raised p d (zero_or parent.row) t s

-- the whole of it
pub turned_mends : (a b c e f : Known) (parent row raised : Grip) (p d : Side) → a.view.doing ≡ Rattle.snap_rule.specs.declared.change.Doing.TheVariants.Nothing → Looks a b → Rotates b c (turn_at parent p row d raised) → Heightens c e (later row) → Heightens e f raised → Mends a f × (f.view.holds ≡ a.view.holds)
turned_mends a b c e f parent row raised p d whole s t h i =
    let m1 = mends_on a b c s.0.mends (keeps_mends b c parent.row row.row raised.row (s.0.mends.whole ∙ whole) t.keeps) in
    (mends_on a e f (mends_on a c e m1 h.mends) i.mends, i.holds ∙ h.holds ∙ keeps_holds b c parent.row row.row raised.row t.keeps ∙ s.1)

-- and what is known of the three rows then
pub turned_lowers : (a c e f : Known) (parent row raised : Grip) (p d : Side) → IsEdge a.view (edge_at parent p row) → Mends a f × (f.view.holds ≡ a.view.holds) → Rotates a c (turn_at parent p row d raised) → Heightens c e (later row) → Heightens e f raised → Lowers a f (turn_at parent p row d raised)
turned_lowers a c e f parent row raised p d u m t h i = record {
  mends = m.0;
  holds = m.1;
  above = i.knows parent.row (link_field p) raised.row (λ z. link_no_height p z.1) (h.knows parent.row (link_field p) raised.row (λ z. link_no_height p z.1) t.above);
  count = i.knows row.row Stamp (row.stamp + 4) (λ z. let e : Stamp ≡ Height = z.1 in cc) (h.knows row.row Stamp (row.stamp + 4) (λ z. let e : Stamp ≡ Height = z.1 in cc) t.lowered.is_stamp);
}

-- after a look
pub lowers_after : (a b c : Known) (t : Turn) → Looks a b → Lowers b c t → Lowers a c t
lowers_after a b c t s l = record { mends = mends_on a b c s.0.mends l.mends; holds = l.holds ∙ s.1; above = l.above; count = l.count }
