-- What an unlinking and a rotation leave of what their pass knows.
use Rattle.std.proofs.Common.{◌≡◌, ◌≢◌, ◌∙◌, ◌⊎◌, ◌+◌, inl, inr, ℕ, zero, suc, List, [], ◌∷◌, ◌++◌, cond, refl, sym, ap, subst, arith, ⊎_elim, Bool, ◌||◌}
use Rattle.snap_prelude.specs.{aimed_at, AimsAt, Among, Becomes, Birth, cleared, Fact, fact, Field, HasStamps, is_last}
use Rattle.snap_prelude.specs.{IsBorn, IsKnown, IsListed, IsPair, IsTurn, Key, Known, KnowsReason, lifted, link_field}
use Rattle.snap_prelude.specs.{link_turned, listing, lowered, Mark, other, read, row_spliced, shrunk, Side, Stamp}
use Rattle.snap_prelude.specs.{to_do_at, TurnsFor, unlinked, View}
use Rattle.snap_shape.specs.{Grips.edge_at, Grips.HasGrip, Grips.IsEdge, Grips.IsOfNow, Grips.turn_at, Shapes.Rotates}
use Rattle.snap_shape.specs.{Shapes.shaped, Shapes.Unlinks, declared.grip.Grip.Grip}
use Rattle.snap_shape.proofs.Touching.{None, One, Stays, grip_stays, link_no_birth, link_no_key, link_no_stamp, loaded, loaded_here, stays_on, stored, stored_here}

abbrev known_as : Known → View → Known
known_as k v = record { table = k.table; view = v }

-- a link is no stamp
no_refusal : (l : List Fact) (d : Side) (r x : ℕ) → cond (is_last (link_field d) x) (l ++ fact r (link_field d) x ∷ []) l ≡ l
no_refusal l Side.Left r x = refl
no_refusal l Side.Right r x = refl

-- what a grip tells of a row but 0
pub born : (v : View) (g : Grip) → HasGrip v g → IsOfNow v g.row → IsBorn v g.row
born v g h o = record { birth = o.birth; is_birth = o.is_birth; now = o.now; stamp = g.stamp; is_stamp = h.is_stamp; unmarked = let u = h.unmarked in omega (arith, u) }

pub own_row : (v : View) (g : Grip) → g.row ≢ 0 → HasGrip v g → IsOfNow v g.row
own_row v g nz h = ⊎_elim (λ z. absurd (nz z)) (λ o. o) h.own

upper_is : (v : View) (g : Grip) (d : Side) → HasGrip v g → (g.row ≡ 0 → d ≡ Side.Right) → ((g.row ≡ 0) × (d ≡ Side.Right)) ⊎ ((Among g.row v.trail.reached) × IsBorn v g.row)
upper_is v g d h right = ⊎_elim (λ z. inl (z, right z)) (λ o. inr (o.reached, born v g h o)) h.own

pub pair_of : (v : View) (upper lower : Grip) (d : Side) → IsEdge v (edge_at upper d lower) → IsPair v upper.row d lower.row
pair_of v upper lower d e = let below = e.below in let o = own_row v lower e.is_row below in record {
  held_parent = e.above.held;
  held = below.held;
  upper = upper_is v upper d e.above e.on_right;
  reached = o.reached;
  born = born v lower below o;
  child = e.leads;
  apart = e.apart;
}

pub turn_of : (v : View) (parent row raised : Grip) (p d : Side) → IsEdge v (edge_at parent p row) → IsEdge v (edge_at row d raised) → parent.row ≢ raised.row → IsTurn v parent.row p row.row d raised.row
turn_of v parent row raised p d e f apart = let o = own_row v row e.is_row e.below in let q = own_row v raised f.is_row f.below in record {
  held_parent = e.above.held;
  held = e.below.held;
  held_raised = f.below.held;
  parent_born = upper_is v parent p e.above e.on_right;
  reached = o.reached;
  born = born v row e.below o;
  raised_reached = q.reached;
  raised_born = born v raised f.below q;
  child = e.leads;
  raised_child = f.leads;
  apart = ((λ z. f.apart (sym z)), e.apart, apart);
}

-- an edge, where other words change
pub edge_stays : (a b : Known) (P : ℕ → Field → Type 0) (upper lower : Grip) (d : Side) → Stays a b P → ((f : Field) → P upper.row f → ⊥) → ((f : Field) → P lower.row f → ⊥) → IsEdge a.view (edge_at upper d lower) → IsEdge b.view (edge_at upper d lower)
edge_stays a b P upper lower d s up down e = record {
  above = grip_stays a b P upper s (up Key) (up Stamp) (up Birth) e.above;
  below = grip_stays a b P lower s (down Key) (down Stamp) (down Birth) e.below;
  leads = s.knows upper.row (link_field d) lower.row (up (link_field d)) e.leads;
  is_row = e.is_row;
  on_right = e.on_right;
  apart = e.apart;
}

shaped_by : (a c k : Known) → c ≡ k → k ≡ shaped a k.view → c ≡ shaped a c.view
shaped_by a c k e s = e ∙ s ∙ ap (λ (x : Known). shaped a x.view) (sym e)

aimed_to : (n key : ℕ) (l : List Mark) → (aimed_at n key l).to_do ≡ to_do_at n key
aimed_to zero key l = refl
aimed_to (suc n) key l = refl

-- an unlinking
pub unlinks : (a b c : Known) (parent row : Grip) (d : Side) (only : ℕ) → Becomes a b (unlinked a.view parent.row d row.row only parent.key (row.stamp + 1)) → Becomes b c (row_spliced b.view parent.row d only) → Unlinks a c (edge_at parent d row) only
unlinks a b c parent row d only e f =
    let s1 = stored a b (unlinked a.view parent.row d row.row only parent.key (row.stamp + 1)) row.row Stamp (row.stamp + 1) e refl refl refl refl in
    let s2 = stored b c (row_spliced b.view parent.row d only) parent.row (link_field d) only f refl refl refl refl in
    let s = stays_on a b c (One row.row Stamp) (One parent.row (link_field d)) s1 s2 in record {
      keeps = record {
        is = shaped_by a c (known_as a (row_spliced (unlinked a.view parent.row d row.row only parent.key (row.stamp + 1)) parent.row d only)) (f ∙ ap (λ (k : Known). known_as k (row_spliced k.view parent.row d only)) e) refl;
        reached = s.reached;
        whole = ap (λ (k : Known). k.view.doing) f;
        worn = λ h. ap (λ (k : Known). k.view.noted.worn) f ∙ ap (λ (k : Known). k.view.noted.worn) e ∙ h;
        refused = ap (λ (k : Known). k.view.words.refused) f ∙ ap (λ (k : Known). k.view.words.refused) e;
        others = λ q g x n1 n2 n3 h. s.knows q g x (λ z. ⊎_elim (λ t. n2 t.0) (λ t. n1 t.0) z) h;
        grips = λ g ne h. grip_stays a c (λ q i. One row.row Stamp q i ⊎ One parent.row (link_field d) q i) g s
            (λ z. ⊎_elim (λ t. let q : Key ≡ Stamp = t.1 in cc) (λ t. link_no_key d (sym t.1)) z) (λ z. ⊎_elim (λ t. ne t.0) (λ t. link_no_stamp d (sym t.1)) z) (λ z. ⊎_elim (λ t. let q : Birth ≡ Stamp = t.1 in cc) (λ t. link_no_birth d (sym t.1)) z) h;
      };
      leads = stored_here b c (row_spliced b.view parent.row d only) parent.row (link_field d) only f refl;
      to_do = ap (λ (k : Known). k.view.debt.to_do) f ∙ ap (λ (k : Known). k.view.debt.to_do) e ∙ aimed_to parent.row parent.key _;
    }

listed_more : (m x n y : ℕ) (l : List Mark) → IsListed n y l → IsListed n y (listing m x l)
listed_more zero x n y l h = h
listed_more (suc m) x n y l h = inr h

-- the fields that a rotation changes
abbrev Turning : ℕ → Side → ℕ → Side → ℕ → ℕ → Field → Type 0
Turning parent p row d raised q g = One row Stamp q g ⊎ One row (link_field d) q g ⊎ One raised (link_field (other d)) q g ⊎ One parent (link_field p) q g

-- the steps of a rotation
pub record Turned_by (a b c d e f g : Known) (parent : Grip) (p : Side) (row : Grip) (side : Side) (raised : Grip) (middle key : ℕ) : Type 0 where
  pub load : Becomes a b (read a.view raised.row (link_field (other side)) middle)
  pub mark : Becomes b c (shrunk b.view parent.row p row.row side raised.row (row.stamp + 2) key)
  pub lower : Becomes c d (lowered c.view parent.row p row.row side raised.row middle)
  pub lift : Becomes d e (lifted d.view parent.row p row.row side raised.row)
  pub raise : Becomes e f (link_turned e.view parent.row p row.row raised.row row.key)
  pub clear : Becomes f g (cleared f.view row.row (row.stamp + 2 + 2))

module _ (a b c d e f g : Known) (parent : Grip) (p : Side) (row : Grip) (side : Side) (raised : Grip) (middle key : ℕ) (t : Turned_by a b c d e f g parent p row side raised middle key) where
  abbrev P : ℕ → Field → Type 0
  P = Turning parent.row p row.row side raised.row

  wider : (x y : Known) (Q : ℕ → Field → Type 0) → ((q : ℕ) (i : Field) → Q q i → P q i) → Stays x y Q → Stays x y P
  wider x y Q up s = record { holds = s.holds; reached = s.reached; present = s.present; knows = λ q i z ne h. s.knows q i z (λ w. ne (up q i w)) h }

  both : (x y z : Known) → Stays x y P → Stays y z P → Stays x z P
  both x y z s r = wider x z (λ q i. P q i ⊎ P q i) (λ q i w. ⊎_elim (λ h. h) (λ h. h) w) (stays_on x y z P P s r)

  to_b : Stays a b P
  to_b = wider a b None (λ q i h. absurd h) (loaded a b raised.row (link_field (other side)) middle t.load)

  b_to_c : Stays b c (One row.row Stamp)
  b_to_c = stored b c (shrunk b.view parent.row p row.row side raised.row (row.stamp + 2) key) row.row Stamp (row.stamp + 2) t.mark refl refl refl refl

  c_to_d : Stays c d (One row.row (link_field side))
  c_to_d = stored c d (lowered c.view parent.row p row.row side raised.row middle) row.row (link_field side) middle t.lower refl refl refl refl

  d_to_e : Stays d e (One raised.row (link_field (other side)))
  d_to_e = stored d e (lifted d.view parent.row p row.row side raised.row) raised.row (link_field (other side)) row.row t.lift refl refl refl refl

  e_to_f : Stays e f (One parent.row (link_field p))
  e_to_f = stored e f (link_turned e.view parent.row p row.row raised.row row.key) parent.row (link_field p) raised.row t.raise refl refl refl refl

  f_to_g : Stays f g (One row.row Stamp)
  f_to_g = stored f g (cleared f.view row.row (row.stamp + 2 + 2)) row.row Stamp (row.stamp + 2 + 2) t.clear refl refl refl refl

  to_c : Stays a c P
  to_c = both a b c to_b (wider b c (One row.row Stamp) (λ q i h. inl h) b_to_c)

  to_d : Stays a d P
  to_d = both a c d to_c (wider c d (One row.row (link_field side)) (λ q i h. inr (inl h)) c_to_d)

  to_e : Stays a e P
  to_e = both a d e to_d (wider d e (One raised.row (link_field (other side))) (λ q i h. inr (inr (inl h))) d_to_e)

  to_f : Stays a f P
  to_f = both a e f to_e (wider e f (One parent.row (link_field p)) (λ q i h. inr (inr (inr h))) e_to_f)

  to_g : Stays a g P
  to_g = both a f g to_f (wider f g (One row.row Stamp) (λ q i h. inl h) f_to_g)

  no_key : (q : ℕ) → P q Key → ⊥
  no_key q h = elim h [ inl x ↦ (let z : Key ≡ Stamp = x.1 in cc) | inr y ↦ elim y [ inl x ↦ link_no_key side (sym x.1) | inr z ↦ elim z [ inl x ↦ link_no_key (other side) (sym x.1) | inr x ↦ link_no_key p (sym x.1) ] ] ]

  no_birth : (q : ℕ) → P q Birth → ⊥
  no_birth q h = elim h [ inl x ↦ (let z : Birth ≡ Stamp = x.1 in cc) | inr y ↦ elim y [ inl x ↦ link_no_birth side (sym x.1) | inr z ↦ elim z [ inl x ↦ link_no_birth (other side) (sym x.1) | inr x ↦ link_no_birth p (sym x.1) ] ] ]

  no_stamp : (q : ℕ) → q ≢ row.row → P q Stamp → ⊥
  no_stamp q ne h = elim h [ inl x ↦ ne x.0 | inr y ↦ elim y [ inl x ↦ link_no_stamp side (sym x.1) | inr z ↦ elim z [ inl x ↦ link_no_stamp (other side) (sym x.1) | inr x ↦ link_no_stamp p (sym x.1) ] ] ]

  -- what the steps on the way need
  pub middle_known : raised.row ≢ row.row → Among raised.row a.view.holds → IsKnown c.view.words.knows raised.row (link_field (other side)) middle
  middle_known ne held = b_to_c.knows raised.row (link_field (other side)) middle (λ z. ne z.0) (loaded_here a b raised.row (link_field (other side)) middle held t.load)

  pub key_known : HasGrip a.view row → IsKnown e.view.words.knows row.row Key row.key
  key_known h = to_e.knows row.row Key row.key (no_key row.row) h.is_key

  marked_stamp : IsKnown e.view.words.knows row.row Stamp (row.stamp + 2)
  marked_stamp =
      let here = stored_here b c (shrunk b.view parent.row p row.row side raised.row (row.stamp + 2) key) row.row Stamp (row.stamp + 2) t.mark refl in
      d_to_e.knows row.row Stamp (row.stamp + 2) (λ z. link_no_stamp (other side) (sym z.1)) (c_to_d.knows row.row Stamp (row.stamp + 2) (λ z. link_no_stamp side (sym z.1)) here)

  pub stamps_known : HasGrip a.view parent → HasGrip a.view raised → parent.row ≢ row.row → raised.row ≢ row.row → HasStamps e.view parent.row row.row raised.row
  stamps_known above below n1 n2 = (
    inr (parent.stamp, to_e.knows parent.row Stamp parent.stamp (no_stamp parent.row n1) above.is_stamp),
    (row.stamp + 2, marked_stamp),
    (raised.stamp, to_e.knows raised.row Stamp raised.stamp (no_stamp raised.row n2) below.is_stamp),
  )

  pub stamp_known : IsKnown f.view.words.knows row.row Stamp (row.stamp + 2)
  stamp_known = e_to_f.knows row.row Stamp (row.stamp + 2) (λ z. link_no_stamp p (sym z.1)) marked_stamp

  pub rotates : IsEdge a.view (edge_at parent p row) → IsEdge a.view (edge_at row side raised) → parent.row ≢ raised.row → ((x : ℕ) → parent.row ≢ 0 → IsKnown e.view.words.knows parent.row Stamp x → IsListed parent.row x f.view.debt.list) → Rotates a g (turn_at parent p row side raised)
  rotates upper lower apart listed =
      let step : Known → Known = λ (k : Known). known_as k (read k.view raised.row (link_field (other side)) middle) in
      let is1 : b ≡ known_as a (read a.view raised.row (link_field (other side)) middle) = t.load in
      let is2 = t.mark ∙ ap (λ (k : Known). known_as k (shrunk k.view parent.row p row.row side raised.row (row.stamp + 2) key)) is1 in
      let is3 = t.lower ∙ ap (λ (k : Known). known_as k (lowered k.view parent.row p row.row side raised.row middle)) is2 in
      let is4 = t.lift ∙ ap (λ (k : Known). known_as k (lifted k.view parent.row p row.row side raised.row)) is3 in
      let is5 = t.raise ∙ ap (λ (k : Known). known_as k (link_turned k.view parent.row p row.row raised.row row.key)) is4 in
      let is6 = t.clear ∙ ap (λ (k : Known). known_as k (cleared k.view row.row (row.stamp + 2 + 2))) is5 in
      let v6 : View = cleared (link_turned (lifted (lowered (shrunk (read a.view raised.row (link_field (other side)) middle) parent.row p row.row side raised.row (row.stamp + 2) key) parent.row p row.row side raised.row middle) parent.row p row.row side raised.row) parent.row p row.row raised.row row.key) row.row (row.stamp + 2 + 2) in
      let grip : (h : Grip) → h.row ≢ row.row → HasGrip a.view h → HasGrip g.view h = λ h ne x. grip_stays a g P h to_g (no_key h.row) (no_stamp h.row ne) (no_birth h.row) x in
      let row_grip = upper.below in let row_own = own_row a.view row upper.is_row row_grip in
      let more : row.stamp + 2 + 2 ≡ row.stamp + 4 = omega arith in
      let clean = row_grip.unmarked in
      record {
        keeps = record {
          is = shaped_by a g (known_as a v6) is6 refl;
          reached = to_g.reached;
          whole = ap (λ (k : Known). k.view.doing) t.clear;
          worn = λ h. ap (λ (k : Known). k.view.noted.worn) is6 ∙ ap (λ (z : Bool). z || is_last (link_field (other side)) middle) h;
          refused = ap (λ (k : Known). k.view.words.refused) is6 ∙ no_refusal a.view.words.refused (other side) raised.row middle;
          others = λ q i x n1 n2 n3 h. to_g.knows q i x (λ z. elim z [ inl y ↦ n2 y.0 | inr y ↦ elim y [ inl w ↦ n2 w.0 | inr w ↦ elim w [ inl u ↦ n3 u.0 | inr u ↦ n1 u.0 ] ] ]) h;
          grips = grip;
        };
        lowered = record {
          held = subst (Among row.row) (sym to_g.holds) row_grip.held;
          is_key = to_g.knows row.row Key row.key (no_key row.row) row_grip.is_key;
          is_stamp = subst (IsKnown g.view.words.knows row.row Stamp) more (stored_here f g (cleared f.view row.row (row.stamp + 2 + 2)) row.row Stamp (row.stamp + 2 + 2) t.clear refl);
          unmarked = omega (arith, clean);
          own = inr (record { reached = omega (arith, row_own.reached, to_g.reached row.row); birth = row_own.birth; is_birth = to_g.knows row.row Birth row_own.birth (no_birth row.row) row_own.is_birth; now = subst (Among row_own.birth) (sym to_g.present) row_own.now });
        };
        above = f_to_g.knows parent.row (link_field p) raised.row (λ z. link_no_stamp p z.1) (stored_here e f (link_turned e.view parent.row p row.row raised.row row.key) parent.row (link_field p) raised.row t.raise refl);
        below = f_to_g.knows raised.row (link_field (other side)) row.row (λ z. link_no_stamp (other side) z.1) (e_to_f.knows raised.row (link_field (other side)) row.row (λ z. apart (sym z.0)) (stored_here d e (lifted d.view parent.row p row.row side raised.row) raised.row (link_field (other side)) row.row t.lift refl));
        to_do = ap (λ (k : Known). k.view.debt.to_do) t.clear ∙ ap (λ (k : Known). k.view.debt.to_do) t.raise;
        noted = λ nz. record {
          stamp = parent.stamp;
          still = (grip parent upper.apart upper.above).is_stamp;
          listed = subst (λ (k : Known). IsListed parent.row parent.stamp k.view.debt.list) (sym t.clear) (listed_more row.row (row.stamp + 2 + 2) parent.row parent.stamp f.view.debt.list (listed parent.stamp nz (to_e.knows parent.row Stamp parent.stamp (no_stamp parent.row upper.apart) upper.above.is_stamp)));
        };
      }

-- the condition on the to-do key stays over a load
pub turns_still : (a b : Known) (parent row raised key r : ℕ) (f : Field) (x : ℕ) → Becomes a b (read a.view r f x) → TurnsFor a.view parent row raised key → TurnsFor b.view parent row raised key
turns_still a b parent row raised key r f x e h = subst (λ (k : Known). TurnsFor k.view parent row raised key) (sym e) (go h)
  where
    w : View
    w = read a.view r f x

    knows : (q : ℕ) (y : ℕ) → IsKnown a.view.words.knows q Key y → IsKnown w.words.knows q Key y
    knows q y k = let s = loaded a (known_as a w) r f x refl in s.knows q Key y (λ z. z) k

    why : KnowsReason a.view → KnowsReason w
    why (inl full) = inl full
    why (inr worn) = inr (ap (λ (t : Bool). t || is_last f x) worn)

    aims : (n : ℕ) → AimsAt a.view n → AimsAt w n
    aims n q = record { is_row = q.is_row; key = q.key; is_key = knows n q.key q.is_key; to_do = q.to_do }

    go : TurnsFor a.view parent row raised key → TurnsFor w parent row raised key
    go (inl q) = inl (knows row key q.0, elim q.1 [ inl n ↦ inl n | inr y ↦ elim y [ inl z ↦ inr (inl (why z)) | inr z ↦ elim z [ inl u ↦ inr (inr (inl (aims row u))) | inr u ↦ inr (inr (inr (aims parent u))) ] ] ])
    go (inr q) = inr (knows raised key q.0, elim q.1 [ inl z ↦ inl (why z) | inr t ↦ inr t ])

-- a load across, by the side
pub by_side : (a b : Known) (raised : Grip) (d e : Side) (x : ℕ) → d ≡ e → Becomes a b (read a.view raised.row (link_field d) x) → Becomes a b (read a.view raised.row (link_field e) x)
by_side a b raised d e x same h = subst (λ (s : Side). Becomes a b (read a.view raised.row (link_field s) x)) same h

-- the row's key is known before the tree turns
pub key_on : (a b c d e : Known) (parent : Grip) (p : Side) (row : Grip) (side : Side) (raised : Grip) (middle key : ℕ) → Becomes a b (read a.view raised.row (link_field (other side)) middle) → Becomes b c (shrunk b.view parent.row p row.row side raised.row (row.stamp + 2) key)
    → Becomes c d (lowered c.view parent.row p row.row side raised.row middle) → Becomes d e (lifted d.view parent.row p row.row side raised.row) → HasGrip a.view row → IsKnown e.view.words.knows row.row Key row.key
key_on a b c d e parent p row side raised middle key load mark lower lift h =
    key_known a b c d e (known_as e (link_turned e.view parent.row p row.row raised.row row.key)) (known_as e (cleared (link_turned e.view parent.row p row.row raised.row row.key) row.row (row.stamp + 2 + 2))) parent p row side raised middle key
    (record { load = load; mark = mark; lower = lower; lift = lift; raise = refl; clear = refl }) h

-- and the stamps of the three rows
pub stamps_on : (a b c d e : Known) (parent : Grip) (p : Side) (row : Grip) (side : Side) (raised : Grip) (middle key : ℕ) → Becomes a b (read a.view raised.row (link_field (other side)) middle) → Becomes b c (shrunk b.view parent.row p row.row side raised.row (row.stamp + 2) key)
    → Becomes c d (lowered c.view parent.row p row.row side raised.row middle) → Becomes d e (lifted d.view parent.row p row.row side raised.row) → IsEdge a.view (edge_at parent p row) → IsEdge a.view (edge_at row side raised) → HasStamps e.view parent.row row.row raised.row
stamps_on a b c d e parent p row side raised middle key load mark lower lift upper below =
    stamps_known a b c d e (known_as e (link_turned e.view parent.row p row.row raised.row row.key)) (known_as e (cleared (link_turned e.view parent.row p row.row raised.row row.key) row.row (row.stamp + 2 + 2))) parent p row side raised middle key
    (record { load = load; mark = mark; lower = lower; lift = lift; raise = refl; clear = refl }) upper.above below.below upper.apart (λ q. below.apart (sym q))
