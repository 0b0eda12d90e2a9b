-- Copies and locks on the way down, and their release.
use Rattle.std.proofs.Common.{◌≡◌, ◌≢◌, ◌≤◌, ◌<◌, ◌∙◌, ◌+◌, ◌∷◌, inl, inr, ℕ, List, [], Bool, cond, Option, Some, refl, sym, ap, subst, arith, ⊎_elim, eq-eqb, ne_eqb}
use Rattle.snap_prelude.proofs.Common.{dite, Snapshot, ℕ_discrete}
use Rattle.snap_locks.specs.Held.{HasLocked}
use Rattle.snap_repair.proofs.Inner.{stops_by, stops_to}
use Rattle.snap_repair.specs.{Answers.IsRowsOut, Answers.stops_full, Answers.TriesRepair, Looking.child_on}
use Rattle.snap_repair.specs.{Looking.HasLook, Looking.height_on, Looking.LeansTo, Lowering.HasChildOn}
use Rattle.snap_repair.specs.{Lowering.IsHigher, Lowering.LacksRows, Lowering.OwnsLower, Mending.Looks, Mending.mended}
use Rattle.snap_repair.specs.{Mending.Mends, Mending.NoWord, declared.answer.Repaired.Repaired}
use Rattle.snap_repair.specs.{declared.answer.Repaired.TheVariants.RowsOut, declared.look.Look.Look}
use Rattle.snap_prelude.specs.{Among, Becomes, HasHeight, IsKnown, IsTilt, Known, Leans}
use Rattle.snap_prelude.specs.{link_field, other, removed, Side, times, unlocked, View}
use Rattle.snap_search.proofs.Working.{grows_same, no_notes}
use Rattle.snap_shape.proofs.Touching.{link_no_birth, link_no_key, link_no_stamp}
use Rattle.snap_shape.specs.{Grips.edge_at, Grips.HasGrip, Grips.IsEdge, Grips.Leads, declared.grip.Grip.Grip}
use Rattle.snap_repair.proofs.Mending.{grip_firm, locked_firm, mends_by, mends_on, mends_to, no_rows}

removed_none : (r : ℕ) (l : List ℕ) → times r l ≡ 0 → removed r l ≡ l
removed_none r [] z = refl
removed_none r (x ∷ xs) z = dite (ℕ_discrete x r)
    (λ e. absurd (let one : times r (x ∷ xs) ≡ 1 + times r xs = ap (λ (b : Bool). cond b 1 0 + times r xs) (eq-eqb r x (sym e)) in omega (arith, z, one)))
    (λ ne. ap (λ (b : Bool). cond b (removed r xs) (x ∷ removed r xs)) (ne_eqb x r ne) ∙ ap (λ (l : List ℕ). x ∷ l) (removed_none r xs (omega (arith, z))))

pub removed_back : (r : ℕ) (l : List ℕ) → times r l ≡ 0 → removed r (r ∷ l) ≡ l
removed_back r l z = ap (λ (b : Bool). cond b (removed r l) (r ∷ removed r l)) (eq-eqb r r refl) ∙ removed_none r l z

pub times_none : (r x : ℕ) (l : List ℕ) → r ≢ x → times r l ≡ 0 → times r (x ∷ l) ≡ 0
times_none r x l ne z = let e : times r (x ∷ l) ≡ 0 + times r l = ap (λ (b : Bool). cond b 1 0 + times r l) (ne_eqb r x ne) in omega (arith, e, z)

freed_mends : (d e : Known) (r : ℕ) → Becomes d e (unlocked d.view r) → Mends d e
freed_mends d e r h = record {
  is = h ∙ ap (λ (k : Known). mended d k.view) (sym h);
  whole = ap (λ (k : Known). k.view.doing) h;
  links = no_rows d.view e.view (ap (λ (k : Known). k.view.drawn) h) (ap (λ (k : Known). k.view.fresh.own) h);
  more = [];
  found = λ h. h;
  noted = no_notes d.view e.view (ap (λ (k : Known). k.view.noted.notes) h) (ap (λ (k : Known). k.view.noted.handed) h) (ap (λ (k : Known). k.view.noted.epochs) h) (λ i. ap (λ (k : Known). k.view.noted.worn) h ∙ i);
  reached = λ q. omega (arith, ap (λ (k : Known). times q k.view.trail.reached) h);
  present = λ n i. subst (λ (k : Known). Among n k.view.words.present) (sym h) i;
  lasting = λ q g y i. subst (λ (k : Known). IsKnown k.view.words.lasting q g y) (sym h) i;
  refused = grows_same d.view.words.refused e.view.words.refused (ap (λ (k : Known). k.view.words.refused) h);
}

-- work under a lock that is freed again
pub tries_locked : (rows : ℕ) (a b c d e : Known) (r : ℕ) (o : Option Repaired) → Mends a b → b.view.holds ≡ a.view.holds → times r a.view.holds ≡ 0 → HasLocked b c r → TriesRepair rows c d o → Becomes d e (unlocked d.view r) → TriesRepair rows a e o
tries_locked rows a b c d e r o m same free l t h =
    let k = locked_firm b c r l in let up = mends_on a b c m k.0.mends in let down = freed_mends d e r h in record {
      mends = mends_by (stops_full o) a d e (mends_to (stops_full o) a c d up t.mends) down;
      holds = ap (λ (x : Known). x.view.holds) h ∙ ap (removed r) (t.holds ∙ k.1 ∙ ap (λ (l : List ℕ). r ∷ l) same) ∙ removed_back r a.view.holds free;
      stops = stops_to rows a c e o up (stops_by rows c d e r o t.stops h);
    }

-- an edge that a copy and a lock below it leave
pub edge_owned : (rows : ℕ) (a b c : Known) (parent : Grip) (side : Side) (child r : ℕ) (upper lower : Grip) (d : Side) → upper.row ≢ parent.row → OwnsLower rows a b parent.row side child → HasLocked b c r → IsEdge a.view (edge_at upper d lower) → IsEdge c.view (edge_at upper d lower)
edge_owned rows a b c parent side child r upper lower d ne o l e =
    let k = (locked_firm b c r l).0 in record {
      above = grip_firm b c NoWord upper k (λ z. z) (λ z. z) (λ z. z) (grip_owned rows a b parent side child upper o e.above);
      below = grip_firm b c NoWord lower k (λ z. z) (λ z. z) (λ z. z) (grip_owned rows a b parent side child lower o e.below);
      leads = k.knows upper.row (link_field d) lower.row (λ z. z) (o.firm.knows upper.row (link_field d) lower.row (λ z. ne z.0) e.leads);
      is_row = e.is_row;
      on_right = e.on_right;
      apart = e.apart;
    }
  where
    grip_owned : (rows : ℕ) (a b : Known) (parent : Grip) (side : Side) (child : ℕ) (g : Grip) → OwnsLower rows a b parent.row side child → HasGrip a.view g → HasGrip b.view g
    grip_owned rows a b parent side child g o h = grip_firm a b (λ q f. (q ≡ parent.row) × (f ≡ link_field side)) g o.firm (λ z. link_no_key side (sym z.1)) (λ z. link_no_stamp side (sym z.1)) (λ z. link_no_birth side (sym z.1)) h

-- a side that is higher has a child
pub child_there : (rows : ℕ) (v : View) (r : ℕ) (l : Look) (d : Side) → HasLook rows v r l → height_on l d ≢ 0 → (child_on l d ≢ 0) × IsKnown v.words.knows r (link_field d) (child_on l d)
child_there rows v r l Side.Left h nz = ((λ z. nz (h.none.0 z)), h.left)
child_there rows v r l Side.Right h nz = ((λ z. nz (h.none.1 z)), h.right)

-- the place of the copy of the inner grandchild
pub inner_tilt : (v : View) (row lower : Grip) (d : Side) → Leans v row.row d → IsEdge v (edge_at row d lower) → HasChildOn v lower.row (other d) → IsTilt v row.row lower.row (other d)
inner_tilt v row lower d leans e c = record { higher = d; leans = leans; at = inr (e.leads, refl); child = c.0; some_child = c.1; leads = c.2 }

-- that grandchild is the higher one by what was loaded
pub higher_by : (rows : ℕ) (v : View) (r : ℕ) (l : Look) (d : Side) → HasLook rows v r l → height_on l d < height_on l (other d) → IsHigher v r (other d) × HasChildOn v r (other d)
higher_by rows v r l Side.Left h t = (record { high = l.right_height; low = l.left_height; is_high = h.right_height; is_low = h.left_height; less = t }, (l.right, (λ z. omega (arith, h.none.1 z, t)), h.right))
higher_by rows v r l Side.Right h t = (record { high = l.left_height; low = l.right_height; is_high = h.left_height; is_low = h.right_height; less = t }, (l.left, (λ z. omega (arith, h.none.0 z, t)), h.left))

-- the row leans by what was loaded
pub leans_by : (rows : ℕ) (v : View) (r : ℕ) (l : Look) (d : Side) → Among r v.holds → HasLook rows v r l → LeansTo l d → Leans v r d
leans_by rows v r l Side.Left held h t = record { held = held; high = l.left_height; low = l.right_height; is_high = h.left_height; is_low = h.right_height; tilts = t }
leans_by rows v r l Side.Right held h t = record { held = held; high = l.right_height; low = l.left_height; is_high = h.right_height; is_low = h.left_height; tilts = t }

high_on : (l : Look) (d : Side) → LeansTo l d → height_on l d ≢ 0
high_on l Side.Left t z = omega (arith, t, z)
high_on l Side.Right t z = omega (arith, t, z)

-- there is a child on that side
pub child_by : (rows : ℕ) (v : View) (r : ℕ) (l : Look) (d : Side) → HasLook rows v r l → LeansTo l d → HasChildOn v r d
child_by rows v r l d look t = let c = child_there rows v r l d look (high_on l d t) in (child_on l d, c.0, c.1)

-- the place of the copy of the higher child
pub child_tilt : (v : View) (r : ℕ) (d : Side) → Leans v r d → HasChildOn v r d → IsTilt v r r d
child_tilt v r d leans c = record { higher = d; leans = leans; at = inl (refl, refl); child = c.0; some_child = c.1; leads = c.2 }

-- the row leans still, once the child is a copy and locked
pub leans_owned : (rows : ℕ) (a b c : Known) (parent : Grip) (side : Side) (child r : ℕ) (d : Side) → OwnsLower rows a b parent.row side child → HasLocked b c r → (h : ℕ) (k : ℕ) → Among parent.row a.view.holds → side ≡ d → HasHeight a.view parent.row d h → h ≢ 0 → HasHeight a.view parent.row (other d) k → k + 2 ≤ h → Leans c.view parent.row d
leans_owned rows a b c parent side child r d o l h k held same high nz low tilts =
    let q = (locked_firm b c r l).0 in record {
      held = q.held parent.row (o.firm.held parent.row held);
      high = h;
      low = k;
      is_high = ⊎_elim (λ z. absurd (nz z.1)) (λ z. inr (q.heights parent.row d h (o.firm.heights parent.row d h z))) high;
      is_low = ⊎_elim (λ z. inl (q.knows parent.row (link_field (other d)) 0 (λ z. z) (o.firm.knows parent.row (link_field (other d)) 0 (λ w. no_other d (w.1 ∙ ap link_field same)) z.0), z.1)) (λ z. inr (q.heights parent.row (other d) k (o.firm.heights parent.row (other d) k z))) low;
      tilts = tilts;
    }
  where
    no_other : (s : Side) → link_field (other s) ≢ link_field s
    no_other Side.Left = λ e. cc
    no_other Side.Right = λ e. cc

pub lacks_tries : (rows n : ℕ) (a b : Known) (parent : ℕ) (d : Side) (at : Snapshot Known) → at.value ≡ b → LacksRows rows a b parent d n → TriesRepair rows a b (Some (RowsOut n at))
lacks_tries rows n a b parent d at is h = record { mends = h.mends; holds = h.holds; stops = subst (λ (k : Known). IsRowsOut rows a b k n) (sym is) (record { all = h.all; before = h.mends; parent = parent; side = d; wants = h.wants; after = ([], refl); full = h.full }) }

-- the row leans still after a look
pub leans_looks : (a b : Known) (r : ℕ) (d : Side) → Looks a b → Leans a.view r d → Leans b.view r d
leans_looks a b r d s h = record {
  held = s.0.held r h.held;
  high = h.high;
  low = h.low;
  is_high = go d h.high h.is_high;
  is_low = go (other d) h.low h.is_low;
  tilts = h.tilts;
}
  where
    go : (e : Side) (x : ℕ) → HasHeight a.view r e x → HasHeight b.view r e x
    go e x k = ⊎_elim (λ z. inl (s.0.knows r (link_field e) 0 (λ w. w) z.0, z.1)) (λ z. inr (s.0.heights r e x z)) k

-- the child that was locked, as the lower end of an edge
pub child_edge : (a b d : Known) (upper : Grip) (side : Side) (child : ℕ) (lower : Grip) → Looks a d → HasGrip a.view upper → upper.row ≢ 0 → Leads a.view upper.row side child → HasGrip d.view lower → lower.row ≡ child → child ≢ 0 → child ≢ upper.row → IsEdge d.view (edge_at upper side lower)
child_edge a b d upper side child lower s grip nz leads below same some apart = record {
  above = grip_firm a d NoWord upper s.0 (λ z. z) (λ z. z) (λ z. z) grip;
  below = below;
  leads = subst (Leads d.view upper.row side) (sym same) (s.0.knows upper.row (link_field side) child (λ z. z) leads);
  is_row = λ z. some (sym same ∙ z);
  on_right = λ z. absurd (nz z);
  apart = λ z. apart (sym same ∙ sym z);
}

no_other : (s : Side) → link_field (other s) ≢ link_field s
no_other Side.Left = λ e. cc
no_other Side.Right = λ e. cc

-- a height below a held row is known still, once a copy was linked elsewhere and locked
height_owned : (rows : ℕ) (a b c : Known) (parent : ℕ) (side : Side) (child lock r : ℕ) (d : Side) (x : ℕ) → OwnsLower rows a b parent side child → HasLocked b c lock → ((r ≡ parent) × (link_field d ≡ link_field side) → x ≢ 0) → HasHeight a.view r d x → HasHeight c.view r d x
height_owned rows a b c parent side child lock r d x o l some h =
    let q = (locked_firm b c lock l).0 in
    ⊎_elim (λ z. inl (q.knows r (link_field d) 0 (λ w. w) (o.firm.knows r (link_field d) 0 (λ w. some w z.1) z.0), z.1)) (λ z. inr (q.heights r d x (o.firm.heights r d x z))) h

-- a row above leans still, and the row with the copy is higher on that side
pub leans_past : (rows : ℕ) (a b c : Known) (parent : ℕ) (side : Side) (child lock r : ℕ) (d : Side) → r ≢ parent → OwnsLower rows a b parent side child → HasLocked b c lock → Leans a.view r d → Leans c.view r d
leans_past rows a b c parent side child lock r d apart o l h = record {
  held = (locked_firm b c lock l).0.held r (o.firm.held r h.held);
  high = h.high;
  low = h.low;
  is_high = height_owned rows a b c parent side child lock r d h.high o l (λ w. absurd (apart w.0)) h.is_high;
  is_low = height_owned rows a b c parent side child lock r (other d) h.low o l (λ w. absurd (apart w.0)) h.is_low;
  tilts = h.tilts;
}

pub higher_owned : (rows : ℕ) (a b c : Known) (parent : ℕ) (side : Side) (child lock : ℕ) → OwnsLower rows a b parent side child → HasLocked b c lock → IsHigher a.view parent side → IsHigher c.view parent side
higher_owned rows a b c parent side child lock o l h = record {
  high = h.high;
  low = h.low;
  is_high = height_owned rows a b c parent side child lock parent side h.high o l (λ w z. let t = h.less in omega (arith, t, z)) h.is_high;
  is_low = height_owned rows a b c parent side child lock parent (other side) h.low o l (λ w. absurd (no_other side w.1)) h.is_low;
  less = h.less;
}

-- and after a look
pub higher_looks : (a b : Known) (r : ℕ) (d : Side) → Looks a b → IsHigher a.view r d → IsHigher b.view r d
higher_looks a b r d s h = record { high = h.high; low = h.low; is_high = go d h.high h.is_high; is_low = go (other d) h.low h.is_low; less = h.less }
  where
    go : (e : Side) (x : ℕ) → HasHeight a.view r e x → HasHeight b.view r e x
    go e x k = ⊎_elim (λ z. inl (s.0.knows r (link_field e) 0 (λ w. w) z.0, z.1)) (λ z. inr (s.0.heights r e x z)) k

-- the same of a row that leaned
pub leans_on : (rows : ℕ) (a b c : Known) (row : Grip) (d : Side) (child r : ℕ) → Leans a.view row.row d → OwnsLower rows a b row.row d child → HasLocked b c r → Leans c.view row.row d
leans_on rows a b c row d child r h o k = leans_owned rows a b c row d child r d o k h.high h.low h.held refl h.is_high (λ z. let t = h.tilts in omega (arith, z, t)) h.is_low h.tilts

-- work without an answer under a lock that is freed again
pub mends_locked : (a b c d e : Known) (r : ℕ) → Mends a b → b.view.holds ≡ a.view.holds → times r a.view.holds ≡ 0 → HasLocked b c r → Mends c d × (d.view.holds ≡ c.view.holds) → Becomes d e (unlocked d.view r) → Mends a e × (e.view.holds ≡ a.view.holds)
mends_locked a b c d e r m same free l t h = let k = locked_firm b c r l in (
  mends_on a d e (mends_on a c d (mends_on a b c m k.0.mends) t.0) (freed_mends d e r h),
  ap (λ (x : Known). x.view.holds) h ∙ ap (removed r) (t.1 ∙ k.1 ∙ ap (λ (l : List ℕ). r ∷ l) same) ∙ removed_back r a.view.holds free,
)
