-- The double rotation: what each of its parts leaves for the next.
use Rattle.std.proofs.Common.{append_assoc, ◌≡◌, ◌≢◌, ◌≤◌, ◌<◌, ◌∙◌, ◌∷◌, ◌++◌, inl, inr, ℕ, List, [], Bool, true, false, cond, le-leb, Option, Some, None, refl, sym, ap, subst, arith, zero, suc, ⊎_elim, ◌||◌}
use Rattle.snap_prelude.proofs.Common.{Snapshot}
use Rattle.snap_repair.specs.Answers.{FindsWorn, Frees, IsMending, IsRefused, IsToLower, IsWornOut, Stops, TriesRepair, freed, stops_full}
use Rattle.snap_repair.specs.declared.answer.Repaired.TheVariants.{Done, RowsOut, StampOut}
use Rattle.snap_repair.specs.{Mending.Looks, Mending.mended, Mending.Mends, Raising.Lifts}
use Rattle.snap_repair.specs.{declared.answer.Repaired.Repaired}
use Rattle.snap_prelude.specs.{aimed_at, aimed_view, Among, Becomes, count_of, Fact, fact, Field}
use Rattle.snap_prelude.specs.{is_last, IsHeldRow, IsKnown, IsOf, Known, Laid, last_count, link_field, Mark}
use Rattle.snap_prelude.specs.{MayAimAt, Nothing, other, read, Side, Stamp, times, unlocked, View}
use Rattle.snap_search.proofs.Working.{grows_read, no_notes}
use Rattle.snap_shape.proofs.Shaping.{born, edge_stays, pair_of}
use Rattle.snap_shape.proofs.Touching.{None as NoOther, Stays, grip_stays, loaded}
use Rattle.snap_shape.specs.{Grips.edge_at, Grips.HasGrip, Grips.IsEdge, Grips.IsTurning, Grips.Leads, Grips.turn_at}
use Rattle.snap_shape.specs.{Grips.AreWithin, Shapes.later, Shapes.MayRotate, Shapes.Rotates, declared.grip.Grip.Grip, declared.grip.Turn.Turn}
use Rattle.snap_repair.proofs.Mending.{edge_looks, grip_looks, keeps_holds, keeps_mends, looks_on, mends_on, mends_to, no_rows, read_looks}

-- a pass that repairs goes on with it
pub mending_on : (a b : Known) → Mends a b → IsMending a.view → IsMending b.view
mending_on a b m h = let w = h.writing in record { writing = (w.0, w.1, ap (λ (k : Known). k.view.stage) m.is ∙ w.2); whole = m.whole ∙ h.whole }

-- the row's child may be lowered below its own child: the row has the to-do key
pub may_lower : (rows : Laid) (a e : Known) (t : Turn) (raised : Grip) → IsOf a rows → IsMending a.view → AreWithin rows.rows t × (raised.row ≤ rows.rows) → Looks a e → IsTurning a.view t → IsEdge a.view (edge_at t.raised (other t.side) raised) → t.row.row ≢ raised.row → a.view.debt.to_do ≡ Some t.row.key → count_of t.raised.stamp < last_count
    → MayRotate rows e (turn_at t.row t.side t.raised (other t.side) raised) t.raised.key
may_lower rows a e t raised of m low s q inner apart to_do count =
    let is = s.0.mends.is in let u = edge_looks a e t.row t.raised t.side s q.lower in record {
      table = (ap (λ (k : Known). k.table) is ∙ of.0, ap (λ (k : Known). k.view.rows) is ∙ of.1, ap (λ (k : Known). k.view.passes) is ∙ of.2);
      within = (low.0.1, low.0.2, low.1);
      turn = record { upper = u; lower = edge_looks a e t.raised raised (other t.side) s inner; apart = apart };
      aims = inl (u.below.is_key, inr (inr (inr (record { is_row = q.upper.is_row; key = t.row.key; is_key = u.above.is_key; to_do = ap (λ d. d.to_do) s.0.debt ∙ to_do }))));
      count = count;
      whole = s.0.mends.whole ∙ m.whole;
    }

-- the to-do key moves
pub aims_mends : (a b : Known) (r key : ℕ) → ((x : ℕ) × Becomes a b (aimed_view a.view r key x)) → Mends a b × (b.view.holds ≡ a.view.holds)
aims_mends a b r key h = let e = h.1 in let s = loaded a (record { table = a.table; view = read a.view r Stamp h.0 }) r Stamp h.0 refl in (
  record {
    is = e ∙ ap (λ (k : Known). mended a k.view) (sym e);
    whole = ap (λ (k : Known). k.view.doing) e;
    links = no_rows a.view b.view (ap (λ (k : Known). k.view.drawn) e) (ap (λ (k : Known). k.view.fresh.own) e);
    more = [];
    found = λ h. h;
    noted = no_notes a.view b.view (ap (λ (k : Known). k.view.noted.notes) e) (ap (λ (k : Known). k.view.noted.handed) e) (ap (λ (k : Known). k.view.noted.epochs) e) (λ i. ap (λ (k : Known). k.view.noted.worn) e ∙ ap (λ (t : Bool). t || is_last Stamp h.0) i);
    reached = λ q. omega (arith, s.reached q, ap (λ (k : Known). times q k.view.trail.reached) e);
    present = λ n h. subst (λ (k : Known). Among n k.view.words.present) (sym e) h;
    lasting = λ q g y h. subst (λ (k : Known). IsKnown k.view.words.lasting q g y) (sym e) h;
    refused = grows_read a b r Stamp h.0 (ap (λ (k : Known). k.view.words.refused) e);
  },
  ap (λ (k : Known). k.view.holds) e,
)

-- the child of the row whose key is the to-do key
pub aims_below : (a b : Known) (upper lower : Grip) (d : Side) → Looks a b → IsEdge a.view (edge_at upper d lower) → upper.row ≢ 0 → a.view.debt.to_do ≡ Some upper.key → MayAimAt b.view lower.row
aims_below a b upper lower d s e nz to_do =
    let f = edge_looks a b upper lower d s e in
    inr (inr (record { parent = upper.row; side = d; pair = pair_of b.view upper lower d f; aims = record { is_row = nz; key = upper.key; is_key = f.above.is_key; to_do = ap (λ u. u.to_do) s.0.debt ∙ to_do } }))

-- the first rotation and what follows it leave the rows above as they were
pub above_still : (e f h : Known) (parent row lower inner : Grip) (side d : Side) → IsEdge e.view (edge_at parent side row) → IsEdge e.view (edge_at row d lower) → parent.row ≢ lower.row → parent.row ≢ inner.row → row.row ≢ inner.row → Rotates e f (turn_at row d lower (other d) inner) → Lifts f h inner (later lower) → IsEdge h.view (edge_at parent side row)
above_still e f h parent row lower inner side d u l a1 a2 a3 t s = record {
  above = s.grips parent a1 (t.keeps.grips parent a1 u.above);
  below = s.grips row l.apart (t.keeps.grips row l.apart u.below);
  leads = s.others parent.row (link_field side) row.row a2 a1 (t.keeps.others parent.row (link_field side) row.row u.apart a1 a2 u.leads);
  is_row = u.is_row;
  on_right = u.on_right;
  apart = u.apart;
}

pub inner_edge : (e f h : Known) (row lower inner : Grip) (d : Side) → IsEdge e.view (edge_at row d lower) → IsEdge e.view (edge_at lower (other d) inner) → row.row ≢ inner.row → row.row ≢ 0 → Rotates e f (turn_at row d lower (other d) inner) → Lifts f h inner (later lower) → IsEdge h.view (edge_at row d inner)
inner_edge e f h row lower inner d l i a3 nz t s = record {
  above = s.grips row l.apart (t.keeps.grips row l.apart l.above);
  below = s.grips inner (λ z. i.apart (sym z)) (t.keeps.grips inner (λ z. i.apart (sym z)) i.below);
  leads = s.others row.row (link_field d) inner.row a3 l.apart t.above;
  is_row = i.is_row;
  on_right = λ z. absurd (nz z);
  apart = a3;
}

other_twice : (d : Side) → other (other d) ≡ d
other_twice Side.Left = refl
other_twice Side.Right = refl

-- the row that the first rotation lowered, below the inner one
pub dropped_edge : (e f : Known) (row lower inner : Grip) (d : Side) → IsEdge e.view (edge_at row d lower) → IsEdge e.view (edge_at lower (other d) inner) → Rotates e f (turn_at row d lower (other d) inner) → IsEdge f.view (edge_at inner d (later lower))
dropped_edge e f row lower inner d l i t = record {
  above = t.keeps.grips inner (λ z. i.apart (sym z)) i.below;
  below = t.lowered;
  leads = subst (λ (s : Side). Leads f.view inner.row s lower.row) (other_twice d) t.below;
  is_row = l.is_row;
  on_right = λ z. absurd (i.is_row z);
  apart = λ z. i.apart (sym z);
}

pub rotation_mends : (a e f : Known) (row lower inner : Grip) (d : Side) → a.view.doing ≡ Nothing → Looks a e → Rotates e f (turn_at row d lower (other d) inner) → Mends a f × (f.view.holds ≡ a.view.holds)
rotation_mends a e f row lower inner d whole s t = (mends_on a e f s.0.mends (keeps_mends e f row.row lower.row inner.row (s.0.mends.whole ∙ whole) t.keeps), keeps_holds e f row.row lower.row inner.row t.keeps ∙ s.1)

-- what was found in a part of a call was found in the call
known_left : (l m : List Fact) (r : ℕ) (f : Field) (x : ℕ) → IsKnown l r f x → IsKnown (l ++ m) r f x
known_left [] m r f x h = absurd h
known_left (y ∷ ys) m r f x (inl e) = inl e
known_left (y ∷ ys) m r f x (inr h) = inr (known_left ys m r f x h)

known_right : (l m : List Fact) (r : ℕ) (f : Field) (x : ℕ) → IsKnown m r f x → IsKnown (l ++ m) r f x
known_right [] m r f x h = h
known_right (y ∷ ys) m r f x h = inr (known_right ys m r f x h)

pub refused_to : (a b c : Known) (r x : ℕ) → Mends a b → IsRefused b c r x → IsRefused a c r x
refused_to a b c r x m h = let g = m.refused in (g.0 ++ h.0, h.1 ∙ ap (λ (l : List Fact). l ++ h.0) g.1 ∙ append_assoc a.view.words.refused g.0 h.0, known_right g.0 h.0 r Stamp x h.2)

refused_by : (a b c : Known) (r x : ℕ) → IsRefused a b r x → c.view.words.refused ≡ b.view.words.refused → IsRefused a c r x
refused_by a b c r x h same = (h.0, same ∙ h.1, h.2)

freed_append : (l : List ℕ) (r : ℕ) (v : View) → freed (l ++ r ∷ []) v ≡ unlocked (freed l v) r
freed_append [] r v = refl
freed_append (x ∷ xs) r v = freed_append xs r (unlocked v x)

-- a row is freed after others
frees_then : (a b c : Known) (r : ℕ) → Frees a b → Becomes b c (unlocked b.view r) → Frees a c
frees_then a b c r f h = (f.0 ++ r ∷ [], h ∙ ap (λ (k : Known). let z : Known = record { table = k.table; view = unlocked k.view r } in z) f.1 ∙ ap (λ (v : View). let z : Known = record { table = a.table; view = v } in z) (sym (freed_append f.0 r a.view)))

pub stops_to : (rows : ℕ) (a b c : Known) (o : Option Repaired) → Mends a b → Stops rows b c o → Stops rows a c o
stops_to rows a b c None m h = tt
stops_to rows a b c (Some Done) m h = h
stops_to rows a b c (Some (RowsOut n at)) m h = record { all = h.all; before = mends_to true a b at.value m h.before; parent = h.parent; side = h.side; wants = h.wants; after = h.after; full = h.full }
stops_to rows a b c (Some (StampOut r at)) m h = record { before = mends_on a b at.value m h.before; last = h.last; to_lower = h.to_lower; noted = refused_to a b c r h.last.stamp m h.noted; after = h.after; worn = h.worn }

pub stops_by : (rows : ℕ) (a b c : Known) (row : ℕ) (o : Option Repaired) → Stops rows a b o → Becomes b c (unlocked b.view row) → Stops rows a c o
stops_by rows a b c row None h e = tt
stops_by rows a b c row (Some Done) h e = ap (λ (k : Known). k.view.debt) e ∙ h
stops_by rows a b c row (Some (RowsOut n at)) h e = record { all = h.all; before = h.before; parent = h.parent; side = h.side; wants = h.wants; after = frees_then at.value b c row h.after e; full = omega (arith, h.full, ap (λ (k : Known). k.view.noted.handed) e) }
stops_by rows a b c row (Some (StampOut r at)) h e = record { before = h.before; last = h.last; to_lower = h.to_lower; noted = refused_by a b c r h.last.stamp h.noted (ap (λ (k : Known). k.view.words.refused) e); after = frees_then at.value b c row h.after e; worn = ap (λ (k : Known). k.view.noted.worn) e ∙ h.worn }

pub tries_after : (rows : ℕ) (a b c : Known) (o : Option Repaired) → Mends a b → b.view.holds ≡ a.view.holds → TriesRepair rows b c o → TriesRepair rows a c o
tries_after rows a b c o m h t = record { mends = mends_to (stops_full o) a b c m t.mends; holds = t.holds ∙ h; stops = stops_to rows a b c o m t.stops }

pub stops_none : (rows : ℕ) (a b : Known) → Mends a b → b.view.holds ≡ a.view.holds → TriesRepair rows a b None
stops_none rows a b m h = record { mends = m; holds = h; stops = tt }

-- a look that finds the stamp of a row that is to be lowered at the greatest count
pub worn_out : (a b : Known) (r : ℕ) → (w : FindsWorn a b r) → IsToLower b.view r → IsWornOut a b b r
worn_out a b r w low = record { before = w.looks.0.mends; last = w.last; to_lower = low; noted = w.noted; after = ([], refl); worn = w.last.worn }

-- after another look
pub worn_after : (a b c : Known) (r : ℕ) → Looks a b → FindsWorn b c r → FindsWorn a c r
worn_after a b c r s w = record { looks = looks_on a b c s w.looks; last = w.last; noted = refused_to a b c r w.last.stamp s.0.mends w.noted }

-- a try stops there
pub stops_worn : (rows : ℕ) (a b : Known) (row : ℕ) (at : Snapshot Known) → at.value ≡ b → b.view.holds ≡ a.view.holds → (w : IsWornOut a b b row) → Mends a b → TriesRepair rows a b (Some (StampOut row at))
stops_worn rows a b row at is h w m = record { mends = m; holds = h; stops = subst (λ (k : Known). IsWornOut a b k row) (sym is) w }

-- the load of a held row's stamp that finds it so
pub worn_here : (a b : Known) (g : Grip) → HasGrip a.view g → Becomes a b (read a.view g.row Stamp g.stamp) → count_of g.stamp ≡ last_count → FindsWorn a b g.row
worn_here a b g h e last =
    let s = read_looks a b g.row Stamp g.stamp e in let i = grip_looks a b g s h in let yes : is_last Stamp g.stamp ≡ true = le-leb last_count (count_of g.stamp) (omega (arith, last)) in record {
      looks = s;
      last = record { held = i.held; stamp = g.stamp; found = i.is_stamp; last = last; worn = ap (λ (k : Known). k.view.noted.worn) e ∙ ap (λ (t : Bool). a.view.noted.worn || t) yes ∙ or_true a.view.noted.worn };
      noted = (fact g.row Stamp g.stamp ∷ [], ap (λ (k : Known). k.view.words.refused) e ∙ ap (λ (t : Bool). cond t (a.view.words.refused ++ fact g.row Stamp g.stamp ∷ []) a.view.words.refused) yes, inl (refl, refl, refl));
    }
  where
    or_true : (t : Bool) → (t || true) ≡ true
    or_true true = refl
    or_true false = refl

-- the same words are known once the to-do key has moved
pub aimed_stays : (a b : Known) (r key : ℕ) → ((x : ℕ) × Becomes a b (aimed_view a.view r key x)) → Stays a b NoOther
aimed_stays a b r key h = let e = h.1 in let s = loaded a (record { table = a.table; view = read a.view r Stamp h.0 }) r Stamp h.0 refl in record {
  holds = ap (λ (k : Known). k.view.holds) e;
  reached = λ q. omega (arith, s.reached q, ap (λ (k : Known). times q k.view.trail.reached) e);
  present = ap (λ (k : Known). k.view.words.present) e;
  knows = λ q g y ne i. subst (λ (k : Known). IsKnown k.view.words.knows q g y) (sym e) (s.knows q g y (λ z. z) i);
}

aimed_key : (r key : ℕ) (l : List Mark) → r ≢ 0 → (aimed_at r key l).to_do ≡ Some key
aimed_key zero key l nz = absurd (nz refl)
aimed_key (suc r) key l nz = refl

pub aims_next : (a b : Known) (upper lower : Grip) (d : Side) → ((x : ℕ) × Becomes a b (aimed_view a.view upper.row upper.key x)) → IsEdge a.view (edge_at upper d lower) → upper.row ≢ 0 → MayAimAt b.view lower.row
aims_next a b upper lower d h e nz =
    let s = aimed_stays a b upper.row upper.key h in let f = edge_stays a b NoOther upper lower d s (λ i z. z) (λ i z. z) e in
    inr (inr (record { parent = upper.row; side = d; pair = pair_of b.view upper lower d f; aims = record { is_row = nz; key = upper.key; is_key = f.above.is_key; to_do = ap (λ (k : Known). k.view.debt.to_do) h.1 ∙ aimed_key upper.row upper.key a.view.debt.list nz } }))

pub held_row : (v : View) (g : Grip) → HasGrip v g → IsHeldRow v g.row
held_row v g h = (h.held, ⊎_elim (λ z. inl z) (λ o. inr (o.reached, born v g h o)) h.own)

pub aimed_grip : (a b : Known) (r key : ℕ) (g : Grip) → ((x : ℕ) × Becomes a b (aimed_view a.view r key x)) → HasGrip a.view g → HasGrip b.view g
aimed_grip a b r key g h i = grip_stays a b NoOther g (aimed_stays a b r key h) (λ z. z) (λ z. z) (λ z. z) i

-- the first of two rotations and what follows it leave the three rows ready for the second
pub record IsReadyAgain (a h : Known) (t : Turn) (raised : Grip) : Type 0 where
  pub mends : Mends a h
  pub holds : h.view.holds ≡ a.view.holds
  pub turning : IsTurning h.view (turn_at t.parent t.parent_side t.row t.side raised)

pub ready_again : (a e f h : Known) (t : Turn) (raised : Grip) → a.view.doing ≡ Nothing → Looks a e → IsTurning a.view t → IsEdge a.view (edge_at t.raised (other t.side) raised) → t.row.row ≢ raised.row → t.parent.row ≢ raised.row → Rotates e f (turn_at t.row t.side t.raised (other t.side) raised) → Lifts f h raised (later t.raised) → IsReadyAgain a h t raised
ready_again a e f h t raised whole s turning inner apart_row apart_up r l =
    let up = edge_looks a e t.parent t.row t.parent_side s turning.upper in
    let low = edge_looks a e t.row t.raised t.side s turning.lower in
    let inn = edge_looks a e t.raised raised (other t.side) s inner in
    let m = rotation_mends a e f t.row t.raised raised t.side whole s r in record {
      mends = mends_on a f h m.0 l.mends;
      holds = l.holds ∙ m.1;
      turning = record {
        upper = above_still e f h t.parent t.row t.raised raised t.parent_side t.side up low turning.apart apart_up apart_row r l;
        lower = inner_edge e f h t.row t.raised raised t.side low inn apart_row up.is_row r l;
        apart = apart_up;
      };
    }
