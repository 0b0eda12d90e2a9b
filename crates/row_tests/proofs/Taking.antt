-- Rows that a pass takes one below the other.
use Rattle.std.proofs.Common.{◌≡◌, ◌≢◌, inl, refl, ℕ, ◌<◌, ◌≤◌, List, [], ◌∷◌, sym, ap, ◌∙◌, subst, arith}
use Rattle.snap_copy.specs.Mending.{Firm, Looks, NoWord}
use Rattle.snap_locks.specs.Held.{HasLocked}
use Rattle.snap_repair.proofs.Mending.{firm_on, grip_firm, locked_firm, looks_on, read_looks}
use Rattle.snap_repair.specs.Answers.{IsMending}
use Rattle.snap_shape.specs.{Grips.edge_at, Grips.HasGrip, Grips.IsEdge, Grips.Leads, Grips.turn_at, Shapes.MayRotate}
use Rattle.snap_shape.specs.{declared.grip.Edge.Edge, declared.grip.Grip.Grip, declared.grip.Turn.Turn}
use Rattle.snap_prelude.specs.{Becomes, count_of, Field, IsKnown, IsOf, Known, Laid}
use Rattle.snap_prelude.specs.{last_count, link_field, no_debt, read, Side, times, Value}
use Rattle.snap_stamp.specs.declared.layout.Field.TheVariants.{Left, Right}
use Rattle.snap_prelude.proofs.Common.{one_other, one_same}
use Rattle.row_tests.specs.Stopping.{HasTaken, HoldsOnly, IsUnlinkable, MayTurn, MayTurnRoot, MayUnlink, MayUnlinkRoot, Takes, TakesEdge, TakesTop}

pub grip_kept : (a b : Known) (g : Grip) → Firm a b NoWord → HasGrip a.view g → HasGrip b.view g
grip_kept a b g f h = grip_firm a b NoWord g f (λ z. z) (λ z. z) (λ z. z) h

pub edge_kept : (a b : Known) (upper lower : Grip) (d : Side) → Firm a b NoWord → IsEdge a.view (edge_at upper d lower) → IsEdge b.view (edge_at upper d lower)
edge_kept a b upper lower d f e = record {
  above = grip_kept a b upper f e.above;
  below = grip_kept a b lower f e.below;
  leads = f.knows upper.row (link_field d) lower.row (λ z. z) e.leads;
  is_row = e.is_row;
  on_right = e.on_right;
  apart = e.apart;
}

-- row 0 alone is held
pub top_only : (a b c : Known) (upper lower : ℕ) → a.view.holds ≡ [] → HasLocked a b 0 → Looks b c → HoldsOnly c.view upper lower
top_only a b c upper lower free l s =
    let holds : c.view.holds ≡ 0 ∷ [] = s.1 ∙ (locked_firm a b 0 l).1 ∙ ap (λ (x : List ℕ). 0 ∷ x) free in
    λ r nz n1 n2. omega (arith, ap (times r) holds, one_other r 0 nz)

pub takes : (rows : ℕ) (a b c d : Known) (upper n : ℕ) (parent child : Grip) (side : Side) → Becomes a b (read a.view parent.row (link_field side) n) → HasLocked b c n → Looks c d → child.row ≡ n → HasGrip d.view child → HasGrip a.view parent → Leads b.view parent.row side n → n ≢ 0 → n ≢ upper → n ≢ parent.row → n ≤ rows → (parent.row ≡ 0 → side ≡ Side.Right) → HoldsOnly a.view upper parent.row → Takes rows a d upper parent side child
takes rows a b c d upper n parent child side load l s is grip above leads nz n1 n2 low right only =
    let first = read_looks a b parent.row (link_field side) n load in
    let second = locked_firm b c n l in
    let on : Firm b d NoWord = firm_on b c d second.0 s.0 in
    let all : Firm a d NoWord = firm_on a b d first.0 on in
    let holds : d.view.holds ≡ n ∷ a.view.holds = s.1 ∙ second.1 ∙ ap (λ (x : List ℕ). n ∷ x) first.1 in record {
      firm = all;
      edge = record {
        above = grip_kept a d parent all above;
        below = grip;
        leads = subst (λ (x : ℕ). IsKnown d.view.words.knows parent.row (link_field side) x) (sym is) (on.knows parent.row (link_field side) n (λ z. z) leads);
        is_row = λ z. nz (sym is ∙ z);
        on_right = right;
        apart = λ z. n2 (sym is ∙ sym z);
      };
      low = omega (arith, is, low);
      apart = λ z. n1 (sym is ∙ z);
      only = λ r rz r1 r2 r3. omega (arith, ap (times r) holds, only r rz r1 r2, one_more r n a.view.holds (λ z. r3 (z ∙ sym is)));
    }
  where
    one_more : (r m : ℕ) (l : List ℕ) → r ≢ m → times r (m ∷ l) ≡ times r l
    one_more r m l ne = omega (arith, one_other r m ne)

-- the root is taken, and then its child
pub root_only : (rows : ℕ) (a b : Known) (top root : Grip) (side : Side) → top.row ≡ 0 → Takes rows a b 0 top side root → HoldsOnly b.view 0 root.row
root_only rows a b top root side is t = λ r nz n1 n2. t.only r nz n1 (λ z. nz (z ∙ is)) n2

pub takes_top : (rows : ℕ) (a b c d : Known) (top root : Grip) (side : Side) → HasLocked a b 0 → Looks b c → top.row ≡ 0 → Takes rows c d 0 top side root → TakesTop rows a d (edge_at top side root)
takes_top rows a b c d top root side l s is t =
    let lock = locked_firm a b 0 l in
    let on : Firm b d NoWord = firm_on b c d s.0 t.firm in record {
      firm = firm_on a b d lock.0 on;
      edge = t.edge;
      low = (omega (arith, is), t.low);
      top = is;
      zero = on.held 0 (omega (arith, ap (times 0) lock.1, one_same 0 0 refl));
      only = root_only rows c d top root side is t;
    }

pub takes_edge : (rows : ℕ) (a b c : Known) (e : Edge) (row : Grip) (side : Side) → TakesTop rows a b e → Takes rows b c 0 e.child side row → TakesEdge rows a c (edge_at e.child side row)
takes_edge rows a b c e row side t u = record {
  firm = firm_on a b c t.firm u.firm;
  edge = u.edge;
  low = (t.low.1, u.low);
  some = t.edge.is_row;
  zero = u.firm.held 0 t.zero;
  only = λ r nz n1 n2. u.only r nz nz n1 n2;
}

pub of_kept : (rows : Laid) (a b : Known) → Firm a b NoWord → IsOf a rows → IsOf b rows
of_kept rows a b f of = (ap (λ (k : Known). k.table) f.mends.is ∙ of.0, ap (λ (k : Known). k.view.rows) f.mends.is ∙ of.1, ap (λ (k : Known). k.view.passes) f.mends.is ∙ of.2)

-- three rows are taken, each below the other
pub has_taken : (rows : Laid) (a b c : Known) (e : Edge) (side : Side) (raised : Grip) → IsOf a rows → IsMending a.view → TakesEdge rows.rows a b e → Takes rows.rows b c e.parent.row e.child side raised → HasTaken rows a c (turn_at e.parent e.side e.child side raised)
has_taken rows a b c e side raised of m t u =
    let all : Firm a c NoWord = firm_on a b c t.firm u.firm in record {
      of = of_kept rows a c all of;
      rows_are = (t.low.0, t.low.1, u.low);
      turn = record { upper = edge_kept b c e.parent e.child e.side u.firm t.edge; lower = u.edge; apart = λ z. u.apart (sym z) };
      whole = all.mends.whole ∙ m.whole;
      stage = ap (λ (k : Known). k.view.stage) all.mends.is;
      zero = u.firm.held 0 t.zero;
      only = u.only;
    }

taken_on : (rows : Laid) (a b c : Known) (t : Turn) → HasTaken rows a b t → Looks b c → HasTaken rows a c t
taken_on rows a b c t h s = record {
  of = of_kept rows b c s.0 h.of;
  rows_are = h.rows_are;
  turn = record { upper = edge_kept b c t.parent t.row t.parent_side s.0 h.turn.upper; lower = edge_kept b c t.row t.raised t.side s.0 h.turn.lower; apart = h.turn.apart };
  whole = s.0.mends.whole ∙ h.whole;
  stage = ap (λ (k : Known). k.view.stage) s.0.mends.is ∙ h.stage;
  zero = s.0.held 0 h.zero;
  only = λ r nz n1 n2 n3. ap (times r) s.1 ∙ h.only r nz n1 n2 n3;
}

-- they may be turned, where the pass owes nothing
may_rotate : (rows : Laid) (a k : Known) (t : Turn) → HasTaken rows a k t → k.view.debt ≡ no_debt → count_of t.row.stamp < last_count → MayRotate rows k t t.row.key
may_rotate rows a k t h owes count = record { table = h.of; within = h.rows_are; turn = h.turn; aims = inl (h.turn.upper.below.is_key, inl owes); count = count; whole = h.whole }

-- the rows of a rotation
pub may_turn : (rows : Laid) (a b c : Known) (e : Edge) (side : Side) (raised : Grip) → IsOf a rows → IsMending a.view → a.view.debt ≡ no_debt → TakesEdge rows.rows a b e → Takes rows.rows b c e.parent.row e.child side raised → count_of e.child.stamp < last_count → MayTurn rows a c (turn_at e.parent e.side e.child side raised)
may_turn rows a b c e side raised of m owes t u count =
    let taken = has_taken rows a b c e side raised of m t u in let none = (firm_on a b c t.firm u.firm).debt ∙ owes in
    record { taken = taken; some = t.some; owes = none; rotates = may_rotate rows a c (turn_at e.parent e.side e.child side raised) taken none count }

-- the rows of a rotation of the root
pub may_turn_root : (rows : Laid) (a b c : Known) (e : Edge) (side : Side) (raised : Grip) → IsOf a rows → IsMending a.view → a.view.debt ≡ no_debt → TakesTop rows.rows a b e → Takes rows.rows b c 0 e.child side raised → count_of e.child.stamp < last_count → MayTurnRoot rows a c (turn_at e.parent e.side e.child side raised)
may_turn_root rows a b c e side raised of m owes t u count =
    let all : Firm a c NoWord = firm_on a b c t.firm u.firm in
    let taken : HasTaken rows a c (turn_at e.parent e.side e.child side raised) = record {
      of = of_kept rows a c all of;
      rows_are = (t.low.0, t.low.1, u.low);
      turn = record { upper = edge_kept b c e.parent e.child e.side u.firm t.edge; lower = u.edge; apart = λ z. u.apart (sym z ∙ t.top) };
      whole = all.mends.whole ∙ m.whole;
      stage = ap (λ (k : Known). k.view.stage) all.mends.is;
      zero = u.firm.held 0 t.zero;
      only = λ r nz n1 n2 n3. u.only r nz nz n2 n3;
    } in record {
      taken = taken;
      top = t.top;
      owes = all.debt ∙ owes;
      rotates = may_rotate rows a c (turn_at e.parent e.side e.child side raised) taken (all.debt ∙ owes) count;
    }

abbrev word : Known → Known → ℕ → Field → ℕ → Type 0
word a b r f x = Becomes a b (read a.view r f x)

-- the words of a row are loaded
pub words_look : (a b c d : Known) (r x y z : ℕ) → word a b r Value x → word b c r Left y → word c d r Right z → Looks a d
words_look a b c d r x y z value left right = looks_on a b d (read_looks a b r Value x value) (looks_on b c d (read_looks b c r Left y left) (read_looks c d r Right z right))

-- the rows of an unlinking
pub may_unlink : (rows : Laid) (a b c d : Known) (e : Edge) (side : Side) (raised : Grip) → IsOf a rows → IsMending a.view → TakesEdge rows.rows a b e → Takes rows.rows b c e.parent.row e.child side raised → Looks c d → IsUnlinkable d.view raised.row → MayUnlink rows a d (turn_at e.parent e.side e.child side raised)
may_unlink rows a b c d e side raised of m t u s gone = record { taken = taken_on rows a c d (turn_at e.parent e.side e.child side raised) (has_taken rows a b c e side raised of m t u) s; some = t.some; gone = gone }

-- row 0 and the root
pub may_unlink_root : (rows : Laid) (a b c : Known) (e : Edge) → IsOf a rows → IsMending a.view → TakesTop rows.rows a b e → Looks b c → IsUnlinkable c.view e.child.row → MayUnlinkRoot rows a c e
may_unlink_root rows a b c e of m t w gone =
    let all : Firm a c NoWord = firm_on a b c t.firm w.0 in record {
      of = of_kept rows a c all of;
      rows_are = t.low;
      edge = edge_kept b c e.parent e.child e.side w.0 t.edge;
      gone = gone;
      whole = all.mends.whole ∙ m.whole;
      stage = ap (λ (k : Known). k.view.stage) all.mends.is;
      zero = w.0.held 0 t.zero;
      only = λ r nz n1 n2. ap (times r) w.1 ∙ t.only r nz n1 n2;
    }
