-- The rows of a change are freed one after another.
use Rattle.std.proofs.Common.{◌≡◌, ◌≢◌, ℕ, List, [], ◌∷◌, Bool, false, true, refl, sym, ap, ◌∙◌, arith}
use Rattle.snap_prelude.proofs.Common.{dite, one_same, removed_other, removed_same, ℕ_discrete}
use Rattle.row_tests.specs.Stopping.{HasTaken, HoldsRoot, HoldsTop, HoldsTurn, IsWritingPass, MayUnlinkRoot}
use Rattle.snap_shape.specs.{Shapes.KeepsRest, declared.grip.Edge.Edge, declared.grip.Turn.Turn}
use Rattle.snap_prelude.specs.{Among, Becomes, IsOf, Known, Laid, removed, times, unlocked, Writing}

-- a list in which no number stands is empty
none_left : (l : List ℕ) → ((r : ℕ) → times r l ≡ 0) → l ≡ []
none_left [] none = refl
none_left (x ∷ xs) none = absurd (omega (arith, none x, one_same x x refl))

gone : (r s : ℕ) (l : List ℕ) → (r ≢ s → times r l ≡ 0) → times r (removed s l) ≡ 0
gone r s l h = dite (ℕ_discrete r s) (λ e. ap (λ (i : ℕ). times i (removed s l)) e ∙ removed_same s l) (λ ne. removed_other s r l ne ∙ h ne)

pub all_freed : (l : List ℕ) (a b c : ℕ) → ((r : ℕ) → r ≢ 0 → r ≢ a → r ≢ b → r ≢ c → times r l ≡ 0) → removed 0 (removed a (removed b (removed c l))) ≡ []
all_freed l a b c only = none_left (removed 0 (removed a (removed b (removed c l))))
    (λ r. gone r 0 (removed a (removed b (removed c l))) (λ nz. gone r a (removed b (removed c l)) (λ na. gone r b (removed c l) (λ nb. gone r c l (λ nc. only r nz na nb nc)))))

-- a row that isn't freed is held still
pub held_still : (a b : Known) (r s : ℕ) → Becomes a b (unlocked a.view r) → s ≢ r → Among s a.view.holds → Among s b.view.holds
held_still a b r s e ne h = omega (arith, h, ap (λ (k : Known). times s k.view.holds) e, removed_other r s a.view.holds ne)

pub writing_still : (rows : Laid) (a b : Known) (r : ℕ) (made : Bool) → Becomes a b (unlocked a.view r) → IsWritingPass rows a made → IsWritingPass rows b made
writing_still rows a b r made e w = record {
  of = (ap (λ (k : Known). k.table) e ∙ w.of.0, ap (λ (k : Known). k.view.rows) e ∙ w.of.1, ap (λ (k : Known). k.view.passes) e ∙ w.of.2);
  stage = ap (λ (k : Known). k.view.stage) e ∙ w.stage;
  whole = ap (λ (k : Known). k.view.doing) e ∙ w.whole;
}

-- once row 0 is freed, none is held
pub none_held : (rows : Laid) (a b d e f : Known) (made : Bool) (t : Turn) → HoldsTurn rows a made t → Becomes a b (unlocked a.view t.row.row) → Becomes b d (unlocked b.view t.raised.row) → Becomes d e (unlocked d.view t.parent.row) → Becomes e f (unlocked e.view 0) → f.view.holds ≡ []
none_held rows a b d e f made t h first second third last =
    ap (λ (k : Known). k.view.holds) last
    ∙ ap (removed 0) (ap (λ (k : Known). k.view.holds) third ∙ ap (removed t.parent.row) (ap (λ (k : Known). k.view.holds) second ∙ ap (removed t.raised.row) (ap (λ (k : Known). k.view.holds) first)))
    ∙ all_freed a.view.holds t.parent.row t.raised.row t.row.row (λ r nz n1 n2 n3. h.only r nz n1 n3 n2)

pub none_held_below : (rows : Laid) (a b c : Known) (made : Bool) (row : ℕ) → HoldsRoot rows a made row → Becomes a b (unlocked a.view row) → Becomes b c (unlocked b.view 0) → c.view.holds ≡ []
none_held_below rows a b c made row h first last =
    ap (λ (k : Known). k.view.holds) last
    ∙ ap (removed 0) (ap (λ (k : Known). k.view.holds) first)
    ∙ none_left (removed 0 (removed row a.view.holds)) (λ r. gone r 0 (removed row a.view.holds) (λ nz. gone r row a.view.holds (λ nr. h.only r nz nz nr)))

-- a change of the tree's shape leaves what is held
writes_on : (rows : Laid) (a b c : Known) (made : Bool) (x y z : ℕ) → a.view.stage ≡ Writing made false → IsOf b rows → b.view.stage ≡ a.view.stage → KeepsRest b c x y z → IsWritingPass rows c made
writes_on rows a b c made x y z stage of same k = record {
  of = (ap (λ (k : Known). k.table) k.is ∙ of.0, ap (λ (k : Known). k.view.rows) k.is ∙ of.1, ap (λ (k : Known). k.view.passes) k.is ∙ of.2);
  stage = ap (λ (k : Known). k.view.stage) k.is ∙ same ∙ stage;
  whole = k.whole;
}

pub holds_turn : (rows : Laid) (a b c : Known) (made : Bool) (t : Turn) (x y z : ℕ) → a.view.stage ≡ Writing made false → HasTaken rows a b t → t.parent.row ≢ 0 → KeepsRest b c x y z → HoldsTurn rows c made t
holds_turn rows a b c made t x y z stage m some k = record {
  writing = writes_on rows a b c made x y z stage m.of m.stage k;
  rows_are = m.rows_are;
  some = (some, m.turn.upper.is_row, m.turn.lower.is_row);
  apart = (m.turn.upper.apart, m.turn.apart, m.turn.lower.apart);
  zero = omega (arith, m.zero, ap (λ (k : Known). times 0 k.view.holds) k.is);
  upper = omega (arith, m.turn.upper.above.held, ap (λ (k : Known). times t.parent.row k.view.holds) k.is);
  row = omega (arith, m.turn.upper.below.held, ap (λ (k : Known). times t.row.row k.view.holds) k.is);
  raised = omega (arith, m.turn.lower.below.held, ap (λ (k : Known). times t.raised.row k.view.holds) k.is);
  only = λ q nz n1 n2 n3. ap (λ (k : Known). times q k.view.holds) k.is ∙ m.only q nz n1 n2 n3;
}

pub holds_top : (rows : Laid) (a b c : Known) (made : Bool) (t : Turn) (x y z : ℕ) → a.view.stage ≡ Writing made false → HasTaken rows a b t → t.parent.row ≡ 0 → KeepsRest b c x y z → HoldsTop rows c made t.row.row t.raised.row
holds_top rows a b c made t x y z stage m top k = record {
  writing = writes_on rows a b c made x y z stage m.of m.stage k;
  rows_are = (m.rows_are.1, m.rows_are.2);
  some = (m.turn.upper.is_row, m.turn.lower.is_row);
  apart = m.turn.lower.apart;
  zero = omega (arith, m.zero, ap (λ (k : Known). times 0 k.view.holds) k.is);
  row_held = omega (arith, m.turn.upper.below.held, ap (λ (k : Known). times t.row.row k.view.holds) k.is);
  raised_held = omega (arith, m.turn.lower.below.held, ap (λ (k : Known). times t.raised.row k.view.holds) k.is);
  only = λ q nz n1 n2. ap (λ (k : Known). times q k.view.holds) k.is ∙ m.only q nz (λ e. nz (e ∙ top)) n1 n2;
}

-- the lower one is freed, and the root is left
pub root_left : (rows : Laid) (a b : Known) (made : Bool) (row raised : ℕ) → HoldsTop rows a made row raised → Becomes a b (unlocked a.view raised) → HoldsRoot rows b made row
root_left rows a b made row raised h e = record {
  writing = writing_still rows a b raised made e h.writing;
  low = h.rows_are.0;
  some = h.some.0;
  zero = held_still a b raised 0 e (λ z. h.some.1 (sym z)) h.zero;
  held = held_still a b raised row e h.apart h.row_held;
  only = λ q nz _ n. ap (λ (k : Known). times q k.view.holds) e ∙ gone q raised a.view.holds (λ nr. h.only q nz n nr);
}

pub holds_root : (rows : Laid) (a b c : Known) (e : Edge) (x y z : ℕ) → a.view.stage ≡ Writing true false → MayUnlinkRoot rows a b e → KeepsRest b c x y z → HoldsRoot rows c true e.child.row
holds_root rows a b c e x y z stage m k = record {
  writing = writes_on rows a b c true x y z stage m.of m.stage k;
  low = m.rows_are.1;
  some = m.edge.is_row;
  zero = omega (arith, m.zero, ap (λ (k : Known). times 0 k.view.holds) k.is);
  held = omega (arith, m.edge.below.held, ap (λ (k : Known). times e.child.row k.view.holds) k.is);
  only = λ q nz n1 n2. ap (λ (k : Known). times q k.view.holds) k.is ∙ m.only q nz n1 n2;
}
