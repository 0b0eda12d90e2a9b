-- A row that gets its right height, and the to-do key that goes up.
use Rattle.std.proofs.Common.{◌≡◌, ◌≢◌, ◌∙◌, ◌⊎◌, ◌∷◌, ◌==◌, inl, inr, ℕ, zero, suc, List, [], Bool, true, false, cond, eqb-true, refl, sym, ap, subst, arith, ⊎_elim}
use Rattle.snap_prelude.proofs.Common.{dite, ℕ_discrete}
use Rattle.snap_repair.specs.{Answers.EndsRepair, Looking.HasLook, Looking.height_over, Looking.IsEven}
use Rattle.snap_repair.specs.{Looking.LooksSettled, Looking.Routes, Mending.Looks, Mending.mended, Mending.Mends}
use Rattle.snap_repair.specs.{Raising.Heightens, Raising.Lifts, Raising.SetsRight, declared.look.Look.Look}
use Rattle.snap_prelude.specs.{aimed_at, Among, Becomes, Birth, ChildHeight, Field, HasHeight, Height, heightened}
use Rattle.snap_prelude.specs.{heights_forgotten, IsBelow, IsKnown, IsListed, IsRightHeight, IsSeenSettled, Key, Known}
use Rattle.snap_prelude.specs.{link_field, Mark, passed_up, settled_last, Side, Stamp, taken, times, to_do_at}
use Rattle.snap_prelude.specs.{Value, View, word_in}
use Rattle.snap_search.proofs.Working.{grows_same, no_notes}
use Rattle.snap_shape.proofs.Touching.{One, stored, stored_here}
use Rattle.snap_shape.specs.{Grips.edge_at, Grips.HasGrip, Grips.IsEdge, Grips.IsOfNow, Shapes.Unlinks}
use Rattle.snap_shape.specs.{declared.grip.Grip.Grip}
use Rattle.snap_stamp.specs.declared.layout.Field.TheVariants.{Left, Right}
use Rattle.snap_repair.proofs.Mending.{grip_looks, keeps_holds, keeps_mends, mends_on, no_rows}
use Rattle.snap_repair.proofs.Raising.{grip_height, link_no_height, listed_more, stored_mends}

-- a repair that does nothing
pub mends_itself : (a : Known) → Mends a a
mends_itself a = record {
  is = refl;
  whole = refl;
  links = no_rows a.view a.view refl refl;
  more = [];
  found = λ h. h;
  noted = no_notes a.view a.view refl refl refl (λ h. h);
  reached = λ r. omega arith;
  present = λ e h. h;
  lasting = λ q f x h. h;
  refused = grows_same a.view.words.refused a.view.words.refused refl;
}

-- and neither does a look
pub looks_itself : (a : Known) → Looks a a
looks_itself a = (record { mends = mends_itself a; held = λ r h. h; knows = λ q f x ne h. h; heights = λ q d h i. i; place = refl; debt = refl }, refl)

below_else : (l : List ChildHeight) (p r : ℕ) (d : Side) (h : ℕ) → r ≢ p → IsBelow l r d h → IsBelow (heights_forgotten l p) r d h
below_else [] p r d h ne i = i
below_else (x ∷ xs) p r d h ne i = go (x.row == p) refl i (λ k. below_else xs p r d h ne k)
  where
    go : (a : Bool) → (x.row == p) ≡ a → ((x.row ≡ r) × (x.side ≡ d) × (x.height ≡ h)) ⊎ IsBelow xs r d h → (IsBelow xs r d h → IsBelow (heights_forgotten xs p) r d h) → IsBelow (cond a (heights_forgotten xs p) (x ∷ heights_forgotten xs p)) r d h
    go true ea (inl e) on = absurd (ne (sym e.0 ∙ eqb-true x.row p ea))
    go true ea (inr k) on = on k
    go false ea (inl e) on = inl e
    go false ea (inr k) on = inr (on k)

-- or it was stored
pub right_now : (a b : Known) (parent row : Grip) (rows : ℕ) (l : Look) (h : ℕ) → parent.row ≢ row.row → HasLook rows a.view row.row l → h ≡ height_over l → Becomes a b (heightened a.view parent.row row.row row.key h) → SetsRight a b row l
right_now a b parent row rows l h apart look is e =
    let s = stored a b (heightened a.view parent.row row.row row.key h) row.row Height h e refl refl refl refl in
    let height : (d : Side) (x : ℕ) → HasHeight a.view row.row d x → HasHeight b.view row.row d x = λ d x k. ⊎_elim (λ z. inl (s.knows row.row (link_field d) 0 (λ w. link_no_height d w.1) z.0, z.1)) (λ z. inr (subst (λ (i : Known). IsBelow i.view.heights row.row d x) (sym e) (below_else a.view.heights parent.row row.row d x (λ w. apart (sym w)) z))) k in record {
      heightens = record {
        mends = stored_mends a b (heightened a.view parent.row row.row row.key h) (One row.row Height) e refl refl refl refl refl refl refl refl refl refl refl s;
        holds = s.holds;
        knows = λ q f x ne k. s.knows q f x ne k;
        listed = λ n x k. subst (λ (z : Known). IsListed n x z.view.debt.list) (sym e) (listed_more parent.row (word_in a.view.words.knows parent.row Stamp) n x a.view.debt.list k);
        to_do = ap (λ (k : Known). k.view.debt.to_do) e;
      };
      height = subst (IsKnown b.view.words.knows row.row Height) is (stored_here a b (heightened a.view parent.row row.row row.key h) row.row Height h e refl);
      left_height = height Side.Left l.left_height look.left_height;
      right_height = height Side.Right l.right_height look.right_height;
    }

-- the right height, for the store
pub right_height : (v : View) (r rows : ℕ) (l : Look) (h : ℕ) → HasLook rows v r l → h ≡ height_over l → IsRightHeight v r h
right_height v r rows l h look is = record { left = l.left_height; right = l.right_height; has_left = look.left_height; has_right = look.right_height; sum = is }

-- what shows the row to be settled then
pub seen_settled : (a b : Known) (parent row : Grip) (rows : ℕ) (l : Look) → HasLook rows a.view row.row l → IsEven l → (Routes l → ⊥) → SetsRight a b row l → IsSeenSettled b.view row.row
seen_settled a b parent row rows l look even full s = record {
  height = height_over l;
  left = l.left_height;
  right = l.right_height;
  is_height = s.height;
  has_left = s.left_height;
  has_right = s.right_height;
  balanced = record { sum = refl; left_low = even.0; right_low = even.1 };
  full = dite (ℕ_discrete l.value 0)
      (λ z. inr (l.left, l.right, (λ q. full (z, inl q)), (λ q. full (z, inr q)), kept Left l.left (λ e. cc) look.left, kept Right l.right (λ e. cc) look.right))
      (λ nz. inl (l.value, nz, kept Value l.value (λ e. cc) look.value));
}
  where
    kept : (f : Field) (x : ℕ) → (f ≡ Height → ⊥) → IsKnown a.view.words.knows row.row f x → IsKnown b.view.words.knows row.row f x
    kept f x ne h = s.heightens.knows row.row f x (λ z. ne z.1) h

-- and so does what was loaded of it
pub look_settled : (v : View) (r rows : ℕ) (l : Look) → HasLook rows v r l → LooksSettled l → IsSeenSettled v r
look_settled v r rows l look s = record {
  height = l.height;
  left = l.left_height;
  right = l.right_height;
  is_height = look.height;
  has_left = look.left_height;
  has_right = look.right_height;
  balanced = s.0;
  full = dite (ℕ_discrete l.value 0) (λ z. inr (l.left, l.right, (λ q. s.1 (z, inl q)), (λ q. s.1 (z, inr q)), look.left, look.right)) (λ nz. inl (l.value, nz, look.value));
}

-- the row and its parent are joined still
pub edge_height : (a b : Known) (parent r : Grip) (upper lower : Grip) (d : Side) → Heightens a b r → IsEdge a.view (edge_at upper d lower) → IsEdge b.view (edge_at upper d lower)
edge_height a b parent r upper lower d s e = record {
  above = grip_height a b parent r upper s e.above;
  below = grip_height a b parent r lower s e.below;
  leads = s.knows upper.row (link_field d) lower.row (λ z. link_no_height d z.1) e.leads;
  is_row = e.is_row;
  on_right = e.on_right;
  apart = e.apart;
}

pub passed_mends : (b c : Known) (p key r : ℕ) → Becomes b c (passed_up b.view p key r) → Mends b c
passed_mends b c p key r e = record {
  is = e ∙ ap (λ (k : Known). mended b k.view) (sym e);
  whole = ap (λ (k : Known). k.view.doing) e;
  links = no_rows b.view c.view (ap (λ (k : Known). k.view.drawn) e) (ap (λ (k : Known). k.view.fresh.own) e);
  more = [];
  found = λ h. h;
  noted = no_notes b.view c.view (ap (λ (k : Known). k.view.noted.notes) e) (ap (λ (k : Known). k.view.noted.handed) e) (ap (λ (k : Known). k.view.noted.epochs) e) (λ h. ap (λ (k : Known). k.view.noted.worn) e ∙ h);
  reached = λ q. omega (arith, ap (λ (k : Known). times q k.view.trail.reached) e);
  present = λ n h. subst (λ (k : Known). Among n k.view.words.present) (sym e) h;
  lasting = λ q g y h. subst (λ (k : Known). IsKnown k.view.words.lasting q g y) (sym e) h;
  refused = grows_same b.view.words.refused c.view.words.refused (ap (λ (k : Known). k.view.words.refused) e);
}

-- a repair ends
pub ends_repair : (a b : Known) → Becomes a b (settled_last a.view) → EndsRepair a b
ends_repair a b e = record { mends = passed_mends a b 0 0 0 e; holds = ap (λ (k : Known). k.view.holds) e; debt = ap (λ (k : Known). k.view.debt) e }

-- the same words are known where only steps and debt are others
same_grip : (b c : Known) (g : Grip) → c.view.words.knows ≡ b.view.words.knows → c.view.holds ≡ b.view.holds → c.view.trail.reached ≡ b.view.trail.reached → c.view.words.present ≡ b.view.words.present → HasGrip b.view g → HasGrip c.view g
same_grip b c g knows holds reached present h = record {
  held = subst (Among g.row) (sym holds) h.held;
  is_key = subst (λ l. IsKnown l g.row Key g.key) (sym knows) h.is_key;
  is_stamp = subst (λ l. IsKnown l g.row Stamp g.stamp) (sym knows) h.is_stamp;
  unmarked = h.unmarked;
  own = own h.own;
}
  where
    own : (g.row ≡ 0) ⊎ IsOfNow b.view g.row → (g.row ≡ 0) ⊎ IsOfNow c.view g.row
    own (inl z) = inl z
    own (inr o) = inr (record { reached = subst (Among g.row) (sym reached) o.reached; birth = o.birth; is_birth = subst (λ l. IsKnown l g.row Birth o.birth) (sym knows) o.is_birth; now = subst (Among o.birth) (sym present) o.now })

aimed_to : (n key : ℕ) (l : List Mark) → (aimed_at n key l).to_do ≡ to_do_at n key
aimed_to zero key l = refl
aimed_to (suc n) key l = refl

pub lifts : (a b c : Known) (parent row : Grip) (l : Look) → SetsRight a b row l → Becomes b c (passed_up b.view parent.row parent.key row.row) → Lifts a c parent row
lifts a b c parent row l s e = record {
  mends = mends_on a b c s.heightens.mends (passed_mends b c parent.row parent.key row.row e);
  holds = ap (λ (k : Known). k.view.holds) e ∙ s.heightens.holds;
  others = λ q f x n1 n2 h. subst (λ (k : Known). IsKnown k.view.words.knows q f x) (sym e) (s.heightens.knows q f x (λ z. n2 z.0) h);
  grips = λ g ne h. same_grip b c g (ap (λ (k : Known). k.view.words.knows) e) (ap (λ (k : Known). k.view.holds) e) (ap (λ (k : Known). k.view.trail.reached) e) (ap (λ (k : Known). k.view.words.present) e) (grip_height a b parent row g s.heightens h);
}

pub lifted_to : (b c : Known) (p key r : ℕ) → Becomes b c (passed_up b.view p key r) → c.view.debt.to_do ≡ to_do_at p key
lifted_to b c p key r e = ap (λ (k : Known). k.view.debt.to_do) e ∙ aimed_to p key (taken r b.view.debt.list)

-- an unlinking, and a look alone, as parts of it
pub unlinks_lifts : (a b c : Known) (parent row : Grip) (d : Side) (only : ℕ) → a.view.doing ≡ Rattle.snap_rule.specs.declared.change.Doing.TheVariants.Nothing → Looks a b → Unlinks b c (edge_at parent d row) only → Lifts a c parent row
unlinks_lifts a b c parent row d only whole s u = record {
  mends = mends_on a b c s.0.mends (keeps_mends b c parent.row row.row row.row (s.0.mends.whole ∙ whole) u.keeps);
  holds = keeps_holds b c parent.row row.row row.row u.keeps ∙ s.1;
  others = λ q f x n1 n2 h. u.keeps.others q f x n1 n2 n2 (s.0.knows q f x (λ z. z) h);
  grips = λ g ne h. u.keeps.grips g ne (grip_looks a b g s h);
}

pub lifts_after : (a b c : Known) (parent row : Grip) → Looks a b → Lifts b c parent row → Lifts a c parent row
lifts_after a b c parent row s u = record {
  mends = mends_on a b c s.0.mends u.mends;
  holds = u.holds ∙ s.1;
  others = λ q f x n1 n2 h. u.others q f x n1 n2 (s.0.knows q f x (λ z. z) h);
  grips = λ g ne h. u.grips g ne (grip_looks a b g s h);
}
