-- Steps by which a pass comes to know another word of one field, and knows all else as before.
use Rattle.std.proofs.Common.{◌≡◌, ◌≢◌, ◌≤◌, ◌∙◌, ◌⊎◌, ◌==◌, ◌&&◌, inl, inr, ℕ, List, [], ◌∷◌, Bool, true, false, cond, refl, sym, ap, subst, arith, nat_lt, eqb-true, lt-ltb}
use Rattle.snap_prelude.specs.{Among, Becomes, Birth, Fact, fact, Field, forgotten, IsKnown, Key, Known, led_to}
use Rattle.snap_prelude.specs.{link_field, place_of, read, same_field, Side, Stamp, times, View}
use Rattle.snap_shape.specs.{Grips.HasGrip, Grips.IsOfNow, declared.grip.Grip.Grip}
use Rattle.snap_prelude.proofs.Common.{one_place, times-append}

-- what stays where the words of some fields change
pub record Stays (a b : Known) (changed : ℕ → Field → Type 0) : Type 0 where
  pub holds : b.view.holds ≡ a.view.holds
  pub reached : (r : ℕ) → times r a.view.trail.reached ≤ times r b.view.trail.reached
  pub present : b.view.words.present ≡ a.view.words.present
  pub knows : (q : ℕ) (g : Field) (y : ℕ) → (changed q g → ⊥) → IsKnown a.view.words.knows q g y → IsKnown b.view.words.knows q g y

abbrev pub None : ℕ → Field → Type 0
None q g = ⊥

abbrev pub One : ℕ → Field → ℕ → Field → Type 0
One r f q g = (q ≡ r) × (g ≡ f)

pub stays_on : (a b c : Known) (P Q : ℕ → Field → Type 0) → Stays a b P → Stays b c Q → Stays a c (λ q g. P q g ⊎ Q q g)
stays_on a b c P Q x y = record {
  holds = y.holds ∙ x.holds;
  reached = λ r. omega (arith, x.reached r, y.reached r);
  present = y.present ∙ x.present;
  knows = λ q g z ne h. y.knows q g z (λ e. ne (inr e)) (x.knows q g z (λ e. ne (inl e)) h);
}

-- what is known of other words stays where one was forgotten
pub forgotten_else : (l : List Fact) (r : ℕ) (f : Field) (q : ℕ) (g : Field) (y : ℕ) → ((q ≡ r) × (g ≡ f) → ⊥) → IsKnown l q g y → IsKnown (forgotten l r f) q g y
forgotten_else [] r f q g y ne h = h
forgotten_else (x ∷ xs) r f q g y ne h = go (x.row == r) refl (same_field x.field f) refl h (λ k. forgotten_else xs r f q g y ne k)
  where
    go : (a : Bool) → (x.row == r) ≡ a → (b : Bool) → same_field x.field f ≡ b → ((x.row ≡ q) × (x.field ≡ g) × (x.word ≡ y)) ⊎ IsKnown xs q g y → (IsKnown xs q g y → IsKnown (forgotten xs r f) q g y) → IsKnown (cond (a && b) (forgotten xs r f) (x ∷ forgotten xs r f)) q g y
    go true ea true eb (inl e) on = absurd (ne (sym e.0 ∙ eqb-true x.row r ea, sym e.1 ∙ one_place x.field f (eqb-true (place_of x.field) (place_of f) eb)))
    go true ea true eb (inr k) on = on k
    go true ea false eb (inl e) on = inl e
    go true ea false eb (inr k) on = inr (on k)
    go false ea b eb (inl e) on = inl e
    go false ea b eb (inr k) on = inr (on k)

-- a step that stores one word
pub stored : (a b : Known) (w : View) (r : ℕ) (f : Field) (x : ℕ) → Becomes a b w → w.holds ≡ a.view.holds → w.trail.reached ≡ a.view.trail.reached → w.words.present ≡ a.view.words.present → w.words.knows ≡ fact r f x ∷ forgotten a.view.words.knows r f → Stays a b (One r f)
stored a b w r f x e holds reached present knows = record {
  holds = ap (λ (k : Known). k.view.holds) e ∙ holds;
  reached = λ q. omega (arith, ap (λ (k : Known). times q k.view.trail.reached) e, ap (times q) reached);
  present = ap (λ (k : Known). k.view.words.present) e ∙ present;
  knows = λ q g y ne h. subst (λ (l : List Fact). IsKnown l q g y) (sym (ap (λ (k : Known). k.view.words.knows) e ∙ knows)) (inr (forgotten_else a.view.words.knows r f q g y ne h));
}

pub stored_here : (a b : Known) (w : View) (r : ℕ) (f : Field) (x : ℕ) → Becomes a b w → w.words.knows ≡ fact r f x ∷ forgotten a.view.words.knows r f → IsKnown b.view.words.knows r f x
stored_here a b w r f x e knows = subst (λ (l : List Fact). IsKnown l r f x) (sym (ap (λ (k : Known). k.view.words.knows) e ∙ knows)) (inl (refl, refl, refl))

more_known : (v : View) (r : ℕ) (f : Field) (x q : ℕ) (g : Field) (y : ℕ) → IsKnown v.words.knows q g y → IsKnown (read v r f x).words.knows q g y
more_known v r f x q g y h = go (nat_lt 0 (times r v.holds))
  where
    go : (b : Bool) → IsKnown (cond b (fact r f x ∷ v.words.knows) v.words.knows) q g y
    go true = inr h
    go false = h

-- a load
pub loaded : (a b : Known) (r : ℕ) (f : Field) (x : ℕ) → Becomes a b (read a.view r f x) → Stays a b None
loaded a b r f x e = record {
  holds = ap (λ (k : Known). k.view.holds) e;
  reached = λ q. omega (arith, ap (λ (k : Known). times q k.view.trail.reached) e, times-append q a.view.trail.reached (led_to a.view r f x));
  present = ap (λ (k : Known). k.view.words.present) e;
  knows = λ q g y ne h. subst (λ (k : Known). IsKnown k.view.words.knows q g y) (sym e) (more_known a.view r f x q g y h);
}

pub loaded_here : (a b : Known) (r : ℕ) (f : Field) (x : ℕ) → Among r a.view.holds → Becomes a b (read a.view r f x) → IsKnown b.view.words.knows r f x
loaded_here a b r f x held e =
    let yes : nat_lt 0 (times r a.view.holds) ≡ true = lt-ltb 0 (times r a.view.holds) held in
    let is : b.view.words.knows ≡ fact r f x ∷ a.view.words.knows = ap (λ (k : Known). k.view.words.knows) e ∙ ap (λ (t : Bool). cond t (fact r f x ∷ a.view.words.knows) a.view.words.knows) yes in
    subst (λ (l : List Fact). IsKnown l r f x) (sym is) (inl (refl, refl, refl))

-- the key, the birth and the stamp of a row stay where other words change
pub grip_stays : (a b : Known) (P : ℕ → Field → Type 0) (g : Grip) → Stays a b P → (P g.row Key → ⊥) → (P g.row Stamp → ⊥) → (P g.row Birth → ⊥) → HasGrip a.view g → HasGrip b.view g
grip_stays a b P g s key stamp birth h = record {
  held = subst (Among g.row) (sym s.holds) h.held;
  is_key = s.knows g.row Key g.key key h.is_key;
  is_stamp = s.knows g.row Stamp g.stamp stamp h.is_stamp;
  unmarked = h.unmarked;
  own = own h.own;
}
  where
    own : (g.row ≡ 0) ⊎ IsOfNow a.view g.row → (g.row ≡ 0) ⊎ IsOfNow b.view g.row
    own (inl z) = inl z
    own (inr o) = inr (record { reached = omega (arith, o.reached, s.reached g.row); birth = o.birth; is_birth = s.knows g.row Birth o.birth birth o.is_birth; now = subst (Among o.birth) (sym s.present) o.now })

-- a link is another field than these
pub link_no_stamp : (d : Side) → link_field d ≢ Stamp
link_no_stamp Side.Left = λ e. cc
link_no_stamp Side.Right = λ e. cc

pub link_no_key : (d : Side) → link_field d ≢ Key
link_no_key Side.Left = λ e. cc
link_no_key Side.Right = λ e. cc

pub link_no_birth : (d : Side) → link_field d ≢ Birth
link_no_birth Side.Left = λ e. cc
link_no_birth Side.Right = λ e. cc
