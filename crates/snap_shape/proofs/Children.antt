-- The child to which a link of a held row leads.
use Rattle.std.proofs.Common.{◌≡◌, ◌≢◌, ◌≤◌, ◌∙◌, ◌⊎◌, ◌==◌, ◌+◌, ℕ, List, [], ◌∷◌, Bool, true, false, cond, refl, sym, ap, subst, arith, nat_lt, eq-eqb, lt-ltb, inl, inr}
use Rattle.snap_prelude.proofs.Common.{dite, times-append, ℕ_discrete}
use Rattle.snap_shape.specs.{Grips.HasGrip, Grips.IsOfNow, declared.grip.Grip.Grip}
use Rattle.snap_prelude.specs.{Among, Becomes, Field, Known, led_to, link_field, read, Side, times, View}

one_of : (n : ℕ) → Among n (n ∷ [])
one_of n = let one : times n (n ∷ []) ≡ 1 = ap (λ (b : Bool). cond b 1 0 + 0) (eq-eqb n n refl) in omega (arith, one)

both_yes : (a b : Bool) (l m : List ℕ) → a ≡ true → b ≡ true → cond a (cond b l m) [] ≡ l
both_yes a b l m ea eb = ap (λ (x : Bool). cond x (cond b l m) []) ea ∙ ap (λ (x : Bool). cond x l m) eb

led : (v : View) (r x : ℕ) (d : Side) → Among r v.trail.reached → x ≢ 0 → Among x (led_to v r (link_field d) x)
led v r x Side.Left reached nz = subst (Among x) (sym (both_yes (nat_lt 0 x) (nat_lt 0 (times r v.trail.reached)) (x ∷ []) (cond (r == 0) [] []) (lt-ltb 0 x (omega (arith))) (lt-ltb 0 (times r v.trail.reached) reached))) (one_of x)
led v r x Side.Right reached nz = subst (Among x) (sym (both_yes (nat_lt 0 x) (nat_lt 0 (times r v.trail.reached)) (x ∷ []) (cond (r == 0) (x ∷ []) []) (lt-ltb 0 x (omega (arith))) (lt-ltb 0 (times r v.trail.reached) reached))) (one_of x)

last_yes : (a b c : Bool) (l : List ℕ) → a ≡ true → c ≡ true → cond a (cond b l (cond c l [])) [] ≡ l
last_yes a true c l ea ec = ap (λ (x : Bool). cond x l []) ea
last_yes a false c l ea ec = ap (λ (x : Bool). cond x (cond c l []) []) ea ∙ ap (λ (x : Bool). cond x l []) ec

-- a link of a row that was reached leads to rows that were linked. Of row 0 the right one does
pub led_from : (v : View) (r x : ℕ) (d : Side) → (r ≡ 0) ⊎ (Among r v.trail.reached) → (r ≡ 0 → d ≡ Side.Right) → x ≢ 0 → Among x (led_to v r (link_field d) x)
led_from v r x d from right nz = go from
  where
    top : r ≡ 0 → d ≡ Side.Right → Among x (led_to v r (link_field d) x)
    top z e = subst (λ (s : Side). Among x (led_to v r (link_field s) x)) (sym e) (subst (Among x) (sym (last_yes (nat_lt 0 x) (nat_lt 0 (times r v.trail.reached)) (r == 0) (x ∷ []) (lt-ltb 0 x (omega (arith))) (eq-eqb r 0 z))) (one_of x))

    go : (r ≡ 0) ⊎ (Among r v.trail.reached) → Among x (led_to v r (link_field d) x)
    go (inl z) = top z (right z)
    go (inr reached) = led v r x d reached nz

-- so does one of a held row
led_any : (v : View) (g : Grip) (x : ℕ) (d : Side) → HasGrip v g → (g.row ≡ 0 → d ≡ Side.Right) → x ≢ 0 → Among x (led_to v g.row (link_field d) x)
led_any v g x d h right nz = led_from v g.row x d (from h.own) right nz
  where
    from : (g.row ≡ 0) ⊎ IsOfNow v g.row → (g.row ≡ 0) ⊎ (Among g.row v.trail.reached)
    from (inl z) = inl z
    from (inr o) = inr o.reached

pub low_any : (v : View) (rows : ℕ) (g : Grip) (d : Side) (f : Field) (x : ℕ) → (g.row ≡ 0 → d ≡ Side.Right) → HasGrip v g → f ≡ link_field d → ((c : ℕ) → Among c (led_to v g.row f x) → c ≤ rows) → x ≤ rows
low_any v rows g d f x right h is bound = dite (ℕ_discrete x 0) (λ z. omega (arith, z)) (λ some. bound x (subst (λ (i : Field). Among x (led_to v g.row i x)) (sym is) (led_any v g x d h right some)))

pub any_reached : (a b : Known) (g : Grip) (d : Side) (f : Field) (x y : ℕ) → (g.row ≡ 0 → d ≡ Side.Right) → HasGrip a.view g → f ≡ link_field d → y ≡ x → Becomes a b (read a.view g.row f x) → y ≢ 0 → Among y b.view.trail.reached
any_reached a b g d f x y right h is same e some =
    let here : Among x (led_to a.view g.row f x) = subst (λ (i : Field). Among x (led_to a.view g.row i x)) (sym is) (led_any a.view g x d h right (λ z. some (same ∙ z))) in
    subst (λ (i : ℕ). Among i b.view.trail.reached) (sym same) (omega (arith, here, ap (λ (k : Known). times x k.view.trail.reached) e, times-append x a.view.trail.reached (led_to a.view g.row f x)))
