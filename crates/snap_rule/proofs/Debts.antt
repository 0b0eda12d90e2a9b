-- One law for the debts at a step, and what its parts have in common.
pub mod Kinds
pub mod Turns
pub mod Trees
pub mod Room
pub mod Turning
pub mod Heights
pub mod Silent
pub mod Settling
pub mod Examples
use Rattle.std.proofs.Common.{◌≡◌, ◌≢◌, ℕ, zero, suc, ◌≤◌, ◌⊎◌, inl, inr, List, [], ◌∷◌, Some, eqb, eq-eqb, ne_eqb, true, false, refl, ap, ap₂, sym, ◌∙◌, subst, arith}
use Rattle.std.specs.Prelude.{max}
use native.Mathlib.Decide.{ℕ_discrete}
use mathlib.Core.Logic.{dite}
use Rattle.snap_stamp.specs.declared.side.Side.{Side}
use Rattle.snap_rule.specs.Tree.{Stands}
use Rattle.snap_stamp.specs.declared.side.Side.TheVariants.{Left, Right}
use Rattle.snap_rule.specs.State.{State, In, IsShared}
use Rattle.snap_rule.specs.Rule.{IsLive}
use Rattle.snap_rule.specs.Debt.Step.{DebtEvolves, Stays, DebtStep}
use Rattle.snap_rule.specs.Settled.{one_more, IsBalanced, child_height, IsSettled}
use Rattle.snap_rule.specs.declared.debt.Mark.{Mark}
use Rattle.snap_rule.specs.declared.debt.Debt.{Debt}
use Rattle.snap_rule.specs.Debt.{no_debt, IsListed, Owes, OnPath, DebtFits, IsOwed, DebtOk}
use Rattle.snap_rule.specs.Debt.Lists.{noted, taken, aimed}

-- equal heights
pub balanced_same : (h l r h' l' r' : ℕ) → h' ≡ h → l' ≡ l → r' ≡ r → IsBalanced h l r → IsBalanced h' l' r'
balanced_same h l r h' l' r' e x y b = record {
  sum = e ∙ b.sum ∙ sym (ap₂ (λ (i j : ℕ). one_more (max i j)) x y);
  left_low = omega (arith, b.left_low);
  right_low = omega (arith, b.right_low);
}

-- a row with the same words and the same heights below it
pub settled_same : (s s' : State) (n n' : ℕ) → s'.height n' ≡ s.height n → (s.value n ≢ 0 → s'.value n' ≢ 0)
    → ((d : Side) → s.links n d ≢ 0 → s'.links n' d ≢ 0) → ((d : Side) → child_height s' n' d ≡ child_height s n d) → IsSettled s n
    → IsSettled s' n'
settled_same s s' n n' h v l k a = (
  balanced_same (s.height n) (child_height s n Left) (child_height s n Right) (s'.height n') (child_height s' n' Left) (child_height s' n' Right) h (k Left) (k Right) a.0,
  elim a.1 [ inl q ↦ inl (v q) | inr q ↦ inr (l Left q.0, l Right q.1) ],
)

-- a live row of a table with the same births
pub live_same : (s s' : State) (n : ℕ) → s'.birth n ≡ s.birth n → s'.epoch ≡ s.epoch → Stands n s'.tree → IsLive s n → IsLive s' n
live_same s s' n b e h l = record { stands = h; own = λ u. l.own (record { is_row = u.is_row; older = (let o = u.older in omega arith) }) }

-- and it isn't shared
pub same_live : (s s' : State) (n : ℕ) → s'.birth n ≡ s.birth n → s'.epoch ≡ s.epoch → IsLive s n → ¬ IsShared s' n
same_live s s' n b e l u = l.own (record { is_row = u.is_row; older = (let o = u.older in omega arith) })

-- what is owed after a step and listed before it was owed before it
pub owed_back : (s s' : State) (v : Debt) (n : ℕ) → ((m : ℕ) → In m s.linked → In m s'.linked × (s.stamp m ≤ s'.stamp m)) → DebtFits s v
    → IsListed n (s'.stamp n) v.list
    → (s'.stamp n ≡ s.stamp n) × Owes s v n
owed_back s s' v n grows ok h =
    let p = ok.past n (s'.stamp n) h in
    let g = grows n p.0 in
    let e : s'.stamp n ≡ s.stamp n = omega (arith, p.1, g.1) in
    (e, subst (λ (x : ℕ). IsListed n x v.list) e h)

module _ (s s' : State) (debts debts' : ℕ → Debt) (id : ℕ) (theirs : (j : ℕ) → j ≢ id → debts' j ≡ debts j) (ok : DebtOk s debts) (step : DebtStep s s' debts id (debts' id)) where
  other_fits : (j : ℕ) → j ≢ id → DebtFits s' (debts j)
  other_fits j z =
      let u = ok.each j in
      record {
        past = λ n x h. let p = u.past n x h in let g = step.grows n p.0 in (g.0, omega (arith, p.1, g.1));
        owed = λ n h.
            let b = owed_back s s' (debts j) n step.grows u h in
            let o = u.owed n b.1 in
            let e = step.others n o.0 b.0 (λ t. z (ok.alone j id n t b.1)) in
            (e.0, record { key = o.1.key; to_do = o.1.to_do; way = e.1 o.1.key o.1.way });
      }

  owed_again : (n : ℕ) → Stays s s' (debts id) (debts' id) n → IsOwed s debts n → IsSettled s' n ⊎ IsOwed s' debts' n
  owed_again n q o = dite (ℕ_discrete o.pass id)
      (λ e. elim (q.owed (subst (λ (j : ℕ). Owes s (debts j) n) e o.owes)) [ inl a ↦ inl a | inr y ↦ inr (record { pass = id; owes = y }) ])
      (λ e. inr (record { pass = o.pass; owes = subst (λ (u : Debt). Owes s' u n) (sym (theirs o.pass e)) (subst (λ (x : ℕ). IsListed n x (debts o.pass).list) (sym q.stamp) o.owes) }))

  settles : (n : ℕ) → Stands n s'.tree → IsSettled s' n ⊎ IsOwed s' debts' n
  settles n h = elim (step.accounts n h) [
    | inl q ↦ inl q
    | inr q ↦ (elim q [
      | inl o ↦ inr (record { pass = id; owes = o })
      | inr y ↦ (elim (ok.settled n y.stands) [ inl a ↦ inl (y.settled a) | inr o ↦ owed_again n y o ])
    ])
  ]

  alone : (i j n : ℕ) → (debts' j).turning ≡ Some n → Owes s' (debts' i) n → i ≡ j
  alone i j n t o = dite (ℕ_discrete i id)
      (λ e. dite (ℕ_discrete j id)
      (λ f. e ∙ sym f)
      (λ f. let t' : (debts j).turning ≡ Some n = sym (ap (λ (u : Debt). u.turning) (theirs j f)) ∙ t in
      elim (step.new n (subst (λ (x : ℕ). Owes s' (debts' x) n) e o)) [ inl q ↦ absurd (f (sym (ok.alone id j n t' q))) | inr q ↦ absurd (q j f t') ]))
      (λ e. let b = owed_back s s' (debts i) n step.grows (ok.each i) (subst (λ (u : Debt). Owes s' u n) (theirs i e) o) in
      dite (ℕ_discrete j id)
      (λ f. let t' : (debts' id).turning ≡ Some n = subst (λ (x : ℕ). (debts' x).turning ≡ Some n) f t in
      elim (step.turns n t') [ inl q ↦ ok.alone i id n q b.1 ∙ sym f | inr q ↦ absurd (omega (arith, q, b.0)) ])
      (λ f. ok.alone i j n (sym (ap (λ (u : Debt). u.turning) (theirs j f)) ∙ t) b.1))

  -- one law for the debts at a step
  pub debt_step : DebtOk s' debts'
  debt_step = record {
    settled = settles;
    each = λ j. dite (ℕ_discrete j id) (λ e. subst (λ (x : ℕ). DebtFits s' (debts' x)) (sym e) step.own) (λ e. subst (DebtFits s') (sym (theirs j e)) (other_fits j e));
    alone = alone;
  }

-- what a step leaves to another pass keeps that pass's debt
pub fits_kept : (s s' : State) (v u : Debt) → ((m : ℕ) → In m s.linked → In m s'.linked × (s.stamp m ≤ s'.stamp m)) → DebtEvolves s s' v
    → ((n : ℕ) → v.turning ≡ Some n → ¬ Owes s u n) → DebtFits s u
    → DebtFits s' u
fits_kept s s' v u grows evolves apart ok = record {
  past = λ n x h. let p = ok.past n x h in let g = grows n p.0 in (g.0, omega (arith, p.1, g.1));
  owed = λ n h.
      let b = owed_back s s' u n grows ok h in
      let o = ok.owed n b.1 in
      let e = evolves n o.0 b.0 (λ t. apart n t b.1) in
      (e.0, record { key = o.1.key; to_do = o.1.to_do; way = e.1 o.1.key o.1.way });
}

-- the debt of the pass itself, from what it lists anew and what it owed
pub own_fits : (s s' : State) (v w : Debt) → ((n : ℕ) → In n s.linked → In n s'.linked × (s.stamp n ≤ s'.stamp n)) → DebtFits s v
    → ((n : ℕ) → Stands n s'.tree → In n s'.linked)
    → ((n x : ℕ) → IsListed n x w.list → (x ≡ s'.stamp n) × IsLive s' n × OnPath s' w n ⊎ IsListed n x v.list)
    → ((n : ℕ) → IsLive s n → s'.stamp n ≡ s.stamp n → Owes s v n → OnPath s v n → IsLive s' n × OnPath s' w n)
    → DebtFits s' w
own_fits s s' v w grows ok rows back keep = record {
  past = λ n x h. elim (back n x h) [ inl q ↦ (rows n q.1.stands, omega (arith, q.0)) | inr q ↦ (let p = ok.past n x q in let g = grows n p.0 in (g.0, omega (arith, p.1, g.1))) ];
  owed = λ n h. elim (back n (s'.stamp n) h) [ inl q ↦ (q.1, q.2) | inr q ↦ (let b = owed_back s s' v n grows ok q in let o = ok.owed n b.1 in keep n o.0 b.0 b.1 o.1) ];
}

pub none_fits : (s : State) → DebtFits s no_debt
none_fits s = record { past = λ n x h. absurd h; owed = λ n h. absurd h }

-- lists
pub noted_here : (s : State) (n : ℕ) (l : List Mark) → n ≢ 0 → IsListed n (s.stamp n) (noted s n l)
noted_here s zero l z = absurd (z refl)
noted_here s (suc n) l z = inl refl

pub noted_there : (s : State) (m : ℕ) (l : List Mark) (n x : ℕ) → IsListed n x l → IsListed n x (noted s m l)
noted_there s zero l n x h = h
noted_there s (suc m) l n x h = inr h

pub noted_back : (s : State) (m : ℕ) (l : List Mark) (n x : ℕ) → IsListed n x (noted s m l) → (m ≢ 0) × (n ≡ m) × (x ≡ s.stamp n) ⊎ IsListed n x l
noted_back s zero l n x h = inr h
noted_back s (suc m) l n x (inl h) = let e : n ≡ suc m = ap (λ (y : Mark). y.row) h in inl ((λ z. omega (arith, z)), e, ap (λ (y : Mark). y.stamp) h ∙ sym (ap s.stamp e))
noted_back s (suc m) l n x (inr h) = inr h

pub taken_back : (r : ℕ) (l : List Mark) (n x : ℕ) → IsListed n x (taken r l) → (n ≢ r) × IsListed n x l
taken_back r [] n x h = absurd h
taken_back r (m ∷ l) n x h = dite (ℕ_discrete m.row r)
    (λ e. let g : eqb m.row r ≡ true = eq-eqb m.row r e in let y = taken_back r l n x (rw g at h) in (y.0, inr y.1))
    (λ e. let g : eqb m.row r ≡ false = ne_eqb m.row r e in below (rw g at h) e (taken_back r l n x))
  where
    below : IsListed n x (m ∷ taken r l) → m.row ≢ r → (IsListed n x (taken r l) → (n ≢ r) × IsListed n x l) → (n ≢ r) × IsListed n x (m ∷ l)
    below (inl q) e f = ((λ z. e (sym (ap (λ (y : Mark). y.row) q) ∙ z)), inl q)
    below (inr q) e f = let y = f q in (y.0, inr y.1)

pub taken_there : (r : ℕ) (l : List Mark) (n x : ℕ) → n ≢ r → IsListed n x l → IsListed n x (taken r l)
taken_there r [] n x z h = h
taken_there r (m ∷ l) n x z (inl q) = let g : eqb m.row r ≡ false = ne_eqb m.row r (λ e. z (ap (λ (y : Mark). y.row) q ∙ e)) in rw g (inl q)
taken_there r (m ∷ l) n x z (inr h) = dite (ℕ_discrete m.row r)
    (λ e. let g : eqb m.row r ≡ true = eq-eqb m.row r e in rw g (taken_there r l n x z h))
    (λ e. let g : eqb m.row r ≡ false = ne_eqb m.row r e in rw g (inr (taken_there r l n x z h)))

pub aimed_list : (s : State) (m : ℕ) (l : List Mark) (n x : ℕ) → IsListed n x (aimed s m l).list → (m ≢ 0) × IsListed n x l
aimed_list s zero l n x h = absurd h
aimed_list s (suc m) l n x h = ((λ e. omega (arith, e)), h)

pub aimed_there : (s : State) (m : ℕ) (l : List Mark) (n x : ℕ) → m ≢ 0 → IsListed n x l → IsListed n x (aimed s m l).list
aimed_there s zero l n x z h = absurd (z refl)
aimed_there s (suc m) l n x z h = h

pub aimed_key : (s : State) (m : ℕ) (l : List Mark) → m ≢ 0 → (aimed s m l).to_do ≡ Some (s.key m)
aimed_key s zero l z = absurd (z refl)
aimed_key s (suc m) l z = refl

pub aimed_turning : (s : State) (m : ℕ) (l : List Mark) (n : ℕ) → (aimed s m l).turning ≡ Some n → ⊥
aimed_turning s zero l n e = cc e
aimed_turning s (suc m) l n e = cc e
