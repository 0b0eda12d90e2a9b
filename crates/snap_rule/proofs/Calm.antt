-- A call of `try_get` meets no trouble where no write was entered since it loaded `left`.
use Rattle.std.proofs.Common.{◌≡◌, ◌≢◌, ℕ, ◌+◌, ◌<◌, ◌≤◌, ◌/◌, ◌^◌, ◌⊎◌, inl, inr, List, refl, ap, sym, ◌∙◌, subst, arith, [], ◌∷◌}
use native.Mathlib.Decide.{ℕ_discrete}
use mathlib.Core.Logic.{dite}
use Rattle.std.specs.List.{AllByRecursion as Every}
use Rattle.snap_rule.specs.Tree.{Tree, root, Stands, Between, EachRow}
use Rattle.snap_stamp.specs.declared.side.Side.{Side}
use Rattle.snap_stamp.specs.declared.side.Side.TheVariants.{Left, Right}
use Rattle.snap_rule.specs.Tree.Tree.{empty, node}
use Rattle.snap_rule.specs.State.{State, In, Represents}
use Rattle.snap_stamp.specs.Stamps.{IsUnmarked}
use Rattle.snap_rule.specs.Evolves.{Evolves, SameRow}
use Rattle.snap_rule.specs.Quiescence.{QuietOk, IsCalm, CalmOk, word, IsSo}
use Rattle.snap_rule.specs.declared.quiescence.Load.{Load}
use Rattle.snap_rule.specs.Rule.{TreeOk, ChangesOk, NoneWrites, LinkFits}
use Rattle.snap_rule.proofs.Trees.{reads_same, each_at, each_stands}

pub calm_kept : (s s' : State) (ended low high c : ℕ) (l : List Load) → Evolves s s' → QuietOk s ended l → CalmOk s ended low high c
    → CalmOk s' ended low high c
calm_kept s s' ended low high c l ev q h e =
    let up = ev.entered in
    let same : s.gate / 2 ≡ ended = omega (arith, q.few) in
    let z : s.writers ≡ 0 = (q.quiet same).0 in
    let a = h same in
    let row : (n : ℕ) → Stands n a.part → (In n s.linked × IsUnmarked (s.stamp n)) × SameRow s s' n = λ n i. let p = each_at (λ r. In r s.linked × IsUnmarked (s.stamp r)) a.part n a.rows i in (p, (ev.quiet z n (inr p.0)).0) in
    record {
      part = a.part;
      top = a.top;
      reads = reads_same s s' s.link s'.link a.part a.reads (λ n i. let r = (row n i).1 in (r.key, r.value, r.height, r.link));
      ordered = a.ordered;
      rows = each_stands (λ r. In r s'.linked × IsUnmarked (s'.stamp r)) a.part (λ n i. let r = row n i in (ev.linked n r.0.0, rw r.1.stamp r.0.1));
    }

-- at the load of `left`
pub calm_begins : (s : State) → TreeOk s → ChangesOk s → NoneWrites s → s.gate / 2 ≡ s.left + s.writers → CalmOk s s.left 0 (2 ^ 64) (s.link 0 Right)
calm_begins s tree_ok changes_ok none count e =
    let z : s.writers ≡ 0 = omega arith in
    let same : (n : ℕ) (d : Side) → (n ≡ 0) ⊎ Stands n s.tree → s.link n d ≡ s.links n d = λ n d i. subst (LinkFits s n d) (none.no_change z n d) (changes_ok.fits n d i) in
    record {
      part = s.tree;
      top = sym (same 0 Right (inl refl) ∙ tree_ok.root);
      reads = reads_same s s s.links s.link s.tree tree_ok.reads (λ n i. (refl, refl, refl, λ d. same n d (inr i)));
      ordered = tree_ok.ordered;
      rows = each_stands (λ r. In r s.linked × IsUnmarked (s.stamp r)) s.tree (λ n i. ((tree_ok.rows n i).0, none.no_mark z n i));
    }

-- what is known of a row to which such a call came, and of what is below it
pub record CalmRow (s : State) (low high c : ℕ) : Type 0 where
  pub unmarked : IsUnmarked (s.stamp c)
  pub above : low ≤ s.key c
  pub below : s.key c < high
  pub on_left : IsCalm s low (s.key c) (s.link c Left)
  pub on_right : IsCalm s (s.key c + 1) high (s.link c Right)

calm_node : (s : State) (low high c : ℕ) (t : Tree) → c ≢ 0 → root t ≡ c → Represents s s.link t → Between low high t
    → EachRow (λ r. In r s.linked × IsUnmarked (s.stamp r)) t
    → CalmRow s low high c
calm_node s low high c empty z e r o u = absurd (z (sym e))
calm_node s low high c (node m a b) z e r o u =
    let k : m.key ≡ s.key c = sym r.0.key ∙ ap s.key e in
    record {
      unmarked = subst (λ (x : ℕ). IsUnmarked (s.stamp x)) e u.0.1;
      above = subst (λ (x : ℕ). low ≤ x) k o.0;
      below = subst (λ (x : ℕ). x < high) k o.1;
      on_left = record { part = a; top = sym r.1 ∙ ap (λ (x : ℕ). s.link x Left) e; reads = r.3; ordered = subst (λ (x : ℕ). Between low x a) k o.2; rows = u.1 };
      on_right = record { part = b; top = sym r.2 ∙ ap (λ (x : ℕ). s.link x Right) e; reads = r.4; ordered = subst (λ (x : ℕ). Between (x + 1) high b) k o.3; rows = u.2 };
    }

pub calm_row : (s : State) (low high c : ℕ) → c ≢ 0 → IsCalm s low high c → CalmRow s low high c
calm_row s low high c z a = calm_node s low high c a.part z a.top a.reads a.ordered a.rows

-- trouble tells that a write was entered
load_so : (s : State) (x : Load) (l : List Load) → In x l → Every (IsSo s) l → word s x.row x.field ≡ x.found
load_so s x [] h e = absurd h
load_so s x (y ∷ l) (inl q) e = subst (λ (z : Load). word s z.row z.field ≡ z.found) (sym q) e.0.1
load_so s x (y ∷ l) (inr h) e = load_so s x l h e.1

entered_since : (s : State) (ended : ℕ) (l : List Load) → QuietOk s ended l → (s.gate / 2 ≡ ended → ⊥) → ended < s.gate / 2
entered_since s ended l q z = let a = q.few in dite (ℕ_discrete (s.gate / 2) ended) (λ e. absurd (z e)) (λ e. omega arith)

no_trouble : (s : State) (low high c : ℕ) → c ≢ 0 → IsCalm s low high c → ¬ IsUnmarked (s.stamp c) ⊎ (s.key c < low) ⊎ (high ≤ s.key c) → ⊥
no_trouble s low high c z a (inl m) = m (calm_row s low high c z a).unmarked
no_trouble s low high c z a (inr (inl m)) = let r = (calm_row s low high c z a).above in omega arith
no_trouble s low high c z a (inr (inr m)) = let r = (calm_row s low high c z a).below in omega arith

pub trouble_tells : (s : State) (ended : ℕ) (l : List Load) → QuietOk s ended l
    → ((x : Load) → In x l → word s x.row x.field ≢ x.found → ended < s.gate / 2)
    × ((low high c : ℕ) → CalmOk s ended low high c → c ≢ 0 → ¬ IsUnmarked (s.stamp c) ⊎ (s.key c < low) ⊎ (high ≤ s.key c) → ended < s.gate / 2)
trouble_tells s ended l q = (
  (λ x h z. entered_since s ended l q (λ e. z (load_so s x l h (q.quiet e).1))),
  (λ low high c a z t. entered_since s ended l q (λ e. no_trouble s low high c z (a e) t)),
)
