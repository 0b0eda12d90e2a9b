-- What is known of heights below held rows, once the table or the held rows have changed.
use Rattle.std.proofs.Common.{◌==◌}
use mathlib.Core.Option.{some}
use Rattle.std.proofs.Common.{ap₂, inl, inr}
use Rattle.snap_rule.proofs.Debts.{live_same}
use Rattle.snap_rule.proofs.Debts.Trees.{true_link}
use Rattle.snap_rule.proofs.Updates.{relink_away, relink_same, same_place, changed_other}
use Rattle.snap_rule.specs.Kinds.Clones.{copy_linked, MayLinkCopy}
use Rattle.snap_rule.specs.Rule.{TableOk}
use Rattle.snap_rule.specs.Settled.{child_height, height_at}
use Rattle.snap_rule.specs.State.{In, IsShared}
use Rattle.snap_rule.specs.Tree.{Stands}
use Rattle.snap_rule.specs.Updates.{changed, relink}
use Rattle.snap_rule.proofs.Trees.Rows.{stands_renamed}
use mathlib.Core.Logic.{dite}
use native.Mathlib.Decide.{ℕ_discrete}
use Rattle.snap_stamp.specs.declared.side.Side.{Side}
use Rattle.snap_stamp.specs.declared.side.Side.TheVariants as sides
use Rattle.snap_steps.specs.Memory.{Row, row, with_field}
use Rattle.snap_steps.specs.States.{link_field}
use Rattle.snap_steps.proofs.Cells.{row_same, row_other}
use Rattle.std.proofs.Common.{length, set, ◌≡◌, ◌≢◌, ◌<◌, ◌∙◌, ℕ, zero, suc, List, [], ◌∷◌, Bool, true, false, cond, eqb, refl, sym, ap, subst, arith}
use Rattle.std.proofs.lemmas.Bool.Decides.{nat_tests}
use lib.ListN.{get_elem?}
use Rattle.snap_rule.proofs.Debts.Heights.{heights_apart}
use Rattle.snap_rule.specs.Doing.{Apart}
use Rattle.snap_rule.specs.Heights.{KeepsHeights}
use Rattle.snap_rule.specs.Rule.{IsLive}
use Rattle.snap_rule.specs.State.{State as Table}
use Rattle.snap_steps.specs.Counting.{times, removed}
use Rattle.snap_steps.specs.Each.{Each}
use Rattle.snap_steps.specs.Facts.{heights_forgotten}
use Rattle.snap_steps.specs.Rule.Heights.{AreHeights}
use Rattle.snap_steps.specs.declared.view.ChildHeight.{ChildHeight}
use Rattle.snap_steps.specs.declared.view.View.{View}
use Rattle.snap_steps.proofs.Totals.{removed_other}

-- a step that leaves a row alone leaves the heights below it
abbrev pub LeavesHeights : Table → Table → ℕ → Type 0
LeavesHeights s s' n = (IsLive s n → IsLive s' n) × (IsLive s n → KeepsHeights s s' n)

pub heights_kept : (s s' : Table) (holds : List ℕ) (l : List ChildHeight) → ((n : ℕ) → 0 < times n holds → LeavesHeights s s' n) → AreHeights s holds l → AreHeights s' holds l
heights_kept s s' holds [] leaves h = tt
heights_kept s s' holds (x ∷ xs) leaves h = let p = h.0 in let q = leaves x.row p.held in
    (record { held = p.held; live = q.0 p.live; height = q.1 p.live x.side ∙ p.height }, heights_kept s s' holds xs leaves h.1)

pub heights_evolve : (s s' : Table) (views : List View) → ((j : ℕ) (u : View) → get_elem? views j ≡ some u → (n : ℕ) → 0 < times n u.holds → LeavesHeights s s' n)
    → Each (λ v. AreHeights s v.holds v.heights) views → Each (λ v. AreHeights s' v.holds v.heights) views
heights_evolve s s' views leaves h j u at = heights_kept s s' u.holds u.heights (leaves j u at) (h j u at)

-- where no height is stored
pub leaves_apart : (s s' : Table) (n : ℕ) → Apart s s' n → ((m : ℕ) → s'.height m ≡ s.height m) → LeavesHeights s s' n
leaves_apart s s' n a same = (a.live, λ _. heights_apart s s' n a same)

-- there are more rows that they may speak of
pub heights_more : (s : Table) (r : ℕ) (holds : List ℕ) (l : List ChildHeight) → AreHeights s holds l → AreHeights s (r ∷ holds) l
heights_more s r holds [] h = tt
heights_more s r holds (x ∷ xs) h = (record { held = omega (arith, h.0.held); live = h.0.live; height = h.0.height }, heights_more s r holds xs h.1)

-- a row was let go
pub heights_dropped : (s : Table) (r : ℕ) (holds : List ℕ) (l : List ChildHeight) → AreHeights s holds l → AreHeights s (removed r holds) (heights_forgotten l r)
heights_dropped s r holds [] h = tt
heights_dropped s r holds (x ∷ xs) h = go (eqb x.row r) refl (heights_dropped s r holds xs h.1)
  where
    go : (a : Bool) → eqb x.row r ≡ a → AreHeights s (removed r holds) (heights_forgotten xs r) → AreHeights s (removed r holds) (cond a (heights_forgotten xs r) (x ∷ heights_forgotten xs r))
    go true e t = t
    go false e t = let ne : x.row ≢ r = grind (arith, nat_tests) in (record { held = omega (arith, h.0.held, removed_other r x.row holds ne); live = h.0.live; height = h.0.height }, t)

-- what is known of the heights below other rows
pub heights_but : (s s' : Table) (r : ℕ) (holds : List ℕ) (l : List ChildHeight) → ((n : ℕ) → 0 < times n holds → n ≢ r → LeavesHeights s s' n) → AreHeights s holds l → AreHeights s' holds (heights_forgotten l r)
heights_but s s' r holds [] leaves h = tt
heights_but s s' r holds (x ∷ xs) leaves h = go (eqb x.row r) refl (heights_but s s' r holds xs leaves h.1)
  where
    go : (a : Bool) → eqb x.row r ≡ a → AreHeights s' holds (heights_forgotten xs r) → AreHeights s' holds (cond a (heights_forgotten xs r) (x ∷ heights_forgotten xs r))
    go true e t = t
    go false e t = let ne : x.row ≢ r = grind (arith, nat_tests) in let p = h.0 in let q = leaves x.row p.held ne in (record { held = p.held; live = q.0 p.live; height = q.1 p.live x.side ∙ p.height }, t)

-- one row is another, with the same height
pub heights_same : (rows : List Row) (r : ℕ) (x : Row) → r < length rows → x.height ≡ (row rows r).height → (n : ℕ) → (row (set rows r x) n).height ≡ (row rows n).height
heights_same rows r x near e n =
    dite (ℕ_discrete n r)
    (λ q. ap (λ (i : ℕ). (row (set rows r x) i).height) q ∙ ap (λ (y : Row). y.height) (row_same rows r x near) ∙ e ∙ ap (λ (i : ℕ). (row rows i).height) (sym q))
    (λ ne. ap (λ (y : Row). y.height) (row_other rows r n x ne))

pub link_height : (d : Side) (c : ℕ) (x : Row) → (with_field (link_field d) c x).height ≡ x.height
link_height sides.Left c x = refl
link_height sides.Right c x = refl

-- who holds no row knows no height
pub no_heights : (s s' : Table) (holds : List ℕ) (l : List ChildHeight) → ((n : ℕ) → times n holds ≡ 0) → AreHeights s holds l → AreHeights s' holds l
no_heights s s' holds [] free h = tt
no_heights s s' holds (x ∷ xs) free h = absurd (omega (arith, h.0.held, free x.row))

at_positive : (f : ℕ → ℕ) (c : ℕ) → c ≢ 0 → height_at f c ≡ f c
at_positive f zero z = absurd (z refl)
at_positive f (suc c) z = refl

-- a copy has the height of the row that it replaces
module _ (s : Table) (parent : ℕ) (d : Side) (row_no copy : ℕ) (n : ℕ) (ok : TableOk s) (may : MayLinkCopy s parent d row_no copy) where
  copy_child : s.links parent d ≡ row_no
  copy_child = sym (true_link s parent d ok may.parent_live may.no_change) ∙ may.child

  row_is : row_no ≢ 0
  row_is = let p = may.shared.is_row in λ q. omega (arith)

  copy_fresh : Stands n s.tree → n ≢ copy
  copy_fresh h q = may.fresh (subst (λ (x : ℕ). In x s.linked) q (ok.tree.rows n h).0)

  copy_away : (x : Side) → Stands n s.tree → ((n ≡ parent) × (x ≡ d) → ⊥) → relink (changed s.links copy (s.link copy)) parent d copy n x ≡ s.links n x
  copy_away x h z = relink_away (changed s.links copy (s.link copy)) parent d copy n x z ∙ ap (λ (f : Side → ℕ). f x) (changed_other s.links copy (s.link copy) n (copy_fresh h))

  copy_height : (x : Side) → Stands n s.tree → child_height (copy_linked s parent d row_no copy) n x ≡ child_height s n x
  copy_height x h = elim (same_place n parent x d) [
    | inl q ↦ ap (height_at s.height) (ap₂ (relink (changed s.links copy (s.link copy)) parent d copy) q.0 q.1 ∙ relink_same (changed s.links copy (s.link copy)) parent d copy) ∙ at_positive s.height copy (let p = may.is_row in λ z. omega (arith))
        ∙ may.height ∙ sym (at_positive s.height row_no row_is) ∙ ap (height_at s.height) (sym (ap₂ s.links q.0 q.1 ∙ copy_child))
    | inr q ↦ ap (height_at s.height) (copy_away x h q)
  ]

  pub copy_leaves : LeavesHeights s (copy_linked s parent d row_no copy) n
  copy_leaves = (
    (λ l. live_same s (copy_linked s parent d row_no copy) n refl refl (stands_renamed row_no copy s.tree n (λ q. l.own (subst (IsShared s) (sym q) may.shared)) l.stands) l),
    λ l x. copy_height x l.stands,
  )

-- a row with the same links, where all heights stay
pub heights_plain : (s' s : Table) (n : ℕ) (d : Side) → ((m : ℕ) → s'.height m ≡ s.height m) → s'.links n d ≡ s.links n d → child_height s' n d ≡ child_height s n d
heights_plain s' s n d same links = ap (height_at s'.height) links ∙ at (s.links n d)
  where
    at : (c : ℕ) → height_at s'.height c ≡ height_at s.height c
    at zero = refl
    at (suc c) = same (suc c)

-- rows of which heights are known
abbrev pub AllRows : (ℕ → Type 0) → List ChildHeight → Type 0
AllRows P [] = Unit {0}
AllRows P (x ∷ xs) = P x.row × AllRows P xs

pub rows_but : (l : List ChildHeight) (r : ℕ) → AllRows (λ n. n ≢ r) (heights_forgotten l r)
rows_but [] r = tt
rows_but (x ∷ xs) r = go (eqb x.row r) refl (rows_but xs r)
  where
    go : (a : Bool) → eqb x.row r ≡ a → AllRows (λ n. n ≢ r) (heights_forgotten xs r) → AllRows (λ n. n ≢ r) (cond a (heights_forgotten xs r) (x ∷ heights_forgotten xs r))
    go true e t = t
    go false e t = let ne : x.row ≢ r = grind (arith, nat_tests) in (ne, t)

pub rows_still : (P : ℕ → Type 0) (l : List ChildHeight) (r : ℕ) → AllRows P l → AllRows P (heights_forgotten l r)
rows_still P [] r h = tt
rows_still P (x ∷ xs) r h = go (x.row == r) (rows_still P xs r h.1)
  where
    go : (a : Bool) → AllRows P (heights_forgotten xs r) → AllRows P (cond a (heights_forgotten xs r) (x ∷ heights_forgotten xs r))
    go true t = t
    go false t = (h.0, t)

pub heights_fewer : (s : Table) (r : ℕ) (holds : List ℕ) (l : List ChildHeight) → AreHeights s holds l → AreHeights s holds (heights_forgotten l r)
heights_fewer s r holds [] h = tt
heights_fewer s r holds (x ∷ xs) h = go (x.row == r) (heights_fewer s r holds xs h.1)
  where
    go : (a : Bool) → AreHeights s holds (heights_forgotten xs r) → AreHeights s holds (cond a (heights_forgotten xs r) (x ∷ heights_forgotten xs r))
    go true t = t
    go false t = (h.0, t)

pub heights_where : (P Q : ℕ → Type 0) (s s' : Table) (holds : List ℕ) (l : List ChildHeight) → ((n : ℕ) → 0 < times n holds → P n → Q n → LeavesHeights s s' n) → AllRows P l → AllRows Q l → AreHeights s holds l → AreHeights s' holds l
heights_where P Q s s' holds [] leaves a b h = tt
heights_where P Q s s' holds (x ∷ xs) leaves a b h = let p = h.0 in let q = leaves x.row p.held a.0 b.0 in
    (record { held = p.held; live = q.0 p.live; height = q.1 p.live x.side ∙ p.height }, heights_where P Q s s' holds xs leaves a.1 b.1 h.1)
