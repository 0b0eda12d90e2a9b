-- The tree, after each kind of step.
use Rattle.std.proofs.Common.{◌≡◌, ◌≢◌, ℕ, ◌+◌, ◌^◌, ◌⊎◌, inl, inr, eqb, eq-eqb, ne_eqb, true, false, [], ◌∷◌, ◌++◌, Option, refl, ap, sym, ◌∙◌, subst, ap₂, arith}
use native.Mathlib.Decide.{ℕ_discrete}
use mathlib.Core.Logic.{dite}
use Rattle.snap_model.specs.History.{told, call_key, call_value}
use Rattle.snap_model.specs.declared.call.Entry.{Entry}
use Rattle.snap_rule.specs.Tree.{Node, Tree, root, find, Stands, OnWay, Between, value_word}
use Rattle.snap_stamp.specs.Sides.{Toward, other}
use Rattle.snap_stamp.specs.declared.side.Side.{Side}
use Rattle.snap_stamp.specs.declared.side.Side.TheVariants.{Left, Right}
use Rattle.snap_rule.specs.Tree.Tree.{empty, node}
use Rattle.snap_rule.specs.State.{State, In, IsShared, Says, Represents}
use Rattle.snap_stamp.specs.Stamps.{IsUnlinked}
use Rattle.snap_rule.specs.Rule.{TreeOk, LinksOk, ChangesOk, LinkFits, IsParent}
use Rattle.snap_rule.specs.Updates.{changed, relink}
use Rattle.snap_rule.specs.TreeChanges.{renamed, without, one_of, rotated, grown, leaf_of}
use Rattle.snap_rule.specs.Kinds.Entries.{value_stored, MayStoreValue, leaf_linked, MayLinkLeaf}
use Rattle.snap_rule.specs.Kinds.Clones.{cut, copy_linked, MayLinkCopy}
use Rattle.snap_rule.specs.Kinds.Unlinking.{unlinked_marked, MayMarkUnlinked, only_child, spliced}
use Rattle.snap_rule.specs.Kinds.Rotation.{shrinking_marked, lowered_linked, raised_linked, parent_linked, MayLinkParent, shrinking_cleared}
use Rattle.snap_rule.specs.Kinds.Words.{height_stored}
use Rattle.snap_rule.proofs.Maps.{told_same, told_other}
use Rattle.snap_rule.proofs.Updates.{changed_same, changed_other, relink_other, same_place, relink_same, relink_away}
use Rattle.snap_rule.proofs.Trees.{reads_same, own_way, row_positive}
use Rattle.snap_rule.proofs.Trees.Ways.{thin}
use Rattle.snap_rule.proofs.Trees.Rows.{with_value_stands, with_height_stands, renamed_stands, without_stands, rotated_stands, grown_stands}
use Rattle.snap_rule.proofs.Evolving.Telling.{unlink_thin}
use Rattle.snap_rule.proofs.Readers.Second.{plain_word}
use Rattle.snap_rule.proofs.Trees.Unique.{root_stands, child_stands, left_key, right_key, no_loop, one_parent}
use Rattle.snap_rule.proofs.Trees.Orders.{with_value_ordered, with_height_ordered, renamed_ordered, without_ordered, rotated_ordered, grown_ordered}
use Rattle.snap_rule.proofs.Trees.Finds.{find_value_same, find_value_other, find_height, find_renamed, find_without, find_rotated, find_grown_same, find_grown_other}
use Rattle.snap_rule.proofs.Trees.Readings.{root_renamed, reads_renamed, root_without, reads_without, Turning, root_rotated, reads_rotated, reads_grown, root_of_grown, reads_value, root_value, reads_height, root_height}

-- a value is stored
pub store_tree : (s : State) (row : ℕ) (e : Entry) → TreeOk s → MayStoreValue s row e → TreeOk (value_stored s row e)
store_tree s row e ok may =
    let o : Option ℕ = call_value e.call in
    record {
      tells = λ k. dite (ℕ_discrete k (s.key row))
          (λ q. find_value_same s s.links row o s.tree k ok.reads (sym q) (subst (λ (x : ℕ). OnWay s.tree x row) (sym q) (own_way s s.links 0 (2 ^ 64) s.tree row ok.ordered ok.reads may.live.stands))
          ∙ sym (told_same s.history e) ∙ ap (told (s.history ++ e ∷ [])) (sym (q ∙ may.key)))
          (λ q. find_value_other s s.links row o s.tree k ok.reads q ∙ ok.tells k ∙ sym (told_other s.history e k (λ z. q (z ∙ sym may.key))));
      reads = reads_value s (value_stored s row e) s.links row o s.tree ok.reads (λ n. refl) (λ n. refl) (changed_same s.value row (value_word o)) (λ n z. changed_other s.value row (value_word o) n z);
      root = ok.root ∙ sym (root_value row o s.tree);
      ordered = with_value_ordered row o 0 (2 ^ 64) s.tree ok.ordered;
      rows = λ n h. ok.rows n (with_value_stands row o s.tree n h);
    }

pub height_tree : (s : State) (row x : ℕ) → TreeOk s → TreeOk (height_stored s row x)
height_tree s row x ok = record {
  tells = λ k. find_height row x s.tree k ∙ ok.tells k;
  reads = reads_height s (height_stored s row x) s.links row x s.tree ok.reads (λ n. refl) (λ n. refl) (changed_same s.height row x) (λ n z. changed_other s.height row x n z);
  root = ok.root ∙ sym (root_height row x s.tree);
  ordered = with_height_ordered row x 0 (2 ^ 64) s.tree ok.ordered;
  rows = λ n h. ok.rows n (with_height_stands row x s.tree n h);
}

pub cut_tree : (s : State) → TreeOk s → TreeOk (cut s)
cut_tree s ok = record {
  tells = ok.tells;
  reads = reads_same s (cut s) s.links s.links s.tree ok.reads (λ n h. (refl, refl, refl, λ d. refl));
  root = ok.root;
  ordered = ok.ordered;
  rows = ok.rows;
}

pub splice_tree : (s : State) (parent : ℕ) (d : Side) → TreeOk s → TreeOk (spliced s parent d)
splice_tree s parent d ok = record {
  tells = ok.tells;
  reads = reads_same s (spliced s parent d) s.links s.links s.tree ok.reads (λ n h. (refl, refl, refl, λ e. refl));
  root = ok.root;
  ordered = ok.ordered;
  rows = ok.rows;
}

pub lower_tree : (s : State) (row : ℕ) (d : Side) (raised : ℕ) → TreeOk s → TreeOk (lowered_linked s row d raised)
lower_tree s row d raised ok = record {
  tells = ok.tells;
  reads = reads_same s (lowered_linked s row d raised) s.links s.links s.tree ok.reads (λ n h. (refl, refl, refl, λ e. refl));
  root = ok.root;
  ordered = ok.ordered;
  rows = ok.rows;
}

pub lift_tree : (s : State) (row : ℕ) (d : Side) (raised : ℕ) → TreeOk s → TreeOk (raised_linked s row d raised)
lift_tree s row d raised ok = record {
  tells = ok.tells;
  reads = reads_same s (raised_linked s row d raised) s.links s.links s.tree ok.reads (λ n h. (refl, refl, refl, λ e. refl));
  root = ok.root;
  ordered = ok.ordered;
  rows = ok.rows;
}

-- a stamp with two more has the unlinked mark only where it had it
two_more : (s : State) (row n : ℕ) → ¬ IsUnlinked (s.stamp n) → IsUnlinked (changed s.stamp row (s.stamp row + 2) n) → ⊥
two_more s row n z m = dite (ℕ_discrete n row)
    (λ q. let a : IsUnlinked (s.stamp row + 2) = subst IsUnlinked (changed_same s.stamp row (s.stamp row + 2)) (subst (λ (x : ℕ). IsUnlinked (changed s.stamp row (s.stamp row + 2) x)) q m) in
    z (subst (λ (x : ℕ). IsUnlinked (s.stamp x)) (sym q) (half (s.stamp row) a)))
    (λ q. z (subst IsUnlinked (changed_other s.stamp row (s.stamp row + 2) n q) m))
  where
    half : (w : ℕ) → IsUnlinked (w + 2) → IsUnlinked w
    half w h = omega arith

pub shrink_tree : (s : State) (row : ℕ) → TreeOk s → TreeOk (shrinking_marked s row)
shrink_tree s row ok = record {
  tells = ok.tells;
  reads = reads_same s (shrinking_marked s row) s.links s.links s.tree ok.reads (λ n h. (refl, refl, refl, λ e. refl));
  root = ok.root;
  ordered = ok.ordered;
  rows = λ n h. ((ok.rows n h).0, two_more s row n (ok.rows n h).1);
}

pub clear_tree : (s : State) (row : ℕ) → TreeOk s → TreeOk (shrinking_cleared s row)
clear_tree s row ok = record {
  tells = ok.tells;
  reads = reads_same s (shrinking_cleared s row) s.links s.links s.tree ok.reads (λ n h. (refl, refl, refl, λ e. refl));
  root = ok.root;
  ordered = ok.ordered;
  rows = λ n h. ((ok.rows n h).0, two_more s row n (ok.rows n h).1);
}

-- the one link to a row
module _ (s : State) (ok : TreeOk s) (links_ok : LinksOk s) (parent : ℕ) (d : Side) (row : ℕ) (live : IsParent s parent d) (child : s.links parent d ≡ row) (is_row : row ≢ 0) where
  at_top : (n : ℕ) (e : Side) → root s.tree ≡ row → Stands n s.tree → s.links n e ≢ row
  at_top n e t h q = no_loop s s.links 0 (2 ^ 64) s.tree n e ok.ordered ok.reads h (λ x. is_row (sym t ∙ x)) (q ∙ sym t)

  pub one_link : (n : ℕ) (e : Side) → Stands n s.tree → s.links n e ≡ row → (n ≡ parent) × (e ≡ d)
  one_link n e h q = elim live [
    | inl z ↦ absurd (at_top n e (sym ok.root ∙ sym (ap₂ s.links z.0 z.1) ∙ child) h q)
    | inr l ↦ one_parent s s.links 0 (2 ^ 64) s.tree n parent e d ok.ordered ok.reads h l.stands (q ∙ sym child) (λ x. is_row (sym q ∙ x))
  ]

  pub row_stands : Stands row s.tree
  row_stands = elim live [
    | inl z ↦ (let t : root s.tree ≡ row = sym ok.root ∙ sym (ap₂ s.links z.0 z.1) ∙ child in subst (λ (x : ℕ). Stands x s.tree) t (root_stands s.tree (λ x. is_row (sym t ∙ x))))
    | inr l ↦ subst (λ (x : ℕ). Stands x s.tree) child (child_stands s s.links s.tree parent d ok.reads l.stands (λ x. is_row (sym child ∙ x)))
  ]

  -- the row is at the top exactly where row 0 is its parent
  pub top_link : root s.tree ≡ row → (parent ≡ 0) × (d ≡ Right)
  top_link t = elim live [ inl z ↦ z | inr l ↦ absurd (at_top parent d t l.stands child) ]

  pub not_top : ((0 ≡ parent) × (Right ≡ d) → ⊥) → root s.tree ≢ row
  not_top z t = let q = top_link t in z (sym q.0, sym q.1)

  pub is_top : (0 ≡ parent) × (Right ≡ d) → root s.tree ≡ row
  is_top z = sym ok.root ∙ ap₂ s.links z.0 z.1 ∙ child

-- a row leaves the tree
pub without_gone : (s : State) (l : ℕ → Side → ℕ) (r low high : ℕ) (t : Tree) → Between low high t → Represents s l t → Stands r (without r t) → ⊥
without_gone s l r low high empty o v h = h
without_gone s l r low high (node m a b) o v h = dite (ℕ_discrete m.row r)
    (λ e. let g : eqb m.row r ≡ true = eq-eqb m.row r e in here e a b (λ i. let k = left_key s l low high m a b r o v i in let q = ap s.key e in omega arith) (λ i. let k = right_key s l low high m a b r o v i in let q = ap s.key e in omega arith) (rw g at h))
    (λ e. let g : eqb m.row r ≡ false = ne_eqb m.row r e in below (rw g at h) e (without_gone s l r low m.key a o.2 v.3) (without_gone s l r (m.key + 1) high b o.3 v.4))
  where
    here : m.row ≡ r → (a b : Tree) → (Stands r a → ⊥) → (Stands r b → ⊥) → Stands r (one_of a b) → ⊥
    here e empty b f g h = g h
    here e (node p x y) b f g h = f h

    below : Stands r (node m (without r a) (without r b)) → m.row ≢ r → (Stands r (without r a) → ⊥) → (Stands r (without r b) → ⊥) → ⊥
    below (inl q) e f g = e (sym q)
    below (inr (inl i)) e f g = f i
    below (inr (inr i)) e f g = g i

-- a row gets the unlinked mark
pub unlink_tree : (s : State) (parent : ℕ) (d : Side) (row : ℕ) → TreeOk s → LinksOk s → ChangesOk s → MayMarkUnlinked s parent d row
    → TreeOk (unlinked_marked s parent d row)
unlink_tree s parent d row ok links_ok changes_ok may =
    let s' : State = unlinked_marked s parent d row in
    let only : ℕ = only_child s row in
    let z : row ≢ 0 = (let p = row_positive s s.links s.tree row ok.reads may.live.stands in λ q. omega arith) in
    let same : (e : Side) → s.link row e ≡ s.links row e = λ e. subst (LinkFits s row e) (may.no_change row e (inr refl)) (changes_ok.fits row e (inr may.live.stands)) in
    let child : s.links parent d ≡ row = sym (subst (LinkFits s parent d) (may.no_change parent d (inl refl)) (changes_ok.fits parent d (place may.parent_live))) ∙ may.child in
    let first : s.links row Left ≡ 0 → only ≡ s.links row Right = λ h. let g : eqb (s.link row Left) 0 ≡ true = eq-eqb (s.link row Left) 0 (same Left ∙ h) in rw g (same Right) in
    let second : s.links row Left ≢ 0 → only ≡ s.links row Left = λ h. let g : eqb (s.link row Left) 0 ≡ false = ne_eqb (s.link row Left) 0 (λ x. h (sym (same Left) ∙ x)) in rw g (same Left) in
    let lean = thin s s.links row s.tree ok.reads (unlink_thin s parent d row changes_ok may may.one_child) in
    let roots = root_without s s.links (relink s.links parent d only) row only z first second s.tree ok.reads in
    record {
      tells = λ k. find_without s s.links row 0 (2 ^ 64) s.tree k ok.ordered ok.reads lean may.no_value ∙ ok.tells k;
      reads = reads_same s s' (relink s.links parent d only) (relink s.links parent d only) (without row s.tree)
          (reads_without s s.links (relink s.links parent d only) row only z first second 0 (2 ^ 64) s.tree ok.ordered ok.reads
          (λ n e h y. (
            (λ q. let w = one_link s ok links_ok parent d row may.parent_live child z n e h q in ap₂ (relink s.links parent d only) w.0 w.1 ∙ relink_same s.links parent d only),
            (λ q. relink_away s.links parent d only n e (λ w. q (ap₂ s.links w.0 w.1 ∙ child))),
          )))
          (λ n h. (refl, refl, refl, λ e. refl));
      root = elim (same_place 0 parent Right d) [
        | inl q ↦ ap₂ (relink s.links parent d only) q.0 q.1 ∙ relink_same s.links parent d only ∙ sym (roots.0 (is_top s ok links_ok parent d row may.parent_live child z q))
        | inr q ↦ relink_away s.links parent d only 0 Right q ∙ ok.root ∙ sym (roots.1 (not_top s ok links_ok parent d row may.parent_live child z q))
      ];
      ordered = without_ordered row 0 (2 ^ 64) s.tree ok.ordered;
      rows = λ n h. let b = ok.rows n (without_stands row s.tree n h) in
          (b.0, λ u. b.1 (subst IsUnlinked (changed_other s.stamp row (s.stamp row + 1) n (λ q. without_gone s s.links row 0 (2 ^ 64) s.tree ok.ordered ok.reads (subst (λ (x : ℕ). Stands x (without row s.tree)) q h))) u));
    }
  where
    place : IsParent s parent d → (parent ≡ 0) ⊎ Stands parent s.tree
    place (inl q) = inl q.0
    place (inr l) = inr l.stands

-- a copy is linked
pub copy_tree : (s : State) (parent : ℕ) (d : Side) (row copy : ℕ) → TreeOk s → LinksOk s → ChangesOk s → MayLinkCopy s parent d row copy
    → TreeOk (copy_linked s parent d row copy)
copy_tree s parent d row copy ok links_ok changes_ok may =
    let s' : State = copy_linked s parent d row copy in
    let base : ℕ → Side → ℕ = changed s.links copy (s.link copy) in
    let l' : ℕ → Side → ℕ = relink base parent d copy in
    let z : row ≢ 0 = (let p = may.shared.is_row in λ q. omega arith) in
    let child : s.links parent d ≡ row = sym (subst (LinkFits s parent d) may.no_change (changes_ok.fits parent d (place may.parent_live))) ∙ may.child in
    let stands : Stands row s.tree = row_stands s ok links_ok parent d row may.parent_live child z in
    let apart : copy ≢ parent = not_parent may.parent_live in
    let old : (n : ℕ) → Stands n s.tree → n ≢ copy = λ n h q. may.fresh (subst (λ (x : ℕ). In x s.linked) q (ok.rows n h).0) in
    let base_old : (n : ℕ) (e : Side) → n ≢ copy → base n e ≡ s.links n e = λ n e q. ap (λ (f : Side → ℕ). f e) (changed_other s.links copy (s.link copy) n q) in
    let copied : (e : Side) → l' copy e ≡ s.links row e = λ e. relink_other base parent d copy copy e apart ∙ ap (λ (f : Side → ℕ). f e) (changed_same s.links copy (s.link copy)) ∙ may.links e ∙ plain_word s changes_ok row e stands may.shared in
    let own : (e : Side) → s.links row e ≢ row = λ e q. let w = one_link s ok links_ok parent d row may.parent_live child z row e stands q in not_own may.parent_live w.0 in
    let roots = root_renamed s s.links l' row copy s.tree z in
    record {
      tells = λ k. find_renamed row copy s.tree k ∙ ok.tells k;
      reads = reads_same s s' l' l' (renamed row copy s.tree)
          (reads_renamed s s.links l' row copy z may.is_row may.key may.value may.height copied own s.tree ok.reads
          (λ n e h y. (
            (λ q. let w = one_link s ok links_ok parent d row may.parent_live child z n e h q in ap₂ l' w.0 w.1 ∙ relink_same base parent d copy),
            (λ q. relink_away base parent d copy n e (λ w. q (ap₂ s.links w.0 w.1 ∙ child)) ∙ base_old n e (old n h)),
          )))
          (λ n h. (refl, refl, refl, λ e. refl));
      root = elim (same_place 0 parent Right d) [
        | inl q ↦ ap₂ l' q.0 q.1 ∙ relink_same base parent d copy ∙ sym (roots.0 (is_top s ok links_ok parent d row may.parent_live child z q))
        | inr q ↦ relink_away base parent d copy 0 Right q ∙ base_old 0 Right (λ x. let p = may.is_row in omega arith) ∙ ok.root ∙ sym (roots.1 (not_top s ok links_ok parent d row may.parent_live child z q))
      ];
      ordered = renamed_ordered row copy 0 (2 ^ 64) s.tree ok.ordered;
      rows = λ n h. elim (renamed_stands row copy s.tree n h) [
        | inl q ↦ (inl q, λ u. let g : IsUnlinked 0 = subst IsUnlinked (ap s.stamp q ∙ may.stamp) u in omega arith)
        | inr x ↦ (inr (ok.rows n x.1).0, (ok.rows n x.1).1)
      ];
    }
  where
    place : IsParent s parent d → (parent ≡ 0) ⊎ Stands parent s.tree
    place (inl q) = inl q.0
    place (inr l) = inr l.stands

    not_parent : IsParent s parent d → copy ≢ parent
    not_parent (inl q) e = let p = may.is_row in omega (arith, q.0)
    not_parent (inr l) e = may.fresh (subst (λ (x : ℕ). In x s.linked) (sym e) (ok.rows parent l.stands).0)

    not_own : IsParent s parent d → row ≢ parent
    not_own (inl q) e = let p = may.shared.is_row in omega (arith, q.0)
    not_own (inr l) e = l.own (subst (IsShared s) e may.shared)

root_leaf : (s : State) (l : ℕ → Side → ℕ) (r : ℕ) (d : Side) (leaf : Node) (t : Tree) → Represents s l t → root t ≡ 0 → root (grown r d leaf t) ≡ leaf.row
root_leaf s l r d leaf empty v z = refl
root_leaf s l r d leaf (node m a b) v z = absurd (omega (arith, v.0.is_row, z))

has_top : (s : State) (l : ℕ → Side → ℕ) (t : Tree) (n : ℕ) → Represents s l t → Stands n t → root t ≢ 0
has_top s l empty n v h z = h
has_top s l (node m a b) n v h z = omega (arith, v.0.is_row, z)

-- a leaf is linked
pub leaf_tree : (s : State) (parent : ℕ) (d : Side) (row : ℕ) (x : Entry) → TreeOk s → ChangesOk s → MayLinkLeaf s parent d row x
    → TreeOk (leaf_linked s parent d row x)
leaf_tree s parent d row x ok changes_ok may =
    let s' : State = leaf_linked s parent d row x in
    let leaf : Node = leaf_of row x in
    let base : ℕ → Side → ℕ = changed s.links row (s.link row) in
    let l' : ℕ → Side → ℕ = relink base parent d row in
    let none : s.links parent d ≡ 0 = sym (subst (LinkFits s parent d) may.no_change (changes_ok.fits parent d (place may.parent_live))) ∙ may.no_child in
    let says : Says s leaf = record { is_row = may.is_row; key = may.key; value = may.value; height = may.height } in
    let apart : row ≢ parent = not_parent may.parent_live in
    let ends : (e : Side) → l' row e ≡ 0 = λ e. relink_other base parent d row row e apart ∙ ap (λ (f : Side → ℕ). f e) (changed_same s.links row (s.link row)) ∙ may.links e in
    let base_old : (n : ℕ) (e : Side) → n ≢ row → base n e ≡ s.links n e = λ n e q. ap (λ (f : Side → ℕ). f e) (changed_other s.links row (s.link row) n q) in
    let fresh : ¬ Stands row s.tree = λ h. may.fresh (ok.rows row h).0 in
    let here : (root s.tree ≡ 0) ⊎ OnWay s.tree (call_key x.call) parent × Toward d (call_key x.call) (s.key parent) = grows none may.parent_live in
    record {
      tells = λ k. dite (ℕ_discrete k (call_key x.call))
          (λ q. subst (λ (y : ℕ). find (grown parent d leaf s.tree) y ≡ told (s.history ++ x ∷ []) y) (sym q) (find_grown_same s s.links parent d leaf none s.tree ok.reads here ∙ sym (told_same s.history x)))
          (λ q. find_grown_other parent d leaf s.tree k q ∙ ok.tells k ∙ sym (told_other s.history x k q));
      reads = reads_same s s' l' l' (grown parent d leaf s.tree)
          (reads_grown s s.links l' parent leaf says ends d none (relink_same base parent d row) (λ n e q y. relink_away base parent d row n e y ∙ base_old n e q) 0 (2 ^ 64) s.tree ok.ordered ok.reads fresh)
          (λ n h. (refl, refl, refl, λ e. refl));
      root = elim (same_place 0 parent Right d) [
        | inl q ↦ ap₂ l' q.0 q.1 ∙ relink_same base parent d row ∙ sym (root_leaf s s.links parent d leaf s.tree ok.reads (top none may.parent_live (sym q.0)))
        | inr q ↦ relink_away base parent d row 0 Right q ∙ base_old 0 Right (λ y. let p = may.is_row in omega arith) ∙ ok.root
            ∙ sym ((root_of_grown s s.links l' parent leaf says ends d s.tree).1 (some_top q may.parent_live))
      ];
      ordered = grown_ordered s s.links parent d leaf 0 (2 ^ 64) s.tree ok.ordered ok.reads here (omega arith) may.small;
      rows = λ n h. elim (grown_stands parent d leaf s.tree n h) [
        | inl q ↦ (inl q, λ u. let g : IsUnlinked 0 = subst IsUnlinked (ap s.stamp q ∙ may.stamp) u in omega arith)
        | inr y ↦ (inr (ok.rows n y).0, (ok.rows n y).1)
      ];
    }
  where
    place : IsParent s parent d → (parent ≡ 0) ⊎ Stands parent s.tree
    place (inl q) = inl q.0
    place (inr l) = inr l.stands

    not_parent : IsParent s parent d → row ≢ parent
    not_parent (inl q) e = let p = may.is_row in omega (arith, q.0)
    not_parent (inr l) e = may.fresh (subst (λ (y : ℕ). In y s.linked) (sym e) (ok.rows parent l.stands).0)

    top : s.links parent d ≡ 0 → IsParent s parent d → parent ≡ 0 → root s.tree ≡ 0
    top h (inl q) p = sym ok.root ∙ sym (ap₂ s.links q.0 q.1) ∙ h
    top h (inr l) p = absurd (let k = row_positive s s.links s.tree parent ok.reads l.stands in omega (arith, p))

    some_top : ((0 ≡ parent) × (Right ≡ d) → ⊥) → IsParent s parent d → root s.tree ≢ 0
    some_top f (inl q) = absurd (f (sym q.0, sym q.1))
    some_top f (inr l) = has_top s s.links s.tree parent ok.reads l.stands

    grows : s.links parent d ≡ 0 → IsParent s parent d
        → (root s.tree ≡ 0) ⊎ OnWay s.tree (call_key x.call) parent × Toward d (call_key x.call) (s.key parent)
    grows h l = elim may.place [ inl p ↦ inl (top h l p) | inr w ↦ inr w ]

pub other_side : (d : Side) → other d ≡ d → ⊥
other_side Left q = cc
other_side Right q = cc

-- the raised row comes into the lowered row's place
pub raise_tree : (s : State) (parent : ℕ) (p : Side) (row : ℕ) (d : Side) (raised : ℕ) → TreeOk s → LinksOk s → ChangesOk s
    → MayLinkParent s parent p row d raised
    → TreeOk (parent_linked s parent p row d raised)
raise_tree s parent p row d raised ok links_ok changes_ok may =
    let s' : State = parent_linked s parent p row d raised in
    let one : ℕ → Side → ℕ = relink s.links row d (s.link row d) in
    let two : ℕ → Side → ℕ = relink one raised (other d) row in
    let l' : ℕ → Side → ℕ = relink two parent p raised in
    let z : row ≢ 0 = (let q = row_positive s s.links s.tree row ok.reads may.live.stands in λ x. omega arith) in
    let zr : raised ≢ 0 = (let q = row_positive s s.links s.tree raised ok.reads may.raised_live.stands in λ x. omega arith) in
    let child : s.links parent p ≡ row = sym (subst (LinkFits s parent p) may.no_change (changes_ok.fits parent p (place may.parent_live))) ∙ may.child in
    let away : (n : ℕ) (e : Side) → n ≢ row → n ≢ raised → ((n ≡ parent) × (e ≡ p) → ⊥) → l' n e ≡ s.links n e = λ n e x y w. relink_away two parent p raised n e w ∙ relink_other one raised (other d) row n e y ∙ relink_other s.links row d (s.link row d) n e x in
    let turning : Turning s.links l' row raised d = record {
      is_row = z;
      raised_is_row = zr;
      apart = may.apart.0;
      is_child = may.raised_child;
      lowered = relink_other two parent p raised row d (λ x. may.apart.1 (sym x)) ∙ relink_other one raised (other d) row row d (λ x. may.apart.0 (sym x)) ∙ relink_same s.links row d (s.link row d) ∙ may.middle;
      kept = relink_other two parent p raised row (other d) (λ x. may.apart.1 (sym x)) ∙ relink_other one raised (other d) row row (other d) (λ x. may.apart.0 (sym x)) ∙ relink_away s.links row d (s.link row d) row (other d) (λ x. other_side d x.1);
      across = relink_other two parent p raised raised (other d) (λ x. may.apart.2 (sym x)) ∙ relink_same one raised (other d) row;
      outer = relink_other two parent p raised raised d (λ x. may.apart.2 (sym x)) ∙ relink_away one raised (other d) row raised d (λ x. other_side d (sym x.1)) ∙ relink_other s.links row d (s.link row d) raised d may.apart.0;
    } in
    let roots = root_rotated s s.links l' row raised d turning s.tree ok.reads in
    record {
      tells = λ k. find_rotated row d 0 (2 ^ 64) s.tree k ok.ordered ∙ ok.tells k;
      reads = reads_same s s' l' l' (rotated row d s.tree)
          (reads_rotated s s.links l' row raised d 0 (2 ^ 64) s.tree turning ok.ordered ok.reads
          (λ q. no_loop s s.links 0 (2 ^ 64) s.tree row d ok.ordered ok.reads may.live.stands (λ x. zr (sym q ∙ x)) (may.raised_child ∙ sym q))
          (λ n e h q. (one_parent s s.links 0 (2 ^ 64) s.tree n row e d ok.ordered ok.reads h may.live.stands (q ∙ sym may.raised_child) (λ x. zr (sym q ∙ x))).0)
          (λ n e h x y. (
            (λ q. let w = one_link s ok links_ok parent p row may.parent_live child z n e h q in ap₂ l' w.0 w.1 ∙ relink_same two parent p raised),
            (λ q. away n e x y (λ w. q (ap₂ s.links w.0 w.1 ∙ child))),
          )))
          (λ n h. (refl, refl, refl, λ e. refl));
      root = elim (same_place 0 parent Right p) [
        | inl q ↦ ap₂ l' q.0 q.1 ∙ relink_same two parent p raised ∙ sym (roots.0 (is_top s ok links_ok parent p row may.parent_live child z q))
        | inr q ↦ away 0 Right (λ x. z (sym x)) (λ x. zr (sym x)) q ∙ ok.root ∙ sym (roots.1 (not_top s ok links_ok parent p row may.parent_live child z q))
      ];
      ordered = rotated_ordered row d 0 (2 ^ 64) s.tree ok.ordered;
      rows = λ n h. ok.rows n (rotated_stands row d s.tree n h);
    }
  where
    place : IsParent s parent p → (parent ≡ 0) ⊎ Stands parent s.tree
    place (inl q) = inl q.0
    place (inr l) = inr l.stands

-- what a link of the tree leads to
pub at_parent : (s : State) → TreeOk s → (parent : ℕ) (d : Side) → IsParent s parent d → (s.links parent d ≡ 0) ⊎ Stands (s.links parent d) s.tree
at_parent s ok parent d live = dite (ℕ_discrete (s.links parent d) 0) (λ q. inl q) (λ q. inr (stands live q))
  where
    stands : IsParent s parent d → s.links parent d ≢ 0 → Stands (s.links parent d) s.tree
    stands (inl z) q = let e : s.links parent d ≡ root s.tree = ap₂ s.links z.0 z.1 ∙ ok.root in subst (λ (x : ℕ). Stands x s.tree) (sym e) (root_stands s.tree (λ x. q (e ∙ x)))
    stands (inr l) q = child_stands s s.links s.tree parent d ok.reads l.stands q
