-- What the loads of a clone's seat tell together.
use Rattle.std.proofs.Common.{◌≡◌, ◌≤◌, ◌∙◌, ℕ, Option, inl, inr, sym, refl, subst, ⊎_elim}
use Rattle.atomic_table.specs.Seated.{TableId}
use Rattle.snap_rule.specs.Tree.{Tree, Node, Stands, value_of}
use Rattle.snap_rule.specs.Tree.Tree.{empty, node}
use Rattle.snap_stamp.specs.declared.layout.Field.{Field}
use Rattle.snap_stamp.specs.declared.layout.Field.TheVariants.{Key, Height, Left, Right, Value}
use Rattle.snap_steps.specs.Clones.{Cloned, image, IsSubtree, IsLink, FitsLink, TellsWord}
use Rattle.snap_steps.specs.Copies.{CopiesRow}
use Rattle.snap_steps.specs.Steps.Told.{Sat}
use Rattle.snap_steps.proofs.Classes.Entering.{value_is}

-- the node of a row that stands in the tree
pub record NodeAt (t : Tree) (r : ℕ) : Type 0 where
  pub top : Node
  pub left : Tree
  pub right : Tree
  pub within : IsSubtree (node top left right) t
  pub is : top.row ≡ r

pub node_at : (t : Tree) (r : ℕ) → Stands r t → NodeAt t r
node_at empty r h = elim h [ ]
node_at (node n a b) r (inl e) = record { top = n; left = a; right = b; within = inl refl; is = sym e }
node_at (node n a b) r (inr (inl h)) = let x = node_at a r h in record { top = x.top; left = x.left; right = x.right; within = inr (inl x.within); is = x.is }
node_at (node n a b) r (inr (inr h)) = let x = node_at b r h in record { top = x.top; left = x.left; right = x.right; within = inr (inr x.within); is = x.is }

-- a link of a row of the clone leads to a row of the table
pub link_low : (rows : ℕ) (t : Tree) (r x : ℕ) (f : Field) → IsLink f → Stands r t → TellsWord rows t r f x → x ≤ rows
link_low rows t r x f link stands tells =
    let n = node_at t r stands in let fits = (tells n.top n.left n.right n.within n.is).1 in
    ⊎_elim (λ (e : f ≡ Left). subst (λ (h : Field). FitsLink rows h x) e fits) (λ (e : f ≡ Right). subst (λ (h : Field). FitsLink rows h x) e fits) link

-- the five words of a row, loaded one after another
pub all_copied : (rows : ℕ) (old a b c d : Cloned) (row key word height left right : ℕ) (value : Option ℕ) → a ≡ old → b ≡ a → c ≡ b → d ≡ c → TellsWord rows (image old) row Key key → TellsWord rows (image a) row Value word → TellsWord rows (image b) row Height height
    → TellsWord rows (image c) row Left left → TellsWord rows (image d) row Right right → value ≡ value_of word → CopiesRow (image old) row (record { key = key; value = value; height = height; left = left; right = right })
all_copied rows old a b c d row key word height left right value ea eb ec ed k v h l r is n x y within same = record {
  key = (k n x y within same).0;
  value = is ∙ value_is n.value word (back a ea Value word v n x y within same).0;
  height = (back b (eb ∙ ea) Height height h n x y within same).0;
  left = (back c (ec ∙ eb ∙ ea) Left left l n x y within same).0;
  right = (back d (ed ∙ ec ∙ eb ∙ ea) Right right r n x y within same).0;
}
  where
    back : (z : Cloned) → z ≡ old → (f : Field) (w : ℕ) → TellsWord rows (image z) row f w → TellsWord rows (image old) row f w
    back z e f w = subst (λ (q : Cloned). TellsWord rows (image q) row f w) e

-- the seat as contracts see it
abbrev pub seen_as : TableId → Sat → ℕ → Cloned
seen_as table me next = record { table = table; rows = me.0.rows; base = me.0.base.history; parts = me.0.base.parts; drawn = me.0.base.drawn; balance = me.0.base.balance; next = next; handed = me.0.noted.handed; epochs = me.0.noted.epochs; worn = me.0.noted.worn; outworn = me.0.outworn }
