-- What a clone's seat answers of a row, and what a pass knows once the seat was given back to it.
use Rattle.std.specs.Prelude.{◌≡◌, ◌||◌, ℕ, List}
use Rattle.snap_model.specs.History.{Begins}
use Rattle.snap_model.specs.declared.call.Entry.{Entry}
use Rattle.snap_rule.specs.Tree.{Tree, Node, root}
use Rattle.snap_rule.specs.Tree.Tree.{node}
use Rattle.snap_stamp.specs.declared.layout.Field.TheVariants.{Stamp}
use Rattle.snap_steps.specs.Steps.Fields.{is_last}
use Rattle.snap_steps.specs.Steps.Clones.{found_out}
use Rattle.snap_steps.specs.Steps.Seats.{taught}
use Rattle.snap_steps.specs.Clones.{IsSubtree, Cloned}
use Rattle.snap_steps.specs.Histories.{Extends}
use Rattle.snap_steps.specs.Seen.{Laid, Known, Becomes}
use Rattle.snap_steps.specs.declared.clones.RowCopy.{RowCopy}
use Rattle.snap_steps.specs.declared.view.View.{View}

-- the seat is of a clone of that table
abbrev pub IsCloneAt : Cloned → Laid → Type 0
IsCloneAt seat rows = (seat.table ≡ rows.table) × (seat.rows ≡ rows.rows)

-- the clone that the pass has cut
abbrev pub clone_of : Known → ℕ → Cloned
clone_of k next =
    record {
      table = k.table;
      rows = k.view.rows;
      base = k.view.base.history;
      parts = k.view.base.parts;
      drawn = k.view.base.drawn;
      balance = k.view.base.balance;
      next = next;
      handed = k.view.noted.handed;
      epochs = k.view.noted.epochs;
      worn = k.view.noted.worn;
      outworn = k.view.outworn;
    }

-- the seat, once it has loaded this stamp of a row
abbrev pub with_stamp : Cloned → (row stamp : ℕ) → Cloned
with_stamp c row stamp =
    record c { worn = c.worn || is_last Stamp stamp; outworn = found_out row stamp c.outworn }

-- a pass that has come to know what a clone's seat had seen and noted
abbrev pub took_back : View → Cloned → List Entry → View
took_back v c seen = taught v c.handed c.epochs c.worn seen

-- the seat was given back to the pass. What the pass has seen stays, if the clone's base begins it
pub record TakesBack (old new : Known) (clone : Cloned) : Type 0 where
  pub seen : List Entry
  pub extends : Extends old.view seen
  pub base : Begins clone.base seen
  pub own : Begins clone.base old.view.seen → seen ≡ old.view.seen
  pub pass : Becomes old new (took_back old.view clone seen)

-- the copy has what the node has, and the rows of its two subtrees
pub record IsCopyOf (n : Node) (a b : Tree) (copy : RowCopy) : Type 0 where
  pub key : copy.key ≡ n.key
  pub value : copy.value ≡ n.value
  pub height : copy.height ≡ n.height
  pub left : copy.left ≡ root a
  pub right : copy.right ≡ root b

-- the copy is of the tree's node of this row
abbrev pub CopiesRow : Tree → ℕ → RowCopy → Type 0
CopiesRow t row copy =
    (n : Node) (a b : Tree) → IsSubtree (node n a b) t → n.row ≡ row → IsCopyOf n a b copy
