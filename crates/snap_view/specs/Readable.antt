-- A clone that can be read.
use Rattle.snap_prelude.specs.{ArePlaced, Cloned, image, IsCloneAt, IsCloneOf, IsWeighed, Laid}

-- the seat is of that table, its tree tells the map after its base and has no more rows than were
-- handed out, and it is settled or is known why not
pub record IsReadable (rows : Laid) (seat : Cloned) : Type 0 where
  pub at : IsCloneAt seat rows
  pub clone : IsCloneOf seat.base (image seat)
  pub placed : ArePlaced seat.rows (image seat)
  pub weighed : IsWeighed seat.rows seat.next (image seat) seat.balance
