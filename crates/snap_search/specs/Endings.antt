-- Where the way of a key ends in the rows of this epoch, for a repair.
use Rattle.std.specs.Prelude.{◌≡◌, ℕ, ◌≤◌, List, ◌∷◌, true, false, cond}
use Rattle.snap_prelude.specs.{Among, Epoch, Known, On, Right, Standing, View}
use Rattle.snap_search.specs.{Places.Births, Places.births_of, Places.EndsAt, Work.IsReached, Work.Works}
use Rattle.snap_search.specs.{declared.down.Spot.Spot, declared.endings.Ending.Ending, declared.places.Place.Place}
use Rattle.snap_search.specs.declared.places.Place.TheVariants.{Here, Below, Shared}

-- the row from which the way last went on: where the last row has the key, the one above it
abbrev pub last_of : Ending → ℕ
last_of e = cond e.here e.above e.row

-- both are rows of the table to which the pass came, and of row 0 the right side alone counts
pub record IsWayEnd (rows : ℕ) (v : View) (e : Ending) : Type 0 where
  pub low : (e.row ≤ rows) × (e.above ≤ rows)
  pub reached : IsReached v e.row
  pub above : IsReached v e.above
  pub on_right : e.above ≡ 0 → e.above_side ≡ Right
  pub faces : e.row ≡ 0 → e.side ≡ Right

-- where the way of the key ended: the last row of this epoch and the row above it, which is to be
-- checked under its lock
pub record EndsOn (rows : ℕ) (v : View) (key : ℕ) (e : Ending) : Type 0 where
  pub is_end : IsWayEnd rows v e
  pub place : v.way.place ≡ On key (Standing (last_of e) e.stamp e.side)

-- the end of a way below a row, with the row above that
abbrev pub end_below : Spot → Spot → Ending
end_below at above = record {
  above = above.row;
  above_side = above.side;
  row = at.row;
  stamp = at.stamp;
  side = at.side;
  here = false;
}

-- the place of the key, with the rows above it: that at which the last step down began, and the one
-- before
abbrev pub end_at : Place → Spot → Spot → Ending
end_at (Here row) above spot =
    record {
      above = spot.row;
      above_side = spot.side;
      row = row;
      stamp = spot.stamp;
      side = spot.side;
      here = true;
    }
end_at (Below at) above spot = end_below at above
end_at (Shared at) above spot = end_below at above

-- the end of a way is below this row
abbrev pub IsEndBelow : Spot → Ending → Type 0
IsEndBelow at e = (e.here ≡ false) × (e.row ≡ at.row) × (e.stamp ≡ at.stamp) × (e.side ≡ at.side)

-- it is at this place
abbrev pub IsAt : Place → Ending → Type 0
IsAt (Here row) e = (e.here ≡ true) × (e.row ≡ row) × (e.side ≡ e.above_side)
IsAt (Below at) e = IsEndBelow at e
IsAt (Shared at) e = IsEndBelow at e

-- the end of the way of the key, at the place that the search found. The pass has seen no more than
-- before, and it leaves notes of the epoch and of the births on its way
pub record FindsEnd (rows : ℕ) (old new : Known) (key : ℕ) (e : Ending) : Type 0 where
  pub epoch : ℕ
  pub births : List ℕ
  pub works : Works old new (Epoch epoch ∷ births_of key births)
  pub seen : new.view.seen ≡ old.view.seen
  pub now : Among epoch new.view.words.present
  pub place : Place
  pub is_place : IsAt place e
  pub noted : Births epoch births place
  pub at : EndsAt rows new.view key epoch place
  pub ends : EndsOn rows new.view key e
