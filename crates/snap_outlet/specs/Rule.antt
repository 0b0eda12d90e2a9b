-- The rule of an outlet's queue, and what each step of a seat makes of what the seat knows.
use Rattle.std.specs.Prelude.{◌≡◌, ◌+◌, ◌<◌, ◌≤◌, ℕ, List, [], ◌∷◌, ◌++◌, All}
use mathlib.Core.Option.{some, none, Option}
use lib.ListN.{get_elem?}
use Rattle.snap_model.specs.History.{Begins}
use Rattle.snap_outlet.specs.declared.piece.Piece.{Piece}
use Rattle.snap_outlet.specs.declared.view.Parcel.{Parcel}
use Rattle.snap_outlet.specs.declared.view.Sent.{Sent}
use Rattle.snap_outlet.specs.declared.view.Tally.{Tally}
use Rattle.snap_outlet.specs.declared.view.View.{View}
use Rattle.snap_outlet.specs.declared.view.View.TheVariants.{Sends, Takes, Gathered}
use Rattle.snap_outlet.specs.Outlets.{IsAll, IsInOrder, TakesNext, and_piece, pieces_of}

-- what a sender's seat has sent, and what the taker's seat knows
abbrev pub sent_in : View → Sent
sent_in (Sends s) = s
sent_in (Takes t) = record { sender = 0; pieces = [] }
sent_in Gathered = record { sender = 0; pieces = [] }

abbrev pub tally_in : View → Tally
tally_in (Sends s) = record { senders = 0; taken = []; waiting = []; finished = [] }
tally_in (Takes t) = t
tally_in Gathered = record { senders = 0; taken = []; waiting = []; finished = [] }

-- What is true of the whole outlet: the taker's seat, the seat of each sender that has not been
-- gathered, what each sender has sent, and what was taken
pub record Books : Type 0 where
  pub taker : ℕ
  pub seat : ℕ → Option ℕ
  pub sent : ℕ → List Piece
  pub taken : List Parcel

-- this is the one seat of its sender, and it knows what was sent
pub record FitsSender (b : Books) (seat : ℕ) (s : Sent) : Type 0 where
  pub seated : b.seat s.sender ≡ some seat
  pub knows : s.pieces ≡ b.sent s.sender

-- the sender has no seat any more, and this is all that it sent
pub record FitsFinished (b : Books) (senders : ℕ) (s : Sent) : Type 0 where
  pub made : s.sender < senders
  pub left : b.seat s.sender ≡ none
  pub knows : s.pieces ≡ b.sent s.sender

-- the sender has no seat yet, and has sent nothing
pub record IsUnmade (b : Books) (sender : ℕ) : Type 0 where
  pub unseated : b.seat sender ≡ none
  pub silent : b.sent sender ≡ []

-- this is the one taker; it knows what was taken, some that waits in front, and what finished
-- senders sent
pub record FitsTaker (b : Books) (items : List Parcel) (seat : ℕ) (t : Tally) : Type 0 where
  pub alone : seat ≡ b.taker
  pub knows : t.taken ≡ b.taken
  pub waits : Begins t.waiting items
  pub finished : All (FitsFinished b t.senders) t.finished
  pub unmade : (sender : ℕ) → t.senders ≤ sender → IsUnmade b sender

abbrev pub FitsSeat : Books → List Parcel → ℕ → View → Type 0
FitsSeat b items seat (Sends s) = FitsSender b seat s
FitsSeat b items seat (Takes t) = FitsTaker b items seat t
FitsSeat b items seat Gathered = Unit {0}

-- what was taken of each sender, and then what the queue holds of it, is what it sent, in its order
pub record Delivers (items : List Parcel) (views : List View) : Type 0 where
  pub books : Books
  pub delivers : (sender : ℕ) → pieces_of sender (books.taken ++ items) ≡ books.sent sender
  pub fits : (seat : ℕ) (v : View) → get_elem? views seat ≡ some v → FitsSeat books items seat v

-- the first seat is the taker's
abbrev pub first : View
first = Takes (record { senders = 0; taken = []; waiting = []; finished = [] })

-- a sender sends a parcel
abbrev pub posted : View → Parcel → View
posted v x = Sends (and_piece (sent_in v) x.piece)

-- the taker takes a parcel, or finds none
pub record Fetched (v : View) (x : Parcel) (w : View) : Type 0 where
  pub takes : w ≡ Takes (tally_in w)
  pub next : TakesNext (tally_in v) x.piece (tally_in w)
  pub in_order : All (IsInOrder (tally_in w).taken) (tally_in w).finished

pub record FoundNone (v : View) : Type 0 where
  pub empty : (tally_in v).waiting ≡ []
  pub all : All (IsAll (tally_in v).taken) (tally_in v).finished

-- the taker gathers a sender
abbrev pub gathered : View → View → View
gathered v w = Takes (record (tally_in v) { finished = (tally_in v).finished ++ sent_in w ∷ [] })

-- the taker makes the sender of the next number
abbrev pub after_making : View → View
after_making v = Takes (record (tally_in v) { senders = (tally_in v).senders + 1 })

abbrev pub made_sender : View → View
made_sender v = Sends (record { sender = (tally_in v).senders; pieces = [] })
