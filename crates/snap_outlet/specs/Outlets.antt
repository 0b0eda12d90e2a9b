-- What contracts see of an outlet's senders and of its taker.
use Rattle.std.specs.Prelude.{◌≡◌, ◌==◌, ◌<◌, ℕ, zero, suc, List, [], ◌∷◌, ◌++◌, filter, map}
use Rattle.snap_model.specs.History.{Begins}
use Rattle.snap_outlet.specs.declared.piece.Piece.{Piece}
use Rattle.snap_outlet.specs.declared.view.Parcel.{Parcel}
use Rattle.snap_outlet.specs.declared.view.Sent.{Sent}
use Rattle.snap_outlet.specs.declared.view.Tally.{Tally}

-- which outlet it is
abbrev pub OutletId : Type 0
OutletId = ℕ × ℕ

-- a sender: its outlet, its number, and what it has sent
pub record SenderAt : Type 0 where
  pub outlet : OutletId
  pub sent : Sent

-- a taker: its outlet, and what it knows
pub record TakerAt : Type 0 where
  pub outlet : OutletId
  pub tally : Tally

-- what a sender has sent after one piece more
abbrev pub and_piece : Sent → Piece → Sent
and_piece s piece = record s { pieces = s.pieces ++ piece ∷ [] }

-- a sender that has sent nothing
abbrev pub new_sender : OutletId → ℕ → SenderAt
new_sender outlet number =
    record { outlet = outlet; sent = record { sender = number; pieces = [] } }

-- the senders of the numbers below n, which have sent nothing
abbrev pub new_senders : OutletId → ℕ → List SenderAt
new_senders outlet zero = []
new_senders outlet (suc n) = new_senders outlet n ++ new_sender outlet n ∷ []

-- the taker of an empty outlet with n senders
abbrev pub new_taker : OutletId → ℕ → TakerAt
new_taker outlet n = record
    { outlet = outlet; tally = record { senders = n; taken = []; waiting = []; finished = [] } }

-- what the taker knows once it has gathered these senders too
abbrev pub with_receipts : TakerAt → List Sent → TakerAt
with_receipts t sent = record t { tally = record t.tally { finished = t.tally.finished ++ sent } }

-- the pieces of one sender among these, in their order
abbrev pub pieces_of : ℕ → List Parcel → List Piece
pieces_of sender xs = map (λ x. x.piece) (filter (λ x. x.sender == sender) xs)

-- what was taken of a finished sender is a prefix of what it sent
abbrev pub IsInOrder : List Parcel → Sent → Type 0
IsInOrder taken s = Begins (pieces_of s.sender taken) s.pieces

-- it is all that the sender sent
abbrev pub IsAll : List Parcel → Sent → Type 0
IsAll taken s = pieces_of s.sender taken ≡ s.pieces

-- One piece more was taken, of one of the senders. What the taker knew to wait comes out first, in
-- its order
pub record TakesNext (t : Tally) (piece : Piece) (u : Tally) : Type 0 where
  pub sender : ℕ
  pub is_one : sender < t.senders
  pub adds : u
      ≡ record t
      { taken = t.taken ++ (record { sender = sender; piece = piece }) ∷ []; waiting = u.waiting }
  pub in_turn : Begins t.waiting ((record { sender = sender; piece = piece }) ∷ u.waiting)
