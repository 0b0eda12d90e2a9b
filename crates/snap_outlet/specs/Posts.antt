-- What contracts see of a worker's post, and what the caller knows of the posts of all workers.
use Rattle.std.specs.Prelude.{◌≡◌, ◌≢◌, ◌<◌, ◌+◌, ℕ, List, [], ◌∷◌, ◌++◌, length, map, slice_index_or}
use Rattle.snap_model.specs.History.{Begins}
use Rattle.snap_outlet.specs.declared.piece.Piece.{Piece}
use Rattle.snap_outlet.specs.declared.post.Put.{Put}
use Rattle.snap_outlet.specs.declared.post.Put.TheVariants as put
use Rattle.snap_outlet.specs.declared.view.Parcel.{Parcel}
use Rattle.snap_outlet.specs.declared.view.Sent.{Sent}
use Rattle.snap_outlet.specs.Outlets.{OutletId, SenderAt, pieces_of}

-- a post: its outlet, what its sender has sent, and what waits for memory, in its order
pub record PostAt : Type 0 where
  pub outlet : OutletId
  pub sent : Sent
  pub waiting : List Piece

-- all that was put out at a post, in its order
abbrev pub put_at : PostAt → List Piece
put_at post = post.sent.pieces ++ post.waiting

-- the post of a sender at which nothing waits
abbrev pub new_post : SenderAt → PostAt
new_post s = record { outlet = s.outlet; sent = s.sent; waiting = [] }

-- these pieces were put behind what was put; what was sent stays sent
pub record PutsOn (p : PostAt) (more : List Piece) (q : PostAt) : Type 0 where
  pub outlet : q.outlet ≡ p.outlet
  pub sender : q.sent.sender ≡ p.sent.sender
  pub put : put_at q ≡ put_at p ++ more
  pub sent : Begins p.sent.pieces q.sent.pieces

-- what is told of a piece that was put, by what waits at the post then
abbrev pub IsPut : Put → List Piece → Type 0
IsPut put.Sent waiting = waiting ≡ []
IsPut put.Kept waiting = waiting ≢ []

-- pieces under the number of one sender
abbrev pub parcels : ℕ → List Piece → List Parcel
parcels sender pieces = map (λ piece. record { sender = sender; piece = piece }) pieces

-- what waits at the posts of the senders from this number on, post by post
abbrev pub rests : ℕ → List PostAt → List Parcel
rests number [] = []
rests number (post ∷ posts) = parcels number post.waiting ++ rests (number + 1) posts

-- the posts of the senders from this number on
abbrev pub AreNumbered : ℕ → List PostAt → Type 0
AreNumbered number [] = Unit {0}
AreNumbered number (post ∷ posts) = (post.sent.sender ≡ number) × AreNumbered (number + 1) posts

-- of each of these posts, what was taken and then what waits at it is all that was put out at it,
-- in its order
abbrev pub AreAllPut : List Parcel → List PostAt → Type 0
AreAllPut taken posts = (i : ℕ) (d : PostAt) → i < length posts
    → pieces_of i (taken ++ rests 0 posts) ≡ put_at (slice_index_or posts i d)
