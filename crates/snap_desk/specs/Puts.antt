-- What a worker has put out: the text of its replies in pieces for its reply file, and each export
-- as one piece for its own.
use Rattle.std.specs.Prelude.{◌≡◌, ◌<◌, ◌++◌, ℕ, false, List, [], ◌∷◌, Option, Some, None, ⊤, bytes_eq, if◌then◌else◌, length, map}
use Rattle.snap_io.specs.Causes.{raised}
use Rattle.snap_outlet.specs.Posts.{put_at}
use Rattle.snap_outlet.specs.declared.piece.Piece.{Piece}
use Rattle.snap_write.specs.Outputs.{IsNamed, Outputs, names_of}
use Rattle.snap_desk.specs.Answers.{Answered}
use Rattle.snap_desk.specs.declared.desk.Desk.{Desk}

-- the text of the pieces for the file of this name
abbrev pub text_in : List ℕ → List Piece → List ℕ
text_in name [] = []
text_in name (p ∷ ps) = (if bytes_eq p.file name then p.bytes else []) ++ text_in name ps

-- the other pieces, each with its file
abbrev pub files_beside : List ℕ → List Piece → Outputs
files_beside name [] = []
files_beside name (p ∷ ps) =
    (if bytes_eq p.file name then [] else (p.file, p.bytes) ∷ []) ++ files_beside name ps

-- what the commands of a worker came to is what it has put out, and the lines that it has not put
-- out yet; without a reply file it puts nothing out
abbrev pub IsPutOut : Option (List ℕ) → Answered → List Piece → List ℕ → Type 0
IsPutOut None a put lines = put ≡ []
IsPutOut (Some name) a put lines =
    (a.lines ≡ text_in name put ++ lines) × (a.exports ≡ files_beside name put)

-- the same of a desk, which counts the full replies
pub record HoldsAnswered (d : Desk) (a : Answered) : Type 0 where
  pub put : IsPutOut d.reply a (put_at d.post) d.lines.items
  pub full : d.full ≡ a.full

-- all that the commands came to was put out
pub record IsEnded (d : Desk) (a : Answered) : Type 0 where
  pub put : IsPutOut d.reply a (put_at d.post) []
  pub full : d.full ≡ a.full

-- each of these files is one of the names
abbrev pub AreAllNamed : List (List ℕ) → List (List ℕ) → Type 0
AreAllNamed names [] = ⊤
AreAllNamed names (file ∷ files) = IsNamed names file × AreAllNamed names files

-- each of these pieces, or outputs, is for a file of these names
abbrev pub AreFor : List (List ℕ) → List Piece → Type 0
AreFor names pieces = AreAllNamed names (map (λ p. p.file) pieces)

abbrev pub AreIn : List (List ℕ) → Outputs → Type 0
AreIn names outputs = AreAllNamed names (names_of outputs)

-- a name is one of these, if it is there
abbrev pub IsNamedIf : List (List ℕ) → Option (List ℕ) → Type 0
IsNamedIf names None = ⊤
IsNamedIf names (Some name) = IsNamed names name

-- none of these outputs has this name, if it is there
abbrev pub AreBeside : List ℕ → Outputs → Type 0
AreBeside name [] = ⊤
AreBeside name (output ∷ outputs) =
    (bytes_eq output.0 name ≡ false) × AreBeside name outputs

abbrev pub AreOthers : Option (List ℕ) → Outputs → Type 0
AreOthers None outputs = ⊤
AreOthers (Some name) outputs = AreBeside name outputs

-- the desk of the same worker
pub record IsSame (d e : Desk) : Type 0 where
  pub reply : e.reply ≡ d.reply
  pub who : e.who ≡ d.who
  pub outlet : e.post.outlet ≡ d.post.outlet
  pub sender : e.post.sent.sender ≡ d.post.sent.sender

-- one piece more was put out: this text for this file
pub record PutsOne (d e : Desk) (file text : List ℕ) : Type 0 where
  pub piece : Piece
  pub file_is : piece.file ≡ file
  pub text_is : piece.bytes ≡ text
  pub put : put_at e.post ≡ put_at d.post ++ piece ∷ []

-- these lines and files came behind what was put out and kept
pub record PutsBehind (d e : Desk) (lines : List ℕ) (files : Outputs) : Type 0 where
  pub full : e.full ≡ d.full
  pub put : (a : Answered) → IsPutOut d.reply a (put_at d.post) d.lines.items
      → IsPutOut e.reply
      (record { lines = a.lines ++ lines; exports = a.exports ++ files; full = a.full })
      (put_at e.post) e.lines.items

-- lines that stay short are kept behind those that are, and not put out yet
abbrev pub KeepsShort : Desk → Desk → List ℕ → ℕ → Type 0
KeepsShort d e lines most =
    length (d.lines.items ++ lines) < most → e.lines.items ≡ d.lines.items ++ lines

-- the pieces of one worker, counted on from n, up to m
abbrev pub AreCountedFrom : ℕ → ℕ → List Piece → ℕ → Type 0
AreCountedFrom who n [] m = m ≡ n
AreCountedFrom who n (p ∷ ps) m =
    (p.worker ≡ who) × (p.number ≡ raised n) × AreCountedFrom who (raised n) ps m

-- the pieces that a desk put out have its worker's number, and are counted from 1
abbrev pub IsCounted : Desk → Type 0
IsCounted d = AreCountedFrom d.who 0 (put_at d.post) d.pieces

-- the desk of the same worker, from which pieces may have gone out: they are counted on, and are
-- for its reply file or for the files of these outputs
pub record GoesOnPutting (d e : Desk) (outputs : Outputs) : Type 0 where
  pub same : IsSame d e
  pub counted : IsCounted d → IsCounted e
  pub pieces : (names : List (List ℕ)) → IsNamedIf names d.reply → AreIn names outputs
      → AreFor names (put_at d.post) → AreFor names (put_at e.post)
