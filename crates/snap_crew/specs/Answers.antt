-- What a worker's commands come to: the text of their replies, the files of their exports, and how
-- many replies are full.
use Rattle.std.specs.Prelude.{◌≡◌, ◌+◌, ◌++◌, ℕ, List, [], ◌∷◌, map}
use Rattle.snap_fits.specs.Fits.{Setting, Front, Told, exports_of, start}
use Rattle.snap_prelude.specs.{Command, Pairs, Reply}
use Rattle.snap_text.specs.{Replies.reply_text, Tables.table_text}
use Rattle.snap_write.specs.Outputs.{Outputs}
use Rattle.snap_desk.specs.Answers.{Answered, full_of}

-- the files of exported pairs
abbrev pub table_files : List (List ℕ × Pairs) → Outputs
table_files exports = map (λ (e : List ℕ × Pairs). (e.0, table_text e.1)) exports

-- the reply lines of commands, in their order, and how many of the replies are full
abbrev pub lines_with : List Command → List Reply → List ℕ
lines_with (c ∷ cs) (r ∷ rs) = reply_text c r ++ lines_with cs rs
lines_with _ _ = []

abbrev pub fulls_with : List Reply → ℕ
fulls_with [] = 0
fulls_with (r ∷ rs) = full_of r + fulls_with rs

-- the answers are of these commands, replies and exports
pub record AreOf (commands : List Command) (replies : List Reply) (exports : List (List ℕ × Pairs))
    (answers : Answered) : Type 0 where
  pub lines : answers.lines ≡ lines_with commands replies
  pub files : answers.exports ≡ table_files exports
  pub full : answers.full ≡ fulls_with replies

-- the same by what a worker's commands were told
abbrev pub lines_of : List Told → List ℕ
lines_of [] = []
lines_of (t ∷ ts) = reply_text t.command t.reply ++ lines_of ts

abbrev pub fulls_of : List Told → ℕ
fulls_of [] = 0
fulls_of (t ∷ ts) = full_of t.reply + fulls_of ts

abbrev pub files_of : Setting → (ℕ → Front) → List Told → Outputs
files_of s fronts told = table_files (exports_of s fronts start told)

pub record AreTold (s : Setting) (fronts : ℕ → Front) (told : List Told)
    (answers : Answered) : Type 0 where
  pub lines : answers.lines ≡ lines_of told
  pub files : answers.exports ≡ files_of s fronts told
  pub full : answers.full ≡ fulls_of told
