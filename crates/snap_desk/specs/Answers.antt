-- What a worker's commands come to, wherever it goes.
use Rattle.std.specs.Prelude.{◌+◌, ◌++◌, ℕ, List, [], ◌∷◌}
use Rattle.snap_model.specs.declared.command.Command.{Command}
use Rattle.snap_model.specs.declared.command.Command.TheVariants as command
use Rattle.snap_model.specs.declared.command.Reply.{Reply}
use Rattle.snap_model.specs.declared.command.Reply.TheVariants as reply
use Rattle.snap_text.specs.Replies.{reply_text}
use Rattle.snap_write.specs.Outputs.{Outputs}

-- the lines of the replies, the exports in their order, and how many replies are full
pub record Answered : Type 0 where
  pub lines : List ℕ
  pub exports : Outputs
  pub full : ℕ

-- one for a reply that tells of a full table
abbrev pub full_of : Reply → ℕ
full_of reply.Full = 1
full_of (reply.FullAfter n) = 1
full_of _ = 0

-- an export's file with its text
abbrev pub exported_file : Command → List ℕ → Outputs
exported_file (command.Export slot lo hi file) text = (file, text) ∷ []
exported_file _ text = []

-- what commands came to, with one more
abbrev pub and_answer : Answered → Command → Reply → List ℕ → Answered
and_answer a c r text = record {
  lines = a.lines ++ reply_text c r;
  exports = a.exports ++ exported_file c text;
  full = a.full + full_of r;
}
