-- The replies of each command, and how a reply is written.
use Rattle.std.specs.Prelude.{ℕ, Bool, true, false, List, [], ◌∷◌, ◌++◌, codes, decimal}
use Rattle.snap_model.specs.declared.command.Command.{Command}
use Rattle.snap_model.specs.declared.command.Command.TheVariants as command
use Rattle.snap_model.specs.declared.command.Reply.{Reply}
use Rattle.snap_model.specs.declared.command.Reply.TheVariants as reply

-- the replies of each command
abbrev pub IsReplyOf : Command → Reply → Type 0
IsReplyOf (command.Table name) reply.Using = Unit {0}
IsReplyOf (command.Put key value) reply.New = Unit {0}
IsReplyOf (command.Put key value) (reply.Old old) = Unit {0}
IsReplyOf (command.Put key value) reply.Full = Unit {0}
IsReplyOf (command.Remove key) (reply.Old old) = Unit {0}
IsReplyOf (command.Remove key) reply.Absent = Unit {0}
IsReplyOf (command.Remove key) reply.Full = Unit {0}
IsReplyOf (command.Get key) (reply.Value value) = Unit {0}
IsReplyOf (command.Get key) reply.Absent = Unit {0}
IsReplyOf (command.Snap slot name) reply.Snapped = Unit {0}
IsReplyOf (command.Forget slot name) reply.Forgotten = Unit {0}
IsReplyOf (command.See slot key) (reply.Value value) = Unit {0}
IsReplyOf (command.See slot key) reply.Absent = Unit {0}
IsReplyOf (command.First slot) (reply.Pair key value) = Unit {0}
IsReplyOf (command.First slot) reply.Absent = Unit {0}
IsReplyOf (command.Last slot) (reply.Pair key value) = Unit {0}
IsReplyOf (command.Last slot) reply.Absent = Unit {0}
IsReplyOf (command.Floor slot key) (reply.Pair found value) = Unit {0}
IsReplyOf (command.Floor slot key) reply.Absent = Unit {0}
IsReplyOf (command.Lower slot key) (reply.Pair found value) = Unit {0}
IsReplyOf (command.Lower slot key) reply.Absent = Unit {0}
IsReplyOf (command.Ceiling slot key) (reply.Pair found value) = Unit {0}
IsReplyOf (command.Ceiling slot key) reply.Absent = Unit {0}
IsReplyOf (command.Higher slot key) (reply.Pair found value) = Unit {0}
IsReplyOf (command.Higher slot key) reply.Absent = Unit {0}
IsReplyOf (command.Count slot lo hi) (reply.Count n) = Unit {0}
IsReplyOf (command.Depth slot) (reply.Depth depth pairs settled) = Unit {0}
IsReplyOf (command.Export slot lo hi file) (reply.Exported n) = Unit {0}
IsReplyOf (command.Load file) (reply.Loaded n) = Unit {0}
IsReplyOf (command.Load file) (reply.FullAfter n) = Unit {0}
IsReplyOf _ _ = ⊥

-- the name in a command, which its reply repeats
abbrev pub name_in : Command → List ℕ
name_in (command.Table name) = name
name_in (command.Snap slot name) = name
name_in (command.Forget slot name) = name
name_in _ = []

-- the word on a settled clone
abbrev pub settled_word : Bool → List ℕ
settled_word true = codes "settled"
settled_word false = codes "unsettled"

-- the words of a reply
abbrev pub reply_words : Command → Reply → List ℕ
reply_words c reply.New = codes "new"
reply_words c (reply.Old value) = codes "old " ++ decimal value
reply_words c reply.Absent = codes "none"
reply_words c (reply.Value value) = codes "value " ++ decimal value
reply_words c (reply.Pair key value) = codes "pair " ++ decimal key ++ codes " " ++ decimal value
reply_words c (reply.Count n) = codes "count " ++ decimal n
reply_words c (reply.Depth depth pairs settled) =
    codes "depth " ++ decimal depth ++ codes " pairs " ++ decimal pairs ++ codes " "
    ++ settled_word settled
reply_words c (reply.Exported n) = codes "exported " ++ decimal n
reply_words c (reply.Loaded n) = codes "loaded " ++ decimal n
reply_words c reply.Full = codes "full"
reply_words c (reply.FullAfter n) = codes "full after " ++ decimal n
reply_words c reply.Snapped = codes "cloned " ++ name_in c
reply_words c reply.Forgotten = codes "dropped " ++ name_in c
reply_words c reply.Using = codes "using " ++ name_in c

-- the line of a reply, which LF ends
abbrev pub reply_text : Command → Reply → List ℕ
reply_text c r = reply_words c r ++ 10 ∷ []
