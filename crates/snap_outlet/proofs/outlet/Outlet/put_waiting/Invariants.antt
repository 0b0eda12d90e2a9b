use Rattle.std.proofs.Common.{[], length}
use Rattle.snap_outlet.specs.Posts.{PutsOn}
use Rattle.snap_outlet.proofs.outlet.Outlet.put_waiting.Given as goal

-- what has left stands behind what was sent
abbrev pub invariant-loop-piece : goal.invariant-loop-piece
invariant-loop-piece g l = PutsOn l.fn.post [] (record { outlet = l.post-inside.sender.outlet; sent = l.post-inside.sender.sent; waiting = l.post-inside.waiting.items })

abbrev pub decreases-loop-piece : goal.decreases-loop-piece
decreases-loop-piece g l = length l.post-inside.waiting.items
