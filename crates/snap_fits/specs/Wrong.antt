-- Replies that fit no history of a worker that has the tables for itself.
use Rattle.std.specs.Prelude.{◌≡◌, ◌<◌, ℕ, Bool, true, false, List, [], ◌∷◌}
use Rattle.snap_model.specs.declared.command.Command.{Command}
use Rattle.snap_model.specs.declared.command.Command.TheVariants as command
use Rattle.snap_model.specs.declared.command.Reply.{Reply}
use Rattle.snap_model.specs.declared.command.Reply.TheVariants as reply
use Rattle.snap_fits.specs.Fits.{Setting, Front, WorkerFits}
use Rattle.snap_fits.specs.Alone.{IsAlone}

abbrev pub FitsNothing : List Command → List Reply → Type 0
FitsNothing commands replies = (s : Setting) (w : ℕ) (fronts : ℕ → Front) → IsAlone w fronts
    → ¬ WorkerFits s fronts w commands replies []

-- the new value as the reply of a put
abbrev pub NewValueFitsNothing : Type 0
NewValueFitsNothing =
    FitsNothing (command.Put 7 5 ∷ command.Put 7 6 ∷ []) (reply.New ∷ reply.Old 6 ∷ [])

-- a get of what stood there before the worker's own put
abbrev pub OlderGetFitsNothing : Type 0
OlderGetFitsNothing =
    FitsNothing (command.Put 7 5 ∷ command.Get 7 ∷ []) (reply.New ∷ reply.Absent ∷ [])

-- a clone of the map before the worker's own put
abbrev pub StaleCloneFitsNothing : Type 0
StaleCloneFitsNothing = FitsNothing (command.Put 7 5 ∷ command.Snap 0 [] ∷ command.See 0 7 ∷ [])
    (reply.New ∷ reply.Snapped ∷ reply.Absent ∷ [])

-- the depth of a clone of one pair
abbrev pub asked_for_the_depth : List Command
asked_for_the_depth = command.Put 7 5 ∷ command.Snap 0 [] ∷ command.Depth 0 ∷ []

abbrev pub told_deep : ℕ → ℕ → Bool → List Reply
told_deep depth pairs settled = reply.New ∷ reply.Snapped ∷ reply.Depth depth pairs settled ∷ []

-- depth and pairs exchanged, where the depth could be that of two pairs
abbrev pub OtherPairsFitNothing : Type 0
OtherPairsFitNothing = FitsNothing asked_for_the_depth (told_deep 1 2 true)

-- a tree that is told as settled and is deeper than an AVL tree of two nodes
abbrev pub TooDeepFitsNothing : Type 0
TooDeepFitsNothing = FitsNothing asked_for_the_depth (told_deep 3 1 true)

-- a tree that is told as unsettled in a table with rows left and no stamp at its greatest count
abbrev pub CauselessFitsNothing : Type 0
CauselessFitsNothing = (s : Setting) (w : ℕ) (fronts : ℕ → Front)
    → ((t : ℕ) → (fronts t).drawn < s.rows) → ((t : ℕ) → (fronts t).worn ≡ false)
    → ¬ WorkerFits s fronts w asked_for_the_depth (told_deep 1 1 false) []
