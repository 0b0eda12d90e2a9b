-- A run of one worker beside another, on one table.
use Rattle.std.specs.Prelude.{ℕ, zero, suc, true, false, List, [], ◌∷◌, Some, None}
use Rattle.snap_model.specs.declared.call.Call.TheVariants.{Put, Remove}
use Rattle.snap_model.specs.declared.command.Command.{Command}
use Rattle.snap_model.specs.declared.command.Command.TheVariants as command
use Rattle.snap_model.specs.declared.command.Reply.{Reply}
use Rattle.snap_model.specs.declared.command.Reply.TheVariants as reply
use Rattle.snap_fits.specs.Fits.{Setting, Front, Told, Fits, made_by}

abbrev pub small : Setting
small = record { rows = 4; workers = 2; table = λ name. 0; pairs = λ file. [] }

-- worker 1 puts 9 at 7; worker 0 replaces it, clones, removes what isn't there, and asks the clone
abbrev pub cuts : ℕ → List ℕ
cuts zero = 2 ∷ []
cuts (suc w) = []

abbrev pub fronts : ℕ → Front
fronts zero = record {
  history = made_by 1 (Put 7 9) None ∷ made_by 0 (Put 7 5) (Some 9) ∷ made_by 0 (Remove 3) None
      ∷ [];
  drawn = 2;
  cuts = cuts;
  worn = false;
}
fronts (suc t) = record { history = []; drawn = 0; cuts = λ w. []; worn = false }

abbrev pub told_at : Command → Reply → ℕ → Told
told_at c r m = record { command = c; reply = r; moment = m }

abbrev pub example_told : List Told
example_told = told_at (command.Put 7 5) (reply.Old 9) 2 ∷ told_at (command.Get 7) (reply.Value 5) 2
    ∷ told_at (command.Snap 0 []) reply.Snapped 2 ∷ told_at (command.Remove 3) reply.Absent 3
    ∷ told_at (command.See 0 7) (reply.Value 5) 2
    ∷ told_at (command.Depth 0) (reply.Depth 1 1 true) 2 ∷ []

abbrev pub ExampleFits : Type 0
ExampleFits = Fits small 0 fronts example_told
