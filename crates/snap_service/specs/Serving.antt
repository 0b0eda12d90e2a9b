-- Which commands a session can run, and what each does and replies, by the promises of the tables'
-- calls.
use Rattle.std.specs.Prelude.{◌≡◌, ◌<◌, ◌-◌, ◌^◌, ◌*◌, ◌≤◌, ◌⊎◌, ℕ, Bool, true, false, List, [], ◌∷◌, Option, Some, None, All, length, min, take, slice_get}
use Rattle.snap_fits.specs.Fits.{put_reply, remove_reply, value_reply, pair_reply}
use Rattle.snap_prelude.specs.{after, at, Call, ceiling, Cloned, Command, count, depth}
use Rattle.snap_prelude.specs.{first_pair, floor, higher, image, IsSettledTree, Known, last_pair}
use Rattle.snap_prelude.specs.{least, lower, Pairs, Put, range, Remove, Reply, TakesBack}
use Rattle.snap_model.specs.declared.command.Reply.TheVariants as reply
use Rattle.snap_search.specs.Prelude.{Reads}
use Rattle.snap_table.specs.{Calls.Refuses, Calls.Replies, Clones.Cuts}
use Rattle.snap_text.specs.{Tables.table_text, LoadFiles.HasFile, LoadFiles.Loads, LoadFiles.pairs_of}
use Rattle.snap_text.specs.{Numbers.FitsValue}
use Rattle.snap_view.specs.{Balances.TellsBalance, declared.balance.Settled.Settled}
use Rattle.snap_view.specs.{declared.balance.Settled.TheVariants.Yes}
use Rattle.snap_service.specs.States.{SessionState, HasTable, HasFreeSlot, IsTaken, clone_at, pass_at, pass_in_use, with_pass, with_pass_at, with_slot, with_use}

-- a clone needs a free slot, whatever asks a clone needs a taken one, and a named table or file has
-- to be there
abbrev pub CanRun : SessionState → Loads → Command → Type 0
CanRun s loads (Command.Table name) = HasTable s name
CanRun s loads (Command.Put key value) = FitsValue value
CanRun s loads (Command.Remove key) = Unit {0}
CanRun s loads (Command.Get key) = Unit {0}
CanRun s loads (Command.Snap slot name) = HasFreeSlot s slot
CanRun s loads (Command.Forget slot name) = IsTaken s slot
CanRun s loads (Command.See slot key) = IsTaken s slot
CanRun s loads (Command.First slot) = IsTaken s slot
CanRun s loads (Command.Last slot) = IsTaken s slot
CanRun s loads (Command.Floor slot key) = IsTaken s slot
CanRun s loads (Command.Lower slot key) = IsTaken s slot
CanRun s loads (Command.Ceiling slot key) = IsTaken s slot
CanRun s loads (Command.Higher slot key) = IsTaken s slot
CanRun s loads (Command.Count slot lo hi) = IsTaken s slot
CanRun s loads (Command.Depth slot) = IsTaken s slot
CanRun s loads (Command.Export slot lo hi file) = IsTaken s slot
CanRun s loads (Command.Load file) =
    HasFile loads file × All (λ (pair : ℕ × ℕ). FitsValue pair.1) (pairs_of loads file)

-- a write made its entry, or was refused for want of a row
abbrev pub Wrote : ℕ → Call → (Option ℕ → Reply) → Known → Reply → Known → Type 0
Wrote rows call reply_of old r new =
    ((was : Option ℕ) × (r ≡ reply_of was) × Replies old new call was)
    ⊎ ((r ≡ reply.Full) × Refuses rows old new call)

-- puts of these pairs, in their order
abbrev pub PutAll : Known → Pairs → Known → Type 0
PutAll old [] new = new ≡ old
PutAll old (x ∷ xs) new =
    (mid : Known) × ((was : Option ℕ) × Replies old mid (Put x.0 x.1) was) × PutAll mid xs new

abbrev pub LoadsPairs : ℕ → Pairs → Known → Reply → Known → Type 0
LoadsPairs rows pairs old r new =
    ((r ≡ reply.Loaded (length pairs)) × PutAll old pairs new)
    ⊎ ((n : ℕ) × (x : ℕ × ℕ) × (r ≡ reply.FullAfter n) × (slice_get pairs n ≡ Some x)
    × (mid : Known) × PutAll old (take n pairs) mid × Refuses rows mid new (Put x.0 x.1))

-- the map of a clone
abbrev pub map_in : Option (ℕ × Cloned) → Pairs
map_in None = []
map_in (Some live) = after live.1.base

abbrev pub clone_map : SessionState → ℕ → Pairs
clone_map s slot = map_in (clone_at s slot)

-- whether the tree of a clone is settled
abbrev pub is_yes : Settled → Bool
is_yes Yes = true
is_yes _ = false

-- the reply tells how deep a clone's tree is, how many pairs it has and whether it is settled; a
-- view that answers so has then noted a stamp at its greatest count, where that is why it is not
pub record Measures (old new : Cloned) (r : Reply) : Type 0 where
  pub deep : ℕ
  pub balance : Settled
  pub reply : r ≡ reply.Depth deep (length (after old.base)) (is_yes balance)
  pub deep_is : deep ≡ depth (image old)
  pub low : deep ≤ old.next
  pub many : length (after old.base) < 2 ^ deep
  pub shallow : IsSettledTree (image old) → least deep ≤ 2 * length (after old.base)
  pub tells : TellsBalance old new balance

-- the depth of a clone, and the pass of its table to which the view was given back that answered
abbrev pub Measured : Option (ℕ × Cloned) → SessionState → Reply → SessionState → Type 0
Measured None a r b = ⊥
Measured (Some live) a r b = (asked : Cloned)
    × (pass : Known) × (b ≡ with_pass_at a live.0 pass)
    × Measures live.1 asked r
    × TakesBack (pass_at a.passes live.0) pass asked

-- what a command replies, and the session after it
abbrev pub Serves : Loads → SessionState → Command → Reply → SessionState → Type 0
Serves loads a (Command.Table name) r b = (r ≡ reply.Using) × (b ≡ with_use a name)
Serves loads a (Command.Put key value) r b = (pass : Known)
    × (b ≡ with_pass a pass)
    × Wrote a.tables.rows (Put key value) put_reply (pass_in_use a) r pass
Serves loads a (Command.Remove key) r b = (pass : Known)
    × (b ≡ with_pass a pass)
    × Wrote a.tables.rows (Remove key) remove_reply (pass_in_use a) r pass
Serves loads a (Command.Get key) r b = (pass : Known)
    × (b ≡ with_pass a pass)
    × (answer : Option ℕ) × (r ≡ value_reply answer)
    × Reads (pass_in_use a) pass key answer
Serves loads a (Command.Load file) r b = (pass : Known)
    × (b ≡ with_pass a pass)
    × LoadsPairs a.tables.rows (pairs_of loads file) (pass_in_use a) r pass
Serves loads a (Command.Snap slot name) r b = (r ≡ reply.Snapped)
    × (pass : Known) × (clone : Cloned)
    × (b ≡ with_slot (with_pass a pass) slot (Some (a.in_use, clone)))
    × Cuts (pass_in_use a) pass clone
Serves loads a (Command.Forget slot name) r b = (r ≡ reply.Forgotten) × (b ≡ with_slot a slot None)
Serves loads a (Command.See slot key) r b = (b ≡ a) × (r ≡ value_reply (at (clone_map a slot) key))
Serves loads a (Command.First slot) r b = (b ≡ a) × (r ≡ pair_reply (first_pair (clone_map a slot)))
Serves loads a (Command.Last slot) r b = (b ≡ a) × (r ≡ pair_reply (last_pair (clone_map a slot)))
Serves loads a (Command.Floor slot key) r b =
    (b ≡ a) × (r ≡ pair_reply (floor (clone_map a slot) key))
Serves loads a (Command.Lower slot key) r b =
    (b ≡ a) × (r ≡ pair_reply (lower (clone_map a slot) key))
Serves loads a (Command.Ceiling slot key) r b =
    (b ≡ a) × (r ≡ pair_reply (ceiling (clone_map a slot) key))
Serves loads a (Command.Higher slot key) r b =
    (b ≡ a) × (r ≡ pair_reply (higher (clone_map a slot) key))
Serves loads a (Command.Count slot lo hi) r b =
    (b ≡ a) × (r ≡ reply.Count (min (count (clone_map a slot) lo hi) (2 ^ 64 - 1)))
Serves loads a (Command.Export slot lo hi file) r b =
    (b ≡ a) × (r ≡ reply.Exported (count (clone_map a slot) lo hi))
Serves loads a (Command.Depth slot) r b = Measured (clone_at a slot) a r b

-- the text that a command exports
abbrev pub text_of : SessionState → Command → List ℕ
text_of s (Command.Export slot lo hi file) = table_text (range (clone_map s slot) lo hi)
text_of s _ = []

-- only an export may want memory
abbrev pub MayWantMemory : Command → Type 0
MayWantMemory (Command.Export slot lo hi file) = Unit {0}
MayWantMemory _ = ⊥
