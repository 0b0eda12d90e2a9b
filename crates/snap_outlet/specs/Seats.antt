-- What the structs keep of their seats.
use Rattle.std.specs.Prelude.{◌≡◌, ℕ}
use Rattle.snap_outlet.specs.declared.view.View.{View}
use Rattle.snap_outlet.specs.declared.view.View.TheVariants.{Sends, Takes}
use Rattle.snap_outlet.specs.Rule.{sent_in, tally_in}

-- it is the seat of a sender; of the sender of this number
abbrev pub IsSenders : View → Type 0
IsSenders v = v ≡ Sends (sent_in v)

abbrev pub IsNumbered : View → ℕ → Type 0
IsNumbered v number = (sent_in v).sender ≡ number

abbrev pub IsTakers : View → Type 0
IsTakers v = v ≡ Takes (tally_in v)
