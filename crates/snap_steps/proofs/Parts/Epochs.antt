-- The epoch that a write has loaded, once it loads it again.
use Rattle.std.proofs.Common.{◌≡◌, ℕ, List, [], arith}
use Rattle.snap_steps.specs.Stages.{with_epoch, in_write}
use Rattle.snap_steps.specs.Rule.Epochs.{AllAre}
use Rattle.snap_steps.specs.declared.view.Stage.TheVariants.{Idle, Writing, Closing}
use Rattle.snap_steps.specs.declared.view.Stage.{Stage}

pub epoch_with : (st : Stage) (e r : ℕ) (l : List ℕ) → r ≡ e → AllAre e l × (in_write st ≡ 0 → l ≡ []) → AllAre e (with_epoch st r l) × (in_write st ≡ 0 → with_epoch st r l ≡ [])
epoch_with Idle e r l is h = h
epoch_with (Writing made counted) e r l is h = ((is, h.0), λ z. absurd (omega (arith, z)))
epoch_with (Closing gate quiet cut) e r l is h = h
