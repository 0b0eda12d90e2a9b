-- The rule that holds between any two steps: a memory and what stands beside it, of which each part
-- is true.
pub mod Words
pub mod Names
pub mod History
pub mod Counts
pub mod Drawn
pub mod Notes
pub mod Gate
pub mod Uses
pub mod Locks
pub mod Changes
pub mod Epochs
pub mod Ways
pub mod Apart
pub mod Worn
pub mod Lasting
pub mod Bases
pub mod Tries
pub mod Marks
pub mod Debts
pub mod Heights
pub mod Places
use Rattle.std.specs.Prelude.{◌≡◌, ℕ, List, length}
use Rattle.snap_rule.specs.Debt.{DebtOk}
use Rattle.snap_rule.specs.Doing.{DoingOk}
use Rattle.snap_rule.specs.Room.{HasRoom}
use Rattle.snap_rule.specs.Rule.{TableOk}
use Rattle.snap_rule.specs.State.{Beside}
use Rattle.snap_rule.specs.State.Change.{plain}
use Rattle.snap_stamp.specs.declared.side.Side.{Side}
use Rattle.snap_steps.specs.Counting.{total}
use Rattle.snap_steps.specs.Memory.{Memory}
use Rattle.snap_steps.specs.States.{state_of}
use Rattle.snap_steps.specs.Rule.Changes.{changing, HoldsIts}
use Rattle.snap_steps.specs.Stages.{in_write}
use Rattle.snap_steps.specs.declared.view.View.{View}
use Rattle.snap_steps.specs.declared.rule.About.{About}
use Rattle.snap_steps.specs.Each.{Each}
use Rattle.snap_steps.specs.Rule.Notes.{KnowsHeader}
use Rattle.snap_steps.specs.Rule.Words.{IsMemory, KnowsAbout}
use Rattle.snap_steps.specs.Rule.Drawn.{AreDrawn}
use Rattle.snap_steps.specs.Rule.Gate.{IsGated}
use Rattle.snap_steps.specs.Rule.Names.{AreNamed, ActsAsPass}
use Rattle.snap_steps.specs.Rule.Uses.{AreUsed}
use Rattle.snap_steps.specs.Rule.History.{IsHistory}
use Rattle.snap_steps.specs.Rule.Locks.{AreLocked, KnowsRows}
use Rattle.snap_steps.specs.Rule.Ways.{AllLinked, IsOnWay}
use Rattle.snap_steps.specs.Rule.Counts.{AreCounted}
use Rattle.snap_steps.specs.Rule.Apart.{AreApart}
use Rattle.snap_steps.specs.Rule.Epochs.{KnowsEpoch}
use Rattle.snap_steps.specs.Rule.Worn.{KnowsWorn}
use Rattle.snap_steps.specs.Rule.Lasting.{AreLasting}
use Rattle.snap_steps.specs.Rule.Bases.{KnowsBase}
use Rattle.snap_steps.specs.Rule.Tries.{KnowsTry}
use Rattle.snap_steps.specs.Rule.Marks.{AreMarked}
use Rattle.snap_steps.specs.Rule.Debts.{debts_of, KnowsDebt}
use Rattle.snap_steps.specs.Rule.Heights.{AreHeights}
use Rattle.snap_steps.specs.Rule.Places.{KnowsPlace}
use Rattle.snap_steps.specs.Numbers.{all_cuts}

pub record Kept (about : About) (words : List ℕ) (views : List View) : Type 0 where
  pub m : Memory
  pub g : Beside
  pub memory : IsMemory about words m
  pub about_known : Each (KnowsAbout about) views
  pub named : AreNamed about.passes views
  pub history : IsHistory g.history views
  pub counted : AreCounted m.done m.left (length g.history) views
  pub drawn : AreDrawn m.next views
  pub acting : Each ActsAsPass views
  pub notes : Each (KnowsHeader m.next m.epoch) views
  pub gated : IsGated m.gate m.left views
  pub used : AreUsed m.gate m.epoch views
  pub cut : m.epoch ≡ total all_cuts views
  pub locked : AreLocked m.rows views
  pub known : Each (KnowsRows m.rows) views
  -- the tree, the links, sharing, changes in progress
  pub table : TableOk (state_of m g)
  pub writers : g.writers ≡ total (λ v. in_write v.stage) views
  -- a link is in a change only where a pass is in one that names it, and that pass holds the rows
  pub changes : (n : ℕ) (d : Side) → total (λ v. changing n d v.doing) views ≡ 0
      → g.pending n d ≡ plain
  pub doing : Each (λ v. DoingOk (state_of m g) v.doing) views
  pub held : Each HoldsIts views
  pub present : Each (KnowsEpoch m.epoch) views
  pub reached : Each (λ v. AllLinked g.linked v.trail.reached) views
  pub ways : Each (IsOnWay (state_of m g)) views
  pub places : Each (KnowsPlace (state_of m g)) views
  pub apart : AreApart m.next m.rows g.linked views
  pub worn : Each (KnowsWorn (state_of m g)) views
  pub lasting : Each (λ v. AreLasting (state_of m g) v.words.lasting) views
  pub based : Each (KnowsBase (state_of m g)) views
  pub tries : Each (KnowsTry (state_of m g)) views
  pub marked : AreMarked m.rows views
  pub heights : Each (λ v. AreHeights (state_of m g) v.holds v.heights) views
  pub debts : Each (KnowsDebt (state_of m g)) views
  pub owing : HasRoom (state_of m g) m.next about.rows → DebtOk (state_of m g) (debts_of views)
