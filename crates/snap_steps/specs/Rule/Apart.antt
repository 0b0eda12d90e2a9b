-- The part of the rule on rows that aren't linked.
use Rattle.std.specs.Prelude.{◌≡◌, ℕ, ◌<◌, List, ◌≤◌}
use Rattle.snap_steps.specs.Counting.{times, Among}
use Rattle.snap_steps.specs.declared.view.View.{View}
use Rattle.snap_steps.specs.Memory.{Row, row}
use Rattle.snap_steps.specs.Facts.{AreFacts}
use Rattle.snap_steps.specs.Each.{Each}

-- rows of this pass that aren't linked
abbrev pub OwnsUnlinked : List ℕ → View → Type 0
OwnsUnlinked linked v = (r : ℕ) → Among r v.fresh.own → (times r linked ≡ 0) × (Among r v.drawn)

abbrev pub KnowsOwn : List Row → View → Type 0
KnowsOwn rows v = AreFacts rows v.fresh.own v.fresh.wrote

-- rows that were linked, and rows that are still apart from the tree
pub record AreApart (next : ℕ) (rows : List Row) (linked : List ℕ)
    (views : List View) : Type 0 where
  pub low : (r : ℕ) → Among r linked → (0 < r) × (r ≤ next)
  pub own : Each (OwnsUnlinked linked) views
  pub fresh : (r : ℕ) → 0 < r → times r linked ≡ 0
      → ((row rows r).lock ≡ 0) × ((row rows r).stamp ≡ 0)
  pub wrote : Each (KnowsOwn rows) views
