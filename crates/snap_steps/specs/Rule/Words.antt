-- The part of the rule on words: they are a memory of the table's size, which each view knows.
use Rattle.std.specs.Prelude.{◌≡◌, ℕ, ◌+◌, ◌≤◌, List, length}
use Rattle.snap_steps.specs.Memory.{Memory, memory_words}
use Rattle.snap_steps.specs.declared.rule.About.{About}
use Rattle.snap_steps.specs.Roles.{is_live}
use Rattle.snap_steps.specs.declared.view.View.{View}

-- the words
pub record IsMemory (about : About) (words : List ℕ) (m : Memory) : Type 0 where
  pub words_are : words ≡ memory_words m
  pub wide : length m.rows ≡ about.rows + 1
  pub few_rows : about.rows ≤ 1048576
  pub few_passes : about.passes ≤ 64
  pub room : m.next ≤ about.rows

-- each view names the same counts
abbrev pub KnowsAbout : About → View → Type 0
KnowsAbout about v = is_live v.role ≡ 1 → (v.rows ≡ about.rows) × (v.passes ≡ about.passes)
