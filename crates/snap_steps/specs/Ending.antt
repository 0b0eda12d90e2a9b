-- What is known of a table when it is closed, by a pass that speaks for every number.
use Rattle.std.specs.Prelude.{◌^◌, ◌≡◌, ℕ, ◌<◌, ◌≤◌, List, [], ◌∷◌, length, true}
use mathlib.Core.Option.{some}
use lib.ListN.{get_elem?}
use Rattle.snap_model.specs.History.{IsLegal, after, calls_of}
use Rattle.snap_steps.specs.Counting.{times, Among}
use Rattle.snap_steps.specs.Numbers.{numbers, all_cuts}
use Rattle.snap_steps.specs.Rule.{Kept}
use Rattle.snap_steps.specs.Rule.Drawn.{AreDrawn}
use Rattle.snap_steps.specs.Rule.History.{AreTheirs}
use Rattle.snap_steps.specs.Rule.Uses.{AreFew}
use Rattle.snap_steps.specs.Rule.Worn.{IsWorn}
use Rattle.snap_steps.specs.Seen.{Known}
use Rattle.snap_steps.specs.States.{state_of}
use Rattle.snap_steps.specs.declared.rule.About.{About}
use Rattle.snap_steps.specs.declared.view.View.{View}

-- a closed table: how many entries its history has, how many pairs its map, how many rows were
-- handed out, and what the pass knew that closed it
pub record Ended : Type 0 where
  pub writes : ℕ
  pub pairs : ℕ
  pub drawn : ℕ
  pub last : Known

-- each number below the number of passes is that of the pass, or was admitted to it
abbrev pub SpeaksForAll : View → Type 0
SpeaksForAll v = (i : ℕ) → i < v.passes → Among i (numbers v)

-- where a pass speaks for every number, each epoch that it noted is one of a cut that it knows
abbrev pub KnowsCuts : View → Type 0
KnowsCuts v = SpeaksForAll v → v.noted.epochs ≤ all_cuts v

-- the pass names each number below the number of passes once, and no other. None of these has more
-- than 2^48 uses
pub record NamesAll (v : View) : Type 0 where
  pub once : (i : ℕ) → i < v.passes → times i (numbers v) ≡ 1
  pub none_later : (i : ℕ) → v.passes ≤ i → times i (numbers v) ≡ 0
  pub uses : v.uses ≤ 2 ^ 48
  pub theirs : AreFew v.admitted

-- the table's last state, which meets the rule
pub record IsLastState (v : View) (drawn : ℕ) : Type 0 where
  pub about : About
  pub rows_are : about.rows ≡ v.rows
  pub passes_are : about.passes ≡ v.passes
  pub words : List ℕ
  pub views : List View
  pub id : ℕ
  pub at : get_elem? views id ≡ some v
  pub kept : Kept about words views
  pub next : drawn ≡ kept.m.next
  pub worn : v.noted.worn ≡ true → IsWorn (state_of kept.m kept.g)

-- the pass has seen the whole history, and knows the entries of every number
pub record KnowsAll (v : View) : Type 0 where
  pub legal : IsLegal v.seen
  pub mine : v.mine ≡ calls_of v.seen v.who
  pub theirs : AreTheirs v.seen v.admitted
  pub others : (i : ℕ) → times i (numbers v) ≡ 0 → calls_of v.seen i ≡ []

-- what is known beside the numbers: the rows that were handed out are those that the pass and the
-- numbers that it admitted drew, each once
pub record Closes (pass : Known) (front : Ended) : Type 0 where
  pub last : front.last ≡ pass
  pub knows : KnowsAll pass.view
  pub names : NamesAll pass.view
  pub writes : front.writes ≡ length pass.view.seen
  pub few : length pass.view.seen < 2 ^ 64
  pub pairs : front.pairs ≡ length (after pass.view.seen)
  pub handed : pass.view.noted.handed ≤ front.drawn
  pub drawn : front.drawn ≤ pass.view.rows
  pub drew : AreDrawn front.drawn (pass.view ∷ [])
  pub epochs : pass.view.noted.epochs ≤ all_cuts pass.view
  pub state : IsLastState pass.view front.drawn
