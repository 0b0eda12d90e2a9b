-- What repairs leave of a pass: its entries, its turn and its numbers stay, and each row that it
-- drew is linked.
use Rattle.std.specs.Prelude.{◌≡◌, ◌≤◌, ◌<◌, ℕ, List, ◌++◌, Bool, true, false}
use Rattle.snap_prelude.specs.{Among, Field, Grows, In, IsBelow, IsKnown, KeepsLasting, KeepsPresent, KeepsReached}
use Rattle.snap_prelude.specs.{Known, Next, NotesMore, same_copies, Side, times, View, WordNote}
use Rattle.snap_search.specs.Prelude.{any_work}

-- the pass with what another view has of repairs. What it has seen stays, since it ends with the
-- entry of its write, and so does the key of its copies
abbrev pub mended : Known → View → Known
mended k w =
    record {
      table = k.table;
      view = record (any_work k.view w) {
        fresh = same_copies k.view.fresh w.fresh;
        drawn = w.drawn;
        holds = w.holds;
        heights = w.heights;
        doing = w.doing;
        debt = w.debt;
      };
    }

-- each row that was drawn since is linked and reached, and no row is left unlinked that was not
-- before
pub record LinksWhatItDraws (v w : View) : Type 0 where
  pub rows : List ℕ
  pub drawn : w.drawn ≡ v.drawn ++ rows
  pub linked : (r : ℕ) → 0 < times r rows → (times r w.fresh.own ≡ 0) × Among r w.trail.reached
  pub no_more : (r : ℕ) → times r w.fresh.own ≤ times r v.fresh.own

-- whether one of these notes tells that all rows were handed out
abbrev pub TellsFull : Bool → ℕ → List WordNote → Type 0
TellsFull true rows l = In (Next rows) l
TellsFull false rows l = In (Next rows) l → ⊥

-- the pass has gone on with its repairs: it has made no entry, is in the change that it was in, and
-- has forgotten no word for which it was refused a row. `full`: whether a load found that every row
-- was handed out
pub record MendsTo (full : Bool) (old new : Known) : Type 0 where
  pub is : new ≡ mended old new.view
  pub whole : new.view.doing ≡ old.view.doing
  pub links : LinksWhatItDraws old.view new.view
  pub more : List WordNote
  pub noted : NotesMore old.view new.view more
  pub found : TellsFull full old.view.rows more
  pub reached : KeepsReached old.view new.view
  pub present : KeepsPresent old.view new.view
  pub lasting : KeepsLasting old.view new.view
  pub refused : Grows old.view.words.refused new.view.words.refused

-- and each draw found a row left
abbrev pub Mends : Known → Known → Type 0
Mends old new = MendsTo false old new

-- and what it knew of held rows it still knows, but of some words
pub record Firm (old new : Known) (changed : ℕ → Field → Type 0) : Type 0 where
  pub mends : Mends old new
  pub held : (r : ℕ) → Among r old.view.holds → Among r new.view.holds
  pub knows : (q : ℕ) (f : Field) (x : ℕ) → (changed q f → ⊥) → IsKnown old.view.words.knows q f x
      → IsKnown new.view.words.knows q f x
  pub heights : (q : ℕ) (d : Side) (h : ℕ) → IsBelow old.view.heights q d h
      → IsBelow new.view.heights q d h
  pub place : new.view.way.place ≡ old.view.way.place
  pub debt : new.view.debt ≡ old.view.debt

abbrev pub NoWord : ℕ → Field → Type 0
NoWord q f = ⊥

-- work under locks: no word that was known is forgotten
abbrev pub Looks : Known → Known → Type 0
Looks old new = Firm old new NoWord × (new.view.holds ≡ old.view.holds)
