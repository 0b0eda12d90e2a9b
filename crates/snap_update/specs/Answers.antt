-- What a write answers: its entry, or that no row was left.
pub use Rattle.snap_copy.specs.Mending.{LinksWhatItDraws}
use Rattle.std.specs.Prelude.{◌≡◌, ◌⊎◌, ◌==◌, cond, nat_lt, length, ℕ, ◌+◌, ◌<◌, ◌≤◌, ◌^◌, List, [], ◌∷◌, ◌++◌, Option, None, true, false}
use Rattle.snap_prelude.specs.{AllAre, Among, Call, call_key, Done, Enters, Entry, entry_of, Epoch}
use Rattle.snap_prelude.specs.{Gate, In, KeepsPresent, KeepsReached, Known, Next, NotesMore, Put}
use Rattle.snap_prelude.specs.{Remove, SeesMore, times, total, Trouble, View, WordNote, Writing}
use Rattle.snap_model.specs.History.{told}
use Rattle.snap_steps.specs.declared.view.WordNote.TheVariants.{Left, Birth}
use Rattle.snap_prelude.specs.{any_rows}
use Rattle.snap_search.specs.Prelude.{any_work}

-- one more than the value is a word
abbrev pub FitsWord : Call → Type 0
FitsWord (Put k v) = v + 1 < 2 ^ 64
FitsWord (Remove k) = Unit {0}

-- the pass with all that another view has, but that a write leaves: its table and number, its
-- clones and uses, the numbers that it speaks for, its change and its tries, and the rows that a
-- clone found worn out
abbrev pub written : Known → View → Known
written k w =
    record {
      table = k.table;
      view = record (any_work k.view w) {
        stage = w.stage;
        seen = w.seen;
        mine = w.mine;
        drawn = w.drawn;
        holds = w.holds;
        fresh = any_rows k.view.fresh w.fresh;
        heights = w.heights;
        debt = w.debt;
      };
    }

-- the call is a put of a key that the map after this history lacks
abbrev pub PutsAbsent : Call → List Entry → Type 0
PutsAbsent (Put k v) h = told h k ≡ None
PutsAbsent (Remove k) h = ⊥

-- the pass has gone on with the write of this key without its entry. It drew these rows, each of
-- which it linked and reached, and left these notes. It holds the rows that it held, and owes what
-- it owed
pub record GoesOn (old new : Known) (key : ℕ) (rows : List ℕ) (more : List WordNote) : Type 0 where
  pub is : new ≡ written old new.view
  pub mine : new.view.mine ≡ old.view.mine
  pub stage : new.view.stage ≡ old.view.stage
  pub holds : new.view.holds ≡ old.view.holds
  pub debt : new.view.debt ≡ old.view.debt
  pub sees : SeesMore old.view new.view
  pub noted : NotesMore old.view new.view more
  pub drawn : new.view.drawn ≡ old.view.drawn ++ rows
  pub linked : (r : ℕ) → 0 < times r rows
      → (times r new.view.fresh.own ≡ 0) × Among r new.view.trail.reached
  pub no_more : (r : ℕ) → times r new.view.fresh.own ≤ times r old.view.fresh.own
  pub reached : KeepsReached old.view new.view
  pub present : KeepsPresent old.view new.view
  pub copies : AllAre key old.view.fresh.copies → AllAre key new.view.fresh.copies

-- the pass has made the entry of the call, with this reply, at the end of the whole history
pub record Made (old new : Known) (call : Call) (reply : Option ℕ) : Type 0 where
  pub is : new ≡ written old new.view
  pub log : List Entry
  pub enters : Enters old.view log (entry_of old.view.who call reply)
  pub seen : new.view.seen ≡ log ++ entry_of old.view.who call reply ∷ []
  pub mine : new.view.mine ≡ old.view.mine ++ entry_of old.view.who call reply ∷ []
  pub stage : new.view.stage ≡ Writing true false
  pub more : List WordNote
  pub noted : NotesMore old.view new.view more
  pub links : LinksWhatItDraws old.view new.view
  pub reached : KeepsReached old.view new.view

-- and it holds no more rows than before
pub record Writes (old new : Known) (call : Call) (reply : Option ℕ) : Type 0 where
  pub made : Made old new call reply
  pub holds : new.view.holds ≡ old.view.holds

-- a put whose key is absent from the map after what the pass has now seen, and this call found that
-- every row was handed out. It made no entry, and drew no row
pub record RefusesPut (rows : ℕ) (old new : Known) (call : Call) : Type 0 where
  pub absent : PutsAbsent call new.view.seen
  pub more : List WordNote
  pub goes : GoesOn old new (call_key call) [] more
  pub full : In (Next rows) more

-- how many of these notes are of births on the way of the key that are older than the epoch
abbrev pub is_older : ℕ → ℕ → WordNote → ℕ
is_older key epoch (Birth k b) = cond (k == key) (cond (nat_lt b epoch) 1 0) 0
is_older key epoch (Next n) = 0
is_older key epoch (Gate g) = 0
is_older key epoch (Left a) = 0
is_older key epoch (Done d) = 0
is_older key epoch (Epoch e) = 0
is_older key epoch Trouble = 0

abbrev pub older_births : ℕ → ℕ → List WordNote → ℕ
older_births key epoch l = total (is_older key epoch) l

-- why a write found no row: it is a put of an absent key, or it noted rows of earlier epochs on its
-- way more often than it drew one
abbrev pub NeedsRow : Call → List Entry → ℕ → List ℕ → List WordNote → Type 0
NeedsRow call seen epoch drawn notes =
    PutsAbsent call seen ⊎ (length drawn < older_births (call_key call) epoch notes)

-- no row was left: this call found that every row was handed out, and noted the epoch. It made no
-- entry, holds no more rows than before, and owes no more
pub record RefusedFull (rows : ℕ) (old new : Known) (call : Call) : Type 0 where
  pub drawn : List ℕ
  pub more : List WordNote
  pub goes : GoesOn old new (call_key call) drawn more
  pub full : In (Next rows) more
  pub epoch : ℕ
  pub epoch_noted : In (Epoch epoch) more
  pub cause : NeedsRow call new.view.seen epoch drawn more
