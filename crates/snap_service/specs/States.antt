-- What contracts see of the tables of a service, of a kit and of a session.
use Rattle.std.specs.Prelude.{◌++◌, ◌≡◌, ◌<◌, ℕ, List, [], ◌∷◌, length, max, Option, None, Some, position, bytes_eq, map, replicate, slice_index_or, slice_set, unwrap_or, IsSome, IsNone}
use Rattle.atomic_table.specs.Seated.{TableId}
use Rattle.snap_prelude.specs.{Cloned, gone, image, IsCloneAt, IsCloneOf, IsOf, Known, Laid, newcomer, Passing}
use Rattle.snap_table.specs.Calls.{IsIdle}
use Rattle.snap_text.specs.Clones.{most_clones}

-- the tables of a service: their names, each table in the same order, their rows, and how many kits
-- there are
pub record Tables : Type 0 where
  pub names : List (List ℕ)
  pub laid : List Laid
  pub rows : ℕ
  pub kits : ℕ

abbrev pub no_table : TableId
no_table = record
    { words = 0; slots = 0; views_name = 0; atom = 0; block = 0; offset = 0; slot_names = [] }

abbrev pub nowhere : Laid
nowhere = record { table = no_table; rows = 0; passes = 0 }

abbrev pub nobody : Known
nobody = record { table = no_table; view = gone }

abbrev pub table_at : Tables → ℕ → Laid
table_at s t = slice_index_or s.laid t nowhere

-- each table has its name, and its size is that of the service
pub record AreTables (s : Tables) : Type 0 where
  pub a_table : 0 < length s.laid
  pub a_name_each : length s.names ≡ length s.laid
  pub rows_are : (t : ℕ) → t < length s.laid → (table_at s t).rows ≡ s.rows
  pub passes_are : (t : ℕ) → t < length s.laid → (table_at s t).passes ≡ s.kits

-- between two commands a pass is idle
pub record IsSeated (rows : Laid) (p : Known) : Type 0 where
  pub of : IsOf p rows
  pub idle : IsIdle p.view
  pub passing : p.view.role ≡ Passing

abbrev pub pass_at : List Known → ℕ → Known
pass_at passes t = slice_index_or passes t nobody

-- a kit of these tables: an idle pass of each, in their order
pub record AreSeated (s : Tables) (passes : List Known) : Type 0 where
  pub a_pass_each : length passes ≡ length s.laid
  pub each : (t : ℕ) → t < length s.laid → IsSeated (table_at s t) (pass_at passes t)

-- a new kit of this number
abbrev pub new_pass : ℕ → Laid → Known
new_pass who rows = record { table = rows.table; view = newcomer rows.rows rows.passes who }

abbrev pub new_kit : List Laid → ℕ → List Known
new_kit laid who = map (new_pass who) laid

-- how many clones of a session may live at once
abbrev pub slots : ℕ
slots = most_clones

-- a session: the tables, its passes, the table in use, and the clone in each slot with the place of
-- its table
pub record SessionState : Type 0 where
  pub tables : Tables
  pub passes : List Known
  pub in_use : ℕ
  pub clones : List (Option (ℕ × Cloned))

-- a clone of one of the tables, with its place, tells the map after a legal history
pub record IsCloneIn (s : Tables) (live : ℕ × Cloned) : Type 0 where
  pub within : live.0 < length s.laid
  pub at : IsCloneAt live.1 (table_at s live.0)
  pub clone : IsCloneOf live.1.base (image live.1)

-- the same of a slot that is taken
abbrev pub FitsSlot : Tables → Option (ℕ × Cloned) → Type 0
FitsSlot s None = Unit {0}
FitsSlot s (Some live) = IsCloneIn s live

pub record IsWellFormed (s : SessionState) : Type 0 where
  pub service : AreTables s.tables
  pub seated : AreSeated s.tables s.passes
  pub a_table_in_use : s.in_use < length s.passes
  pub a_place_each : length s.clones ≡ slots
  pub clones : (slot : ℕ) → FitsSlot s.tables (slice_index_or s.clones slot None)

abbrev pub free_slots : List (Option (ℕ × Cloned))
free_slots = replicate slots None

-- a session begins on the first table, with all slots free
abbrev pub new_session : Tables → List Known → SessionState
new_session tables kit = record { tables = tables; passes = kit; in_use = 0; clones = free_slots }

-- where the table of a name stands
abbrev pub table_place : List (List ℕ) → List ℕ → Option ℕ
table_place names name = position (λ known. bytes_eq known name) names

abbrev pub HasTable : SessionState → List ℕ → Type 0
HasTable s name = IsSome (table_place s.tables.names name)

abbrev pub pass_in_use : SessionState → Known
pass_in_use s = pass_at s.passes s.in_use

-- the clone in a slot, if it is taken
abbrev pub clone_at : SessionState → ℕ → Option (ℕ × Cloned)
clone_at s slot = slice_index_or s.clones slot None

abbrev pub IsTaken : SessionState → ℕ → Type 0
IsTaken s slot = IsSome (clone_at s slot)

abbrev pub HasFreeSlot : SessionState → ℕ → Type 0
HasFreeSlot s slot = (slot < slots) × IsNone (clone_at s slot)

-- the session with another pass on a table, or on the one in use, another table in use, or another
-- clone in a slot
abbrev pub with_pass_at : SessionState → ℕ → Known → SessionState
with_pass_at s t p = record s { passes = slice_set s.passes t p }

abbrev pub with_pass : SessionState → Known → SessionState
with_pass s p = with_pass_at s s.in_use p

abbrev pub with_use : SessionState → List ℕ → SessionState
with_use s name = record s { in_use = unwrap_or (table_place s.tables.names name) s.in_use }

abbrev pub with_slot : SessionState → ℕ → Option (ℕ × Cloned) → SessionState
with_slot s slot clone = record s { clones = slice_set s.clones slot clone }

-- the greatest number of uses of a pass
abbrev pub most_uses : List Known → ℕ
most_uses [] = 0
most_uses (p ∷ ps) = max p.view.uses (most_uses ps)

-- tables of these names, with so many rows each, for so many kits
pub record AreTablesOf (s : Tables) (names : List (List ℕ)) (rows kits : ℕ) : Type 0 where
  pub names_are : s.names ≡ names
  pub rows_are : s.rows ≡ rows
  pub kits_are : s.kits ≡ kits
  pub tables : AreTables s

-- each kit has the pass of its number of each table
pub record AreNewKits (laid : List Laid) (kits : List (List Known)) (count : ℕ) : Type 0 where
  pub many : length kits ≡ count
  pub each : (i : ℕ) (d : List Known) → i < count → slice_index_or kits i d ≡ new_kit laid i

-- each kit got the pass of its number
pub record AreDealt (old : List (List Known)) (passes : List Known)
    (new : List (List Known)) : Type 0 where
  pub many : length new ≡ length old
  pub each : (i : ℕ) (d : List Known) → i < length old
      → slice_index_or new i d ≡ slice_index_or old i d ++ pass_at passes i ∷ []
