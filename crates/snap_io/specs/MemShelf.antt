-- What contracts see of a shelf in memory.
use Rattle.std.specs.Prelude.{ℕ, Vec, String}
use Rattle.std.specs.BTreeMap.{BTreeMap, get_by_text}
use Rattle.std.specs.Global.{Global}
use Rattle.std.specs.Option.{option_map}
use Rattle.snap_io.specs.Plan.{no_plan, with_number}
use Rattle.snap_io.specs.Shelves.{Files}
use Rattle.snap_io.specs.declared.mem_shelf.MemShelf.{MemShelf}
use Rattle.snap_io.specs.declared.mem_shelf.Plans.{Plans}
use Rattle.snap_io.specs.declared.mem_shelf.ShelfOp.{ShelfOp}
use Rattle.snap_io.specs.declared.mem_shelf.ShelfOp.TheVariants.{Size, Read, Create, Append}

-- the files that a map from texts to bytes stores
abbrev pub stored_files : BTreeMap (String Global) (Vec ℕ Global) → Files
stored_files held name = option_map (λ bytes. bytes.items) (get_by_text held name)

-- the files
abbrev pub held_files : MemShelf → Files
held_files shelf = stored_files shelf.held

-- the calls of each kind, and those that fail
abbrev pub plans_of : MemShelf → Plans
plans_of shelf = shelf.plans

-- how often a size or a read has failed
abbrev pub read_faults_of : MemShelf → ℕ
read_faults_of shelf = shelf.reading

-- how often a create or an append has failed
abbrev pub write_faults_of : MemShelf → ℕ
write_faults_of shelf = shelf.writing

-- both counts
abbrev pub faults_of : MemShelf → ℕ × ℕ
faults_of shelf = (read_faults_of shelf, write_faults_of shelf)

-- no call was made, and none is to fail
abbrev pub no_failures : Plans
no_failures = record { sizes = no_plan; reads = no_plan; creates = no_plan; appends = no_plan }

-- the n-th call of a kind is to fail
abbrev pub with_failure : ShelfOp → ℕ → Plans → Plans
with_failure Size n plans = record plans { sizes = with_number n plans.sizes }
with_failure Read n plans = record plans { reads = with_number n plans.reads }
with_failure Create n plans = record plans { creates = with_number n plans.creates }
with_failure Append n plans = record plans { appends = with_number n plans.appends }
