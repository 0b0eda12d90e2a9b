-- What contracts see of a sink in memory.
use Rattle.std.specs.Prelude.{ℕ, List}
use Rattle.snap_io.specs.Plan.{Planned}
use Rattle.snap_io.specs.declared.mem_sink.MemSink.{MemSink}

-- the bytes written so far
abbrev pub bytes_of : MemSink → List ℕ
bytes_of sink = sink.held.items

-- how often a put has failed
abbrev pub put_faults_of : MemSink → ℕ
put_faults_of sink = sink.count

-- the puts made, and those that fail
abbrev pub plan_of : MemSink → Planned
plan_of sink = sink.plan
