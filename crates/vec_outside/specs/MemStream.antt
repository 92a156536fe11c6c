-- What is seen of a source and a sink in memory.
use Rattle.std.specs.Prelude.{ℕ, List, drop}
use Rattle.vec_outside.specs.declared.mem_streams.MemSource.{MemSource}
use Rattle.vec_outside.specs.declared.mem_streams.MemSink.{MemSink}
use Rattle.vec_outside.specs.declared.plan.Plan.{Plan}

-- the bytes that are left to read
abbrev pub source_left : MemSource → List ℕ
source_left source = drop source.at source.bytes.items

-- the calls that are to fail, and the counts
abbrev pub source_plan : MemSource → Plan
source_plan source = source.plan

-- the bytes that were taken
abbrev pub sink_held : MemSink → List ℕ
sink_held sink = sink.bytes.items

-- the calls that are to fail, and the counts
abbrev pub sink_plan : MemSink → Plan
sink_plan sink = sink.plan
