-- what a sink in memory without a failing call keeps
use Rattle.std.specs.Prelude.{ℕ, List, Option, Some}
use Rattle.io_edge.specs.MemorySink as memory
use Rattle.io_edge.specs.declared.sure_sink.SureSink.{SureSink}

-- all that is written
abbrev pub written_of : SureSink → List ℕ
written_of sink = memory.written_of sink.sink

-- it tells what is written
abbrev pub told : SureSink → Option (List ℕ)
told sink = Some (written_of sink)
