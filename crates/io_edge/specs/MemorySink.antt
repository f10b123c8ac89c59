-- what a sink in memory keeps
use Rattle.std.specs.Prelude.{ℕ, List, Option, Some}
use Rattle.io_edge.specs.declared.calls.Calls.{Calls}
use Rattle.io_edge.specs.declared.memory_sink.MemorySink.{MemorySink}

-- all that is written
abbrev pub written_of : MemorySink → List ℕ
written_of sink = sink.bytes.items

-- its calls, which are its puts
abbrev pub calls_of : MemorySink → Calls
calls_of sink = sink.calls

-- how many of them failed
abbrev pub count_of : MemorySink → ℕ
count_of sink = sink.calls.failed

-- it tells what is written
abbrev pub told : MemorySink → Option (List ℕ)
told sink = Some (written_of sink)
