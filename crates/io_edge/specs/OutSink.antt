-- what a sink over a stream keeps
use Rattle.std.specs.Prelude.{ℕ, List, Option, Result}
use Rattle.io_edge.specs.Streams.{PutTakes}
use Rattle.io_edge.specs.declared.faults.EdgeFault.{EdgeFault}
use Rattle.io_edge.specs.declared.out_sink.OutSink.{OutSink}

-- the stream behind the sink
abbrev pub stream_of : {W : Type 0} → OutSink W → W
stream_of sink = sink.out

-- how many puts failed
abbrev pub count_of : {W : Type 0} → OutSink W → ℕ
count_of sink = sink.faults

-- a put hands the bytes to the stream behind the sink
abbrev pub PutGoesOut : {W U : Type 0} → (W → Option (List ℕ)) → OutSink W → OutSink W → List ℕ
    → Result U EdgeFault → Type 0
PutGoesOut contents old new bytes result =
    PutTakes contents (stream_of old) (stream_of new) bytes result
