-- the calls of a shelf or a sink in memory, and which of them are to fail
use Rattle.std.specs.Prelude.{ℕ, Bool, true, false, List, Option, None, Some, Result, Vec, nat_eq}
use Rattle.std.specs.List.{list_any}
use Rattle.std.specs.declared.alloc.Global.{Global}
use Rattle.io_edge.specs.Faults.{edge_fault, edge_refused, load_fault, load_refused, next_count}
use Rattle.io_edge.specs.declared.calls.Calls.{Calls}
use Rattle.io_edge.specs.declared.faults.EdgeFault.{EdgeFault}
use Rattle.io_edge.specs.declared.faults.LoadFault.{LoadFault}

-- no calls, and the numbers of those that are to fail
abbrev pub no_calls : Vec ℕ Global → Calls
no_calls failing = record { made = 0; failing = failing; failed = 0 }

-- the numbers of the calls that are to fail, counted from 1
abbrev pub failing_of : Calls → List ℕ
failing_of calls = calls.failing.items

-- whether the next call is to fail
abbrev pub fails_next : Calls → Bool
fails_next calls = list_any (λ k. nat_eq k (next_count calls.made)) (failing_of calls)

-- one call more, which was done
abbrev pub with_done : Calls → Calls
with_done calls = record calls { made = next_count calls.made }

-- one call more, which failed
abbrev pub with_failed : Calls → Calls
with_failed calls = record calls { made = next_count calls.made; failed = next_count calls.failed }

-- the calls after one more, by the fault that it reports; one that is refused memory is no call
abbrev pub after_call : {F : Type 0} → Bool → Option F → Calls → Calls
after_call true reported calls = calls
after_call false None calls = with_done calls
after_call false (Some fault) calls = with_failed calls

-- the calls after a load
abbrev pub after_load : {B : Type 0} → Result B LoadFault → Calls → Calls
after_load result calls = after_call (load_refused result) (load_fault result) calls

-- the calls after a store or a put
abbrev pub after_edge : {U : Type 0} → Result U EdgeFault → Calls → Calls
after_edge result calls = after_call (edge_refused result) (edge_fault result) calls
