-- how faults are counted, and when a call fails
use Rattle.std.specs.Prelude.{◌≡◌, ℕ, ◌+◌, ◌-◌, ◌^◌, ◌≤◌, min, Bool, true, false, Option, None, Some, IfSome, Result, Ok, Err}
use Rattle.io_edge.specs.declared.faults.LoadFault.{LoadFault}
use Rattle.io_edge.specs.declared.faults.LoadFault.TheVariants as load
use Rattle.io_edge.specs.declared.faults.EdgeFault.{EdgeFault}
use Rattle.io_edge.specs.declared.faults.EdgeFault.TheVariants as edge

-- the number after this one, where it fits in 64 bits, else the greatest that does
abbrev pub next_count : ℕ → ℕ
next_count n = min (n + 1) (2 ^ 64 - 1)

-- the count rose, or it stands at the greatest number of 64 bits
abbrev pub Rises : ℕ → ℕ → Type 0
Rises before after = (before ≤ after) × (next_count before ≤ after)

-- the count rises where a fault is reported, and else stays
abbrev pub Counts : {F : Type 0} → ℕ → ℕ → Option F → Type 0
Counts before after None = after ≡ before
Counts before after (Some fault) = Rises before after

-- the same where what is reported is the count itself
abbrev pub CountsTo : ℕ → ℕ → Option ℕ → Type 0
CountsTo before after reported =
    Counts before after reported × IfSome reported (λ count. count ≡ after)

-- the count rises by one where a fault is reported, and else stays
abbrev pub CountsOne : {F : Type 0} → ℕ → ℕ → Option F → Type 0
CountsOne before after None = after ≡ before
CountsOne before after (Some fault) = after ≡ next_count before

-- a value that isn't there counts as one fault
abbrev pub CountsMissing : {X : Type 0} → ℕ → ℕ → Option X → Type 0
CountsMissing before after (Some value) = after ≡ before
CountsMissing before after None = after ≡ next_count before

-- the fault that a load reports: a failure, and neither a file that is too long nor want of memory
abbrev pub load_fault : {B : Type 0} → Result B LoadFault → Option LoadFault
load_fault (Ok _) = None
load_fault (Err load.Failed) = Some load.Failed
load_fault (Err load.TooLong) = None
load_fault (Err load.Memory) = None

-- the fault that a store or a put reports: a failure, and not want of memory
abbrev pub edge_fault : {U : Type 0} → Result U EdgeFault → Option EdgeFault
edge_fault (Ok _) = None
edge_fault (Err edge.Failed) = Some edge.Failed
edge_fault (Err edge.Memory) = None

-- whether a load was refused memory
abbrev pub load_refused : {B : Type 0} → Result B LoadFault → Bool
load_refused (Ok _) = false
load_refused (Err load.Failed) = false
load_refused (Err load.TooLong) = false
load_refused (Err load.Memory) = true

-- whether a store or a put was refused memory
abbrev pub edge_refused : {U : Type 0} → Result U EdgeFault → Bool
edge_refused (Ok _) = false
edge_refused (Err edge.Failed) = false
edge_refused (Err edge.Memory) = true

-- unless it was refused memory, a call reports a fault exactly where it is to fail
abbrev pub FailsIf : {F : Type 0} → Bool → Bool → Option F → Type 0
FailsIf fails true reported = Unit {0}
FailsIf fails false None = fails ≡ false
FailsIf fails false (Some fault) = fails ≡ true

-- the same of a load
abbrev pub LoadFailsIf : {B : Type 0} → Bool → Result B LoadFault → Type 0
LoadFailsIf fails result = FailsIf fails (load_refused result) (load_fault result)

-- the same of a store or a put
abbrev pub EdgeFailsIf : {U : Type 0} → Bool → Result U EdgeFault → Type 0
EdgeFailsIf fails result = FailsIf fails (edge_refused result) (edge_fault result)
