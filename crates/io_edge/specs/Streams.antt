-- what goes to a stream and comes from one, where the stream tells its bytes
use Rattle.std.specs.Prelude.{◌≡◌, ℕ, ◌≤◌, ◌<◌, length, take, List, Bool, true, false, Option, Result, Ok, Err, IfSome}
use Rattle.std.specs.Io.KnownBytes.{Appends, Keeps}
use Rattle.io_edge.specs.declared.faults.LoadFault.{LoadFault}
use Rattle.io_edge.specs.declared.faults.LoadFault.TheVariants as load
use Rattle.io_edge.specs.declared.faults.EdgeFault.{EdgeFault}
use Rattle.io_edge.specs.declared.faults.EdgeFault.TheVariants as edge

-- a front of the bytes went to a stream, where the stream tells what it holds
abbrev pub TakesFront : Option (List ℕ) → Option (List ℕ) → List ℕ → Type 0
TakesFront old new bytes = (n : ℕ) × Appends old new (take n bytes)

-- all bytes went to a stream where this is so, and else a front of them
abbrev pub TakesWhole : Bool → Option (List ℕ) → Option (List ℕ) → List ℕ → Type 0
TakesWhole true old new bytes = Appends old new bytes
TakesWhole false old new bytes = TakesFront old new bytes

-- what a reader had left, where it tells, was read whole, or it was longer than the limit
abbrev pub ReadsWithin : {B : Type 0} → (B → List ℕ) → Option (List ℕ) → ℕ → Result B LoadFault
    → Type 0
ReadsWithin bytes_of left limit (Ok read) =
    IfSome left (λ rest. bytes_of read ≡ rest) × (length (bytes_of read) ≤ limit)
ReadsWithin bytes_of left limit (Err load.Failed) = Unit {0}
ReadsWithin bytes_of left limit (Err load.TooLong) = IfSome left (λ rest. limit < length rest)
ReadsWithin bytes_of left limit (Err load.Memory) = Unit {0}

-- what a put hands to a stream, where the stream tells what it holds: all bytes, or a front of them
-- where it fails
abbrev pub PutTakes : {W U : Type 0} → (W → Option (List ℕ)) → W → W → List ℕ → Result U EdgeFault
    → Type 0
PutTakes contents old new bytes (Ok _) = Appends (contents old) (contents new) bytes
PutTakes contents old new bytes (Err edge.Failed) = TakesFront (contents old) (contents new) bytes
PutTakes contents old new bytes (Err edge.Memory) = Keeps (contents old) (contents new)
