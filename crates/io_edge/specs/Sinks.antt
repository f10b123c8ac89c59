-- what a sink tells of what is written
use Rattle.std.specs.Prelude.{◌≡◌, ℕ, List, ◌++◌, take, Option, Result, Ok, Err, option_map}
use Rattle.io_edge.specs.declared.faults.EdgeFault.{EdgeFault}
use Rattle.io_edge.specs.declared.faults.EdgeFault.TheVariants as edge

-- what is written once a text was appended, where what is written is told
abbrev pub appended : Option (List ℕ) → List ℕ → Option (List ℕ)
appended written text = option_map (λ bytes. bytes ++ text) written

-- a front of the text was appended: its first bytes, maybe none or all
abbrev pub AppendsFront : Option (List ℕ) → Option (List ℕ) → List ℕ → Type 0
AppendsFront old new text = (n : ℕ) × (new ≡ appended old (take n text))

-- what a put leaves: all bytes where it is done, a front of them where it fails, and none where
-- memory is refused
abbrev pub PutLeaves : {U : Type 0} → Option (List ℕ) → Option (List ℕ) → List ℕ
    → Result U EdgeFault → Type 0
PutLeaves old new bytes (Ok _) = new ≡ appended old bytes
PutLeaves old new bytes (Err edge.Failed) = AppendsFront old new bytes
PutLeaves old new bytes (Err edge.Memory) = new ≡ old
