-- what it means that tightening answers a row
use Rattle.std.specs.Prelude.{ℕ, Result, Ok, Err}
use Rattle.propagate.specs.declared.fault.TrailFault.{TrailFault}
use Rattle.propagate.specs.declared.fault.TrailFault.TheVariants.{Empty, Memory}

-- what holds of the row, where one is answered as empty
abbrev pub OnEmpty : {T : Type 0} → Result T TrailFault → (ℕ → Type 0) → Type 0
OnEmpty (Ok x) p = Unit {0}
OnEmpty (Err (Empty row)) p = p row
OnEmpty (Err Memory) p = Unit {0}
