-- Fields that are read as numbers.
use Rattle.std.specs.Prelude.{ℕ, List, Option, Some, None, Result, Ok, Err, option_map}
use Rattle.std.specs.Result.{result_unwrap_or}
use Rattle.dec_core.specs.DecimalValue.{decimal_of}
use Rattle.dec_core.specs.declared.decimal.Decimal.{Decimal}
use Rattle.dec_core.specs.declared.decimal.DecFault.{DecFault}
use Rattle.smps_words.specs.CoreFacts.{zero_decimal}

-- the fault of what a text is read as
abbrev pub fault_in : Result Decimal DecFault → Option DecFault
fault_in (Ok value) = None
fault_in (Err fault) = Some fault

-- the fault of a text as a number, as a kind of the file's
abbrev pub number_fault : {K : Type 0} → (DecFault → K) → List ℕ → Option K
number_fault kind text = option_map kind (fault_in (decimal_of text))

-- the number of a text, 0 where it has a fault
abbrev pub number_in : List ℕ → Decimal
number_in text = result_unwrap_or (decimal_of text) zero_decimal
