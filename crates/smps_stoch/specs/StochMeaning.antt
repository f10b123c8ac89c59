-- What the bytes of a stoch file mean beside a core and its periods.
use Rattle.std.specs.Prelude.{◌≡◌, ℕ, List, Result, Ok, Err}
use Rattle.smps_words.specs.declared.core_file.Core.{Core}
use Rattle.smps_words.specs.declared.periods.Periods.{Periods}
use Rattle.stoch_lines.specs.declared.kinds.StochKind.{StochKind}
use Rattle.stoch_lines.specs.declared.kinds.StochFault.{StochFault}
use Rattle.stoch_lines.specs.declared.kinds.StochFault.TheVariants.{At, Memory}
use Rattle.stoch_lines.specs.Before.{Before}
use Rattle.stoch_lines.specs.StochOutcome.{said_meaning}
use Rattle.smps_stoch.specs.declared.stoch.Stoch.{Stoch}
use Rattle.smps_stoch.specs.StochData.{stoch_of}

-- the data of all that was said, or the fault
abbrev pub data_of : Result Before (ℕ × StochKind) → Result Stoch (ℕ × StochKind)
data_of (Ok b) = Ok (stoch_of b)
data_of (Err fault) = Err fault

-- what the bytes of a stoch file mean: its data, or the number and the kind of its first fault
abbrev pub stoch_meaning : Core → Periods → List ℕ → Result Stoch (ℕ × StochKind)
stoch_meaning core periods bytes = data_of (said_meaning core periods bytes)

-- the answer is the meaning, or memory is refused where it is asked for
abbrev pub Gives : Type 0 → Result Stoch StochFault → Result Stoch (ℕ × StochKind) → Type 0
Gives asked (Ok stoch) meaning = meaning ≡ Ok stoch
Gives asked (Err (At line kind)) meaning = meaning ≡ Err (line, kind)
Gives asked (Err Memory) meaning = asked
