-- What a core file says, or its first fault.
use Rattle.std.specs.Prelude.{◌≡◌, ℕ, List, [], Option, Result, Ok, Err}
use Rattle.line_core.specs.SplitLines.{lines_of}
use Rattle.line_core.specs.declared.line_list.Line.{Line}
use Rattle.line_core.specs.declared.line_list.LineFault.{LineFault}
use Rattle.line_core.specs.declared.line_list.LineFault.TheVariants.{NotAscii, TooLong, Memory}
use Rattle.smps_words.specs.Outcomes.{Outcome, outcome, folded, answer_of}
use Rattle.smps_words.specs.TextLines.{TextLine, text_lines, last_number}
use Rattle.core_lines.specs.Lines.{before_of, line_fault, is_end_header, next}
use Rattle.core_lines.specs.Parts.{Before}
use Rattle.core_lines.specs.States.{before_in}
use Rattle.core_lines.specs.declared.kinds.CoreFault.{CoreFault}
use Rattle.core_lines.specs.declared.kinds.CoreFault.TheVariants as faults
use Rattle.core_lines.specs.declared.kinds.CoreKind.{CoreKind}
use Rattle.core_lines.specs.declared.kinds.CoreKind.TheVariants as kinds
use Rattle.core_lines.specs.declared.state.State.{State}

-- the fault of a line behind other lines
abbrev pub fault_behind : List TextLine → TextLine → Option CoreKind
fault_behind before line = line_fault (before_of before) line

-- the first line with a fault, or all lines up to ENDATA, or neither
abbrev pub outcome_of : List TextLine → Outcome TextLine CoreKind (List TextLine)
outcome_of lines = outcome fault_behind is_end_header [] lines

-- what the lines up to ENDATA say, or the number and the kind of the first fault
abbrev pub said_by : List TextLine → Result Before (ℕ × CoreKind)
said_by lines = answer_of before_of (last_number lines) kinds.NoEnd (outcome_of lines)

-- the same by a state that goes from line to line, which is how the reader works
abbrev pub said_by_steps : List TextLine → Result Before (ℕ × CoreKind)
said_by_steps lines = answer_of (λ b. b) (last_number lines) kinds.NoEnd
    (folded line_fault is_end_header next (before_of []) lines)

-- the same of the lines of a file, of which a fault comes first
abbrev pub said_by_read : List ℕ → Result (List Line) LineFault → Result Before (ℕ × CoreKind)
said_by_read bytes (Ok lines) = said_by (text_lines bytes lines)
said_by_read bytes (Err (NotAscii line)) = Err (line, kinds.NotAscii)
said_by_read bytes (Err (TooLong line)) = Err (line, kinds.LongLine)
said_by_read bytes (Err Memory) = Err (0, kinds.NoEnd)

-- what a core file says, or the number and the kind of its first fault
abbrev pub meaning : List ℕ → Result Before (ℕ × CoreKind)
meaning bytes = said_by_read bytes (lines_of bytes)

-- a fault is the first one, or memory is refused where it is asked for
abbrev pub Fails : {X : Type 0} → Type 0 → CoreFault → Result X (ℕ × CoreKind) → Type 0
Fails asked faults.Memory read = asked
Fails asked (faults.At line kind) read = read ≡ Err (line, kind)

-- the reader's state is what the file says, or its fault is the file's
abbrev pub Gives : Type 0 → Result State CoreFault → Result Before (ℕ × CoreKind) → Type 0
Gives asked (Ok state) read = read ≡ Ok (before_in state)
Gives asked (Err fault) read = Fails asked fault read
