-- What the lines of a stoch file come to beside a core and its periods: all that they say, or the
-- first fault.
use Rattle.std.specs.Prelude.{◌≡◌, ℕ, List, [], Option, Result, Ok, Err}
use Rattle.line_core.specs.SplitLines.{lines_of}
use Rattle.line_core.specs.declared.line_list.Line.{Line}
use Rattle.line_core.specs.declared.line_list.LineFault.{LineFault}
use Rattle.line_core.specs.declared.line_list.LineFault.TheVariants as lines
use Rattle.smps_words.specs.Outcomes.{Outcome, answer_of, folded, outcome, seen_by}
use Rattle.smps_words.specs.TextLines.{TextLine, last_number, text_lines, is_end}
use Rattle.smps_words.specs.declared.core_file.Core.{Core}
use Rattle.smps_words.specs.declared.periods.Periods.{Periods}
use Rattle.stoch_lines.specs.declared.kinds.StochKind.{StochKind}
use Rattle.stoch_lines.specs.declared.kinds.StochKind.TheVariants.{NotAscii, LongLine, NoEnd}
use Rattle.stoch_lines.specs.declared.kinds.StochFault.{StochFault}
use Rattle.stoch_lines.specs.declared.kinds.StochFault.TheVariants.{At, Memory}
use Rattle.stoch_lines.specs.declared.state.State.{State}
use Rattle.stoch_lines.specs.Before.{Before, before_of, next, nothing_said}
use Rattle.stoch_lines.specs.Faults.{line_fault}
use Rattle.stoch_lines.specs.Turns.{before_in}

-- the fault of a line by the lines before it
abbrev pub fault_after : Core → Periods → List TextLine → TextLine → Option StochKind
fault_after core periods before line = line_fault core periods (before_of core periods before) line

-- each line judged by the lines before it
abbrev pub stoch_outcome : Core → Periods → List TextLine
    → Outcome TextLine StochKind (List TextLine)
stoch_outcome core periods lines = outcome (fault_after core periods) is_end [] lines

-- what lines say up to the end, as it is
abbrev pub said_whole : Before → Before
said_whole b = b

-- what the lines of a stoch file mean: all that they say, or the number and the kind of the first
-- fault
abbrev pub lines_meaning : Core → Periods → List TextLine → Result Before (ℕ × StochKind)
lines_meaning core periods lines =
    answer_of said_whole (last_number lines) NoEnd
    (seen_by (before_of core periods) (stoch_outcome core periods lines))

-- the same for what the file is read as; no file is read as want of memory
abbrev pub read_meaning : Core → Periods → List ℕ → Result (List Line) LineFault
    → Result Before (ℕ × StochKind)
read_meaning core periods bytes (Ok found) = lines_meaning core periods (text_lines bytes found)
read_meaning core periods bytes (Err (lines.NotAscii line)) = Err (line, NotAscii)
read_meaning core periods bytes (Err (lines.TooLong line)) = Err (line, LongLine)
read_meaning core periods bytes (Err lines.Memory) = Err (0, NoEnd)

-- what the bytes of a stoch file say
abbrev pub said_meaning : Core → Periods → List ℕ → Result Before (ℕ × StochKind)
said_meaning core periods bytes = read_meaning core periods bytes (lines_of bytes)

-- a fault is that of the file, or memory is refused where it is asked for
abbrev pub Fails : Type 0 → StochFault → Result Before (ℕ × StochKind) → Type 0
Fails asked (At line kind) meaning = meaning ≡ Err (line, kind)
Fails asked Memory meaning = asked

-- the answer is the meaning: a state shows all that was said
abbrev pub Gives : Type 0 → Result State StochFault → Result Before (ℕ × StochKind) → Type 0
Gives asked (Ok state) meaning = meaning ≡ Ok (before_in state)
Gives asked (Err fault) meaning = Fails asked fault meaning

-- what lines come to, line by line from a state on
abbrev pub stepped_from : Core → Periods → Before → List TextLine
    → Outcome TextLine StochKind Before
stepped_from core periods b lines =
    folded (line_fault core periods) is_end (next core periods) b lines

abbrev pub stepped : Core → Periods → List TextLine → Outcome TextLine StochKind Before
stepped core periods lines = stepped_from core periods nothing_said lines

-- the answer for lines by what they come to
abbrev pub answer_for : List TextLine → Outcome TextLine StochKind Before
    → Result Before (ℕ × StochKind)
answer_for lines come_to = answer_of said_whole (last_number lines) NoEnd come_to

-- what the lines of a file mean, line by line
abbrev pub stepped_meaning : Core → Periods → List ℕ → List Line → Result Before (ℕ × StochKind)
stepped_meaning core periods bytes found =
    let lines = text_lines bytes found in answer_for lines (stepped core periods lines)
