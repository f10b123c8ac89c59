-- One step of the reader, against the fault of the line and what the lines have said.
use Rattle.std.specs.Prelude.{◌≡◌, ℕ, Bool, ◌||◌, Option, Some, None, Result, MatchResult}
use Rattle.smps_words.specs.TextLines.{TextLine}
use Rattle.core_lines.specs.Headers.{is_rights, is_ranges, is_bounds}
use Rattle.core_lines.specs.Lines.{is_end_header, line_fault, next}
use Rattle.core_lines.specs.Parts.{HeadersSaid, Before}
use Rattle.core_lines.specs.States.{MayAsk}
use Rattle.core_lines.specs.declared.kinds.CoreFault.{CoreFault}
use Rattle.core_lines.specs.declared.kinds.CoreFault.TheVariants as faults
use Rattle.core_lines.specs.declared.kinds.CoreKind.{CoreKind}
use Rattle.core_lines.specs.declared.kinds.Stop.{Stop}
use Rattle.core_lines.specs.declared.kinds.Stop.TheVariants as stops
use Rattle.core_lines.specs.declared.words.Section.{Section}

-- the headers behind one of this section
abbrev pub with_section : HeadersSaid → Section → HeadersSaid
with_section headers section = record {
  section = section;
  rights = headers.rights || is_rights section;
  ranges = headers.ranges || is_ranges section;
  bounds = headers.bounds || is_bounds section;
}

-- what stopped a line, at its number
abbrev pub fault_at : ℕ → Stop → CoreFault
fault_at number (stops.Fault kind) = faults.At number kind
fault_at number stops.Memory = faults.Memory

-- a fault is that of the line, or want of memory where the line may ask for it
abbrev pub Refuses : Option CoreKind → ℕ → CoreFault → Type 0
Refuses fault number faults.Memory = MayAsk fault
Refuses fault number (faults.At line kind) = (line ≡ number) × (fault ≡ Some kind)

-- a line without a fault is taken up, with whether it ends the file
abbrev pub Steps : Before → TextLine → Result Bool CoreFault → Before → Type 0
Steps b line result after = MatchResult result
    (λ ended. (line_fault b line ≡ None) × (ended ≡ is_end_header line) × (after ≡ next b line))
    (Refuses (line_fault b line) line.number)
