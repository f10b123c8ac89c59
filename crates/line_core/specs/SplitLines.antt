-- what the lines of a file are read as
use Rattle.std.specs.Prelude.{◌≡◌, ℕ, ◌+◌, ◌-◌, ◌<◌, Bool, true, false, not, ◌&&◌, ◌||◌, List, [], ◌∷◌, ◌++◌, length, take, slice_get, nat_le, nat_lt, ◌==◌, Option, None, Some, Result, Ok, Err, if◌then◌else◌}
use Rattle.std.specs.List.{slice_split, list_all, All}
use Rattle.std.specs.Option.{option_to_list}
use Rattle.line_core.specs.Fields.{is_blank, span_text, fields_at, IsSpanOf}
use Rattle.line_core.specs.declared.field_list.Span.{Span}
use Rattle.line_core.specs.declared.line_list.Line.{Line}
use Rattle.line_core.specs.declared.line_list.LineFault.{LineFault}
use Rattle.line_core.specs.declared.line_list.LineFault.TheVariants.{NotAscii, TooLong, Memory}

-- the byte between two lines
abbrev pub is_newline : ℕ → Bool
is_newline byte = byte == 10

-- whether the first byte is a star
abbrev pub begins_with_star : List ℕ → Bool
begins_with_star [] = false
begins_with_star (byte ∷ bytes) = byte == 42

-- a line that is skipped: it begins with a star or has no byte that isn't a blank
abbrev pub is_comment : List ℕ → Bool
is_comment text = begins_with_star text || list_all is_blank text

-- whether the first byte isn't a blank
abbrev pub is_unindented : List ℕ → Bool
is_unindented [] = false
is_unindented (byte ∷ bytes) = not (is_blank byte)

-- whether all bytes are from 9 to 126
abbrev pub is_plain : List ℕ → Bool
is_plain text = list_all (λ byte. nat_le 9 byte && nat_le byte 126) text

-- whether a byte is there and is a carriage return
abbrev pub is_return : Option ℕ → Bool
is_return None = false
is_return (Some byte) = byte == 13

-- whether the last byte is a carriage return
abbrev pub ends_with_return : List ℕ → Bool
ends_with_return text = is_return (slice_get text (length text - 1))

-- a text without the carriage return at its end, if one stands there
abbrev pub without_return : List ℕ → List ℕ
without_return text = if ends_with_return text then take (length text - 1) text else text

-- the greatest number of bytes of a line
abbrev pub max_line_bytes : ℕ
max_line_bytes = 1024

-- what a text is read as, given its number and the place of its first byte: a comment as no line
abbrev pub read_line : ℕ → ℕ → List ℕ → Result (Option Line) LineFault
read_line number start text =
    if is_comment text then Ok None
    else (if nat_lt max_line_bytes (length text) then Err (TooLong number)
    else (if is_plain text then Ok
    (Some (record {
      number = number;
      header = is_unindented text;
      fields = fields_at start text;
    }))
    else Err (NotAscii number)))

-- what the parts between newlines are read as: a carriage return before a newline is dropped
abbrev pub read_parts : ℕ → ℕ → List (List ℕ) → List (Result (Option Line) LineFault)
read_parts number start [] = []
read_parts number start (part ∷ []) = read_line number start part ∷ []
read_parts number start (part ∷ next ∷ parts) =
    read_line number start (without_return part)
    ∷ read_parts (number + 1) (start + length part + 1) (next ∷ parts)

-- lines that stand before those that are read after them
abbrev pub after_lines : List Line → Result (List Line) LineFault → Result (List Line) LineFault
after_lines front (Ok lines) = Ok (front ++ lines)
after_lines front (Err fault) = Err fault

-- the first fault, or else all the lines
abbrev pub fault_or_lines : List (Result (Option Line) LineFault) → Result (List Line) LineFault
fault_or_lines [] = Ok []
fault_or_lines (Err fault ∷ rest) = Err fault
fault_or_lines (Ok line ∷ rest) = after_lines (option_to_list line) (fault_or_lines rest)

-- the lines of a file, numbered from 1, or its first fault
abbrev pub lines_of : List ℕ → Result (List Line) LineFault
lines_of bytes = fault_or_lines (read_parts 1 0 (slice_split is_newline bytes))

-- whether a text is read as a line, which has fields
abbrev pub is_line : Result (Option Line) LineFault → Bool
is_line (Ok None) = false
is_line (Ok (Some line)) = true
is_line (Err fault) = false

-- whether a line is read before the first fault
abbrev pub has_line : List (Result (Option Line) LineFault) → Bool
has_line [] = false
has_line (Err fault ∷ rest) = false
has_line (Ok None ∷ rest) = has_line rest
has_line (Ok (Some line) ∷ rest) = true

-- memory is asked for lines alone: a file is refused it only where a line is read before its first
-- fault
abbrev pub may_want_memory : List ℕ → Bool
may_want_memory bytes = has_line (read_parts 1 0 (slice_split is_newline bytes))

-- a line of a file: it has a field, and each of its fields is a span of the file
abbrev pub IsLineOf : List ℕ → Line → Type 0
IsLineOf bytes line = (0 < length line.fields) × All (IsSpanOf bytes) line.fields

-- a line that stands above another
abbrev pub IsAbove : Line → Line → Type 0
IsAbove upper lower = upper.number < lower.number

-- a fault that is answered: the one that is read, or want of memory where it is asked for
abbrev pub IsFaultOf : {X : Type 0} → Bool → Result X LineFault → LineFault → Type 0
IsFaultOf asked read (NotAscii line) = read ≡ Err (NotAscii line)
IsFaultOf asked read (TooLong line) = read ≡ Err (TooLong line)
IsFaultOf asked read Memory = asked ≡ true

-- the answer is what is read, or want of memory where it is asked for
abbrev pub Gives : {X : Type 0} → Bool → Result X LineFault → Result X LineFault → Type 0
Gives asked read (Ok value) = read ≡ Ok value
Gives asked read (Err fault) = IsFaultOf asked read fault

-- whether a text asks for memory: where it is read as a line
abbrev pub asks_memory : ℕ → ℕ → List ℕ → Bool
asks_memory number start text = is_line (read_line number start text)

-- a fault that a text is answered with: the one that it is read as, or want of memory where it asks
-- for it
abbrev pub IsLineFault : ℕ → ℕ → List ℕ → LineFault → Type 0
IsLineFault number start text fault =
    IsFaultOf (asks_memory number start text) (read_line number start text) fault

-- the answer is what a text is read as, or want of memory where it asks for it
abbrev pub GivesLine : ℕ → ℕ → List ℕ → Result (Option Line) LineFault → Type 0
GivesLine number start text answer =
    Gives (asks_memory number start text) (read_line number start text) answer

-- what is read without a fault stands behind the lines
abbrev pub IsAdded : Result (Option Line) LineFault → List Line → List Line → Type 0
IsAdded read old new = (line : Option Line) × (read ≡ Ok line) × (new ≡ old ++ option_to_list line)

-- the bytes of a span, none where there is no span
abbrev pub option_text : List ℕ → Option Span → List ℕ
option_text bytes None = []
option_text bytes (Some span) = span_text bytes span

-- the text of a line's k-th field, from 0, empty where there is none
abbrev pub field_text : List ℕ → ℕ → Line → List ℕ
field_text bytes k line = option_text bytes (slice_get line.fields k)
