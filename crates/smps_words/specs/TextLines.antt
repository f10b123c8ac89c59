-- Lines with the texts of their fields, in place of the spans.
use Rattle.std.specs.Prelude.{ℕ, ◌-◌, Bool, false, ◌&&◌, List, [], length, map, slice_index_or, codes}
use Rattle.std.specs.Str.{bytes_eq}
use Rattle.line_core.specs.Fields.{span_text}
use Rattle.line_core.specs.declared.line_list.Line.{Line}
use Rattle.smps_words.specs.declared.file_line.FileLine.{FileLine}

-- a line: its number in the file from 1, whether it begins with a byte that isn't a blank, and the
-- texts of its fields
pub record TextLine : Type 0 where
  pub number : ℕ
  pub header : Bool
  pub fields : List (List ℕ)

-- a line of the file with these bytes
abbrev pub text_line : List ℕ → Line → TextLine
text_line bytes line = record {
  number = line.number;
  header = line.header;
  fields = map (span_text bytes) line.fields;
}

abbrev pub text_of : FileLine → TextLine
text_of line = text_line line.bytes.now line.line.now

-- the lines of the file with these bytes
abbrev pub text_lines : List ℕ → List Line → List TextLine
text_lines bytes lines = map (text_line bytes) lines

-- the text of the k-th field, from 0, empty where there is none
abbrev pub field : ℕ → TextLine → List ℕ
field k line = slice_index_or line.fields k []

-- how many fields there are
abbrev pub field_count : TextLine → ℕ
field_count line = length line.fields

-- whether a line is a header that begins with this word
abbrev pub is_header : List ℕ → TextLine → Bool
is_header word line = line.header && bytes_eq (field 0 line) word

-- what stands past the end of the lines
abbrev pub no_line : TextLine
no_line = record { number = 0; header = false; fields = [] }

-- the number of the last line, 0 where there is none
abbrev pub last_number : List TextLine → ℕ
last_number lines = (slice_index_or lines (length lines - 1) no_line).number

-- the line after which nothing is read
abbrev pub is_end : TextLine → Bool
is_end line = is_header (codes "ENDATA") line
