-- Headers of a core file: their order, and what each asks for.
use Rattle.std.specs.Prelude.{Bool, true, false, not, ◌&&◌, ◌||◌, [], ◌∷◌, length, Option, nat_lt}
use Rattle.smps_words.specs.Tables.{first_true}
use Rattle.smps_words.specs.TextLines.{TextLine, field, field_count}
use Rattle.core_lines.specs.Boxes.{has_empty_box}
use Rattle.core_lines.specs.Parts.{HeadersSaid, Before}
use Rattle.core_lines.specs.Words.{section_named}
use Rattle.core_lines.specs.declared.kinds.CoreKind.{CoreKind}
use Rattle.core_lines.specs.declared.kinds.CoreKind.TheVariants as kinds
use Rattle.core_lines.specs.declared.words.Section.{Section}
use Rattle.core_lines.specs.declared.words.Section.TheVariants.{Start, Name, Sense, Rows, Columns, Rights, Ranges, Bounds, End, Other}

-- which section it is
abbrev pub is_start : Section → Bool
is_start Start = true
is_start _ = false

abbrev pub is_name : Section → Bool
is_name Name = true
is_name _ = false

abbrev pub is_sense : Section → Bool
is_sense Sense = true
is_sense _ = false

abbrev pub is_rows : Section → Bool
is_rows Rows = true
is_rows _ = false

abbrev pub is_columns : Section → Bool
is_columns Columns = true
is_columns _ = false

abbrev pub is_rights : Section → Bool
is_rights Rights = true
is_rights _ = false

abbrev pub is_ranges : Section → Bool
is_ranges Ranges = true
is_ranges _ = false

abbrev pub is_bounds : Section → Bool
is_bounds Bounds = true
is_bounds _ = false

abbrev pub is_ending : Section → Bool
is_ending End = true
is_ending _ = false

-- whether the header COLUMNS has stood, by the section of the last header
abbrev pub has_columns : Section → Bool
has_columns Columns = true
has_columns Rights = true
has_columns Ranges = true
has_columns Bounds = true
has_columns _ = false

-- whether a header may stand behind these: NAME first, ROWS first or behind NAME, COLUMNS behind
-- ROWS, then RHS, RANGES and BOUNDS once each, and ENDATA
abbrev pub is_in_place : HeadersSaid → Section → Bool
is_in_place headers Name = is_start headers.section
is_in_place headers Rows = is_start headers.section || is_name headers.section
is_in_place headers Columns = is_rows headers.section
is_in_place headers Rights = has_columns headers.section && not headers.rights
is_in_place headers Ranges = has_columns headers.section && not headers.ranges
is_in_place headers Bounds = has_columns headers.section && not headers.bounds
is_in_place headers End = has_columns headers.section
is_in_place headers Start = false
is_in_place headers Sense = false
is_in_place headers Other = false

-- the section of a line's word
abbrev pub section_of_word : TextLine → Section
section_of_word line = section_named (field 0 line)

-- what the headers are after one more line
abbrev pub headers_next : Bool → HeadersSaid → TextLine → HeadersSaid
headers_next false headers line = headers
headers_next true headers line = record {
  section = section_of_word line;
  rights = headers.rights || is_rights (section_of_word line);
  ranges = headers.ranges || is_ranges (section_of_word line);
  bounds = headers.bounds || is_bounds (section_of_word line);
}

-- the fault of a header; only the rest of the line NAME isn't read
abbrev pub header_fault : Before → TextLine → Option CoreKind
header_fault before line = first_true (
    (is_sense (section_of_word line), kinds.Sense)
    ∷ (not (is_in_place before.headers (section_of_word line)), kinds.Section)
    ∷ (not (is_name (section_of_word line)) && nat_lt 1 (field_count line), kinds.Fields)
    ∷ (is_columns (section_of_word line) && nat_lt (length before.rows.frees) 1, kinds.NoObjective)
    ∷ (
      is_ending (section_of_word line)
          && has_empty_box before.bounds.bounds (length before.columns.names),
      kinds.EmptyBox,
    )
    ∷ [])
