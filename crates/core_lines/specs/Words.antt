-- The words of a core file, and what they stand for.
use Rattle.std.specs.Prelude.{ℕ, List, [], ◌∷◌, Option, Some, None, unwrap_or, codes}
use Rattle.std.specs.Str.{bytes_eq}
use Rattle.dec_core.specs.declared.decimal.DecFault.{DecFault}
use Rattle.dec_core.specs.declared.decimal.DecFault.TheVariants as decimals
use Rattle.smps_words.specs.Tables.{first_true}
use Rattle.smps_words.specs.declared.core_data.RowKind.{RowKind}
use Rattle.smps_words.specs.declared.core_data.RowKind.TheVariants.{Less, Greater, Equal}
use Rattle.core_lines.specs.declared.kinds.CoreKind.{CoreKind}
use Rattle.core_lines.specs.declared.kinds.CoreKind.TheVariants as kinds
use Rattle.core_lines.specs.declared.words.Section.{Section}
use Rattle.core_lines.specs.declared.words.Section.TheVariants as sections
use Rattle.core_lines.specs.declared.words.BoundKind.{BoundKind}
use Rattle.core_lines.specs.declared.words.BoundKind.TheVariants as bounds

-- the section that a header's word begins
abbrev pub section_named : List ℕ → Section
section_named word = unwrap_or (first_true (
    (bytes_eq word (codes "NAME"), sections.Name)
    ∷ (bytes_eq word (codes "OBJSENSE"), sections.Sense)
    ∷ (bytes_eq word (codes "ROWS"), sections.Rows)
    ∷ (bytes_eq word (codes "COLUMNS"), sections.Columns)
    ∷ (bytes_eq word (codes "RHS"), sections.Rights)
    ∷ (bytes_eq word (codes "RANGES"), sections.Ranges)
    ∷ (bytes_eq word (codes "BOUNDS"), sections.Bounds)
    ∷ (bytes_eq word (codes "ENDATA"), sections.End)
    ∷ [])) sections.Other

-- the kind of a row by its word: none for N, the kind of a constraint row for L, G and E; other
-- words name no kind
abbrev pub row_kind_named : List ℕ → Option (Option RowKind)
row_kind_named word = first_true (
    (bytes_eq word (codes "N"), None)
    ∷ (bytes_eq word (codes "L"), Some Less)
    ∷ (bytes_eq word (codes "G"), Some Greater)
    ∷ (bytes_eq word (codes "E"), Some Equal)
    ∷ [])

-- the kind of a bound by its word
abbrev pub bound_kind_named : List ℕ → Option BoundKind
bound_kind_named word = first_true (
    (bytes_eq word (codes "LO"), bounds.Lower)
    ∷ (bytes_eq word (codes "LI"), bounds.Lower)
    ∷ (bytes_eq word (codes "UP"), bounds.Upper)
    ∷ (bytes_eq word (codes "UI"), bounds.Upper)
    ∷ (bytes_eq word (codes "FX"), bounds.Fixed)
    ∷ (bytes_eq word (codes "FR"), bounds.Free)
    ∷ (bytes_eq word (codes "MI"), bounds.NoLower)
    ∷ (bytes_eq word (codes "PL"), bounds.NoUpper)
    ∷ (bytes_eq word (codes "BV"), bounds.Binary)
    ∷ [])

-- the second field of a line that begins or ends the integer columns, and its third
abbrev pub marker_word : List ℕ
marker_word = codes "'MARKER'"

abbrev pub begin_word : List ℕ
begin_word = codes "'INTORG'"

abbrev pub end_word : List ℕ
end_word = codes "'INTEND'"

-- the kind of a number's fault
abbrev pub kind_of_number : DecFault → CoreKind
kind_of_number decimals.NotNumber = kinds.Number
kind_of_number decimals.TooManyPlaces = kinds.TooManyPlaces
kind_of_number (decimals.TooLarge negative) = kinds.TooLarge
