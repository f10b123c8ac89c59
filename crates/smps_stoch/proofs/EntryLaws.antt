-- An entry of a line without a fault is of a place that is there, and its value is short.
use Rattle.std.proofs.Common.{◌≡◌, refl, sym, subst, ℕ, ◌+◌, ◌^◌, ◌<◌, ◌≤◌, Bool, true, false, List, [], ◌∷◌, length, Option, Some, None, Result, Ok, Err, lit≤}
use Rattle.std.specs.Prelude.{if◌then◌else◌, position, unwrap_or, option_map, is_none}
use Rattle.std.specs.Result.{result_unwrap_or}
use Rattle.std.specs.Str.{bytes_eq}
use Rattle.wide_num.proofs.LowestLemmas.{magnitude_of}
use Rattle.dec_core.proofs.LimitLaws.{within_is}
use Rattle.dec_core.specs.DecimalValue.{decimal_of, decimal_of_spelling, mantissa_of, places_of}
use Rattle.dec_core.specs.Spelling.{Spelling, spelling_of}
use Rattle.dec_core.specs.declared.decimal.Decimal.{Decimal}
use Rattle.dec_core.specs.declared.decimal.DecFault.{DecFault}
use Rattle.smps_words.specs.CoreFacts.{IsShort, zero_decimal}
use Rattle.smps_words.specs.NumberFields.{number_in}
use Rattle.smps_words.specs.Tables.{first_true}
use Rattle.smps_words.specs.TextLines.{TextLine, field}
use Rattle.smps_words.specs.declared.core_file.Core.{Core}
use Rattle.stoch_lines.proofs.Positions.{position_below}
use Rattle.stoch_lines.specs.Faults.{number_fault, pair_fault}
use Rattle.stoch_lines.specs.Places.{is_right_name, stoch_place, place_of_first, place_on_right}
use Rattle.stoch_lines.specs.Sayings.{entry_at, place_at}
use Rattle.stoch_lines.specs.declared.kinds.StochKind.TheVariants.{Unknown}
use Rattle.stoch_lines.specs.declared.places.StochPlace.{StochPlace}
use Rattle.stoch_lines.specs.declared.places.StochPlace.TheVariants.{Cost, Cell, Right}
use Rattle.smps_stoch.specs.StochFacts.{IsEntry, IsPlace}
use Rattle.smps_stoch.proofs.FieldLaws.{first_none, or_none}

-- a number that is read is short
short_spelling : (s : Option Spelling) (d : Decimal) → decimal_of_spelling s ≡ Ok d → IsShort d
short_spelling None d e = absurd (cc e)
short_spelling (Some s) d e =
    let w = within_is s.negative (mantissa_of s) (places_of s) d e in
    subst IsShort (sym w.2) (w.0, subst (λ (m : ℕ). m ≤ 10 ^ 36) (sym (magnitude_of s.negative (mantissa_of s))) w.1)

short_decimal : (text : List ℕ) (d : Decimal) → decimal_of text ≡ Ok d → IsShort d
unfolding decimal_of
short_decimal text d e = short_spelling (spelling_of text) d e

short_of : (r : Result Decimal DecFault) → ((d : Decimal) → r ≡ Ok d → IsShort d) → IsShort (result_unwrap_or r zero_decimal)
short_of (Ok d) short = short d refl
short_of (Err fault) short = (lit≤ tt, lit≤ tt)

short_number : (text : List ℕ) → IsShort (number_in text)
short_number text = short_of (decimal_of text) (short_decimal text)

-- a place that is named is there
module _ (core : Core) where
  abbrev IsThere : Option StochPlace → Type 0
  IsThere None = Unit {0}
  IsThere (Some place) = IsPlace core place

  row_below : (row : List ℕ) (at : ℕ) → position (bytes_eq row) core.row_names ≡ Some at → at < length core.rows
  row_below row at is = subst (λ (n : ℕ). at < n) core.facts.named_rows (position_below (bytes_eq row) core.row_names at is)

  cell_there : (column : ℕ) (row : List ℕ) (at : Option ℕ) → column < length core.columns → position (bytes_eq row) core.row_names ≡ at → IsThere (option_map (λ number. Cell number column) at)
  cell_there column row None within is = tt
  cell_there column row (Some at) within is = (row_below row at is, within)

  in_column : (column : ℕ) (row : List ℕ) (objective : Bool) → column < length core.columns → IsThere (if objective then Some (Cost column) else option_map (λ number. Cell number column) (position (bytes_eq row) core.row_names))
  in_column column row true within = within
  in_column column row false within = cell_there column row (position (bytes_eq row) core.row_names) within refl

  right_there : (row : List ℕ) (at : Option ℕ) → position (bytes_eq row) core.row_names ≡ at → IsThere (option_map (λ number. Right number) at)
  right_there row None is = tt
  right_there row (Some at) is = row_below row at is

  on_right : (row : List ℕ) (named : Bool) → IsThere (if named then place_on_right core row else None)
  on_right row true = right_there row (position (bytes_eq row) core.row_names) refl
  on_right row false = tt

  of_first : (first row : List ℕ) (column : Option ℕ) → position (bytes_eq first) core.column_names ≡ column → IsThere (place_of_first core column first row)
  of_first first row (Some column) is =
      in_column column row (bytes_eq row core.objective) (subst (λ (n : ℕ). column < n) core.facts.named_columns (position_below (bytes_eq first) core.column_names column is))
  of_first first row None is = on_right row (is_right_name core first)

  there : (first row : List ℕ) → IsThere (stoch_place core first row)
  there first row = of_first first row (position (bytes_eq first) core.column_names) refl

  unwrapped : (place : Option StochPlace) (other : StochPlace) → IsThere place → is_none place ≡ false → IsPlace core (unwrap_or place other)
  unwrapped None other is some = absurd (cc some)
  unwrapped (Some place) other is some = is

  pub entry_well : (k : ℕ) (line : TextLine) → pair_fault core k line ≡ None → IsEntry core (entry_at core k line)
  entry_well k line none =
      let parts = or_none (first_true ((is_none (place_at core k line), Unknown) ∷ [])) (number_fault (field (k + 1) line)) none in
      let known = first_none (is_none (place_at core k line)) Unknown [] parts.0 in
      record {
        place = unwrapped (place_at core k line) (Right 0) (there (field 0 line) (field k line)) known.0;
        short = short_number (field (k + 1) line);
      }
