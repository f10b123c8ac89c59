-- Lines of BOUNDS: a kind, the name of a set, or none, a column, and for some kinds a value.
use Rattle.std.specs.Prelude.{ℕ, ◌*◌, ◌^◌, ◌==◌, Bool, true, false, not, ◌&&◌, ◌||◌, List, [], ◌∷◌, ◌++◌, Option, Some, None, Result, Ok, Err, is_none, unwrap_or, nat_le, nat_lt, if◌then◌else◌, ℤ, pos, neg_ℤ, unsigned_abs, int_lt}
use Rattle.std.specs.Int.{int_div_euclid}
use Rattle.std.specs.List.{list_any}
use Rattle.std.specs.Option.{option_map_or}
use Rattle.line_core.specs.Names.{number_of}
use Rattle.dec_core.specs.DecimalValue.{decimal_of}
use Rattle.dec_core.specs.declared.decimal.Decimal.{Decimal}
use Rattle.dec_core.specs.declared.decimal.DecFault.{DecFault}
use Rattle.dec_core.specs.declared.decimal.DecFault.TheVariants as decimals
use Rattle.smps_words.specs.CoreFacts.{max_end, zero_decimal}
use Rattle.smps_words.specs.Tables.{first_true, ◌or◌}
use Rattle.smps_words.specs.TextLines.{TextLine, field, field_count}
use Rattle.core_lines.specs.Parts.{BoundsSaid}
use Rattle.core_lines.specs.SideLines.{is_used}
use Rattle.core_lines.specs.Words.{bound_kind_named}
use Rattle.core_lines.specs.declared.bound_values.BoundValue.{BoundValue}
use Rattle.core_lines.specs.declared.bound_values.BoundValue.TheVariants.{Endless, Finite}
use Rattle.core_lines.specs.declared.cells.Bound.{Bound}
use Rattle.core_lines.specs.declared.cells.EndChange.{EndChange}
use Rattle.core_lines.specs.declared.cells.EndChange.TheVariants.{Kept, Open, At}
use Rattle.core_lines.specs.declared.kinds.CoreKind.{CoreKind}
use Rattle.core_lines.specs.declared.kinds.CoreKind.TheVariants as kinds
use Rattle.core_lines.specs.declared.words.BoundKind.{BoundKind}
use Rattle.core_lines.specs.declared.words.BoundKind.TheVariants.{Lower, Upper, Fixed, Free, NoLower, NoUpper, Binary}

-- the kind of a line, and whether it has a value
abbrev pub kind_of : TextLine → Option BoundKind
kind_of line = bound_kind_named (field 0 line)

abbrev pub has_value : BoundKind → Bool
has_value Lower = true
has_value Upper = true
has_value Fixed = true
has_value Free = false
has_value NoLower = false
has_value NoUpper = false
has_value Binary = false

abbrev pub takes_value : TextLine → Bool
takes_value line = option_map_or has_value (kind_of line) false

-- three or four fields with a value, two to four without one
abbrev pub has_good_count : TextLine → Bool
has_good_count line = if takes_value line
    then (nat_le 3 (field_count line) && nat_le (field_count line) 4)
    else (nat_le 2 (field_count line) && nat_le (field_count line) 4)

-- whether there is the name of a set, in field 1
abbrev pub names_set : TextLine → Bool
names_set line = if takes_value line then field_count line == 4 else nat_le 3 (field_count line)

abbrev pub bound_set : TextLine → List ℕ
bound_set line = if names_set line then field 1 line else []

-- the name of the column stands behind that of the set, and the value last
abbrev pub column_word : TextLine → List ℕ
column_word line = if names_set line then field 2 line else field 1 line

abbrev pub value_word : TextLine → List ℕ
value_word line = if names_set line then field 3 line else field 2 line

-- a value of magnitude at least 10^20 says that there is no bound on that side
abbrev pub no_bound : ℕ
no_bound = 10 ^ 20

abbrev pub is_vast : Decimal → Bool
is_vast d = nat_le (no_bound * 10 ^ d.places) (unsigned_abs d.mantissa)

-- so does one that is too large for a decimal
abbrev pub value_read : Result Decimal DecFault → BoundValue
value_read (Ok d) = if is_vast d then Endless (int_lt d.mantissa (pos 0)) else Finite d
value_read (Err (decimals.TooLarge negative)) = Endless negative
value_read (Err decimals.NotNumber) = Finite zero_decimal
value_read (Err decimals.TooManyPlaces) = Finite zero_decimal

abbrev pub bound_value : TextLine → BoundValue
bound_value line = value_read (decimal_of (value_word line))

-- the fault of a bound's number, which is never that it is too large
abbrev pub value_fault : Result Decimal DecFault → Option CoreKind
value_fault (Ok d) = None
value_fault (Err (decimals.TooLarge negative)) = None
value_fault (Err decimals.NotNumber) = Some kinds.Number
value_fault (Err decimals.TooManyPlaces) = Some kinds.TooManyPlaces

-- whether a value says that there is no bound, whether it is below 0, and whether it is a number of
-- magnitude above 10^9
abbrev pub is_endless : BoundValue → Bool
is_endless (Endless negative) = true
is_endless (Finite d) = false

abbrev pub is_below : BoundValue → Bool
is_below (Endless negative) = negative
is_below (Finite d) = int_lt d.mantissa (pos 0)

abbrev pub is_beyond : BoundValue → Bool
is_beyond (Endless negative) = false
is_beyond (Finite d) = nat_lt (max_end * 10 ^ d.places) (unsigned_abs d.mantissa)

-- the four cases of a bad bound; `lowered` says that an earlier line spoke of the column's lower
-- end
abbrev pub is_bad : BoundKind → BoundValue → Bool → Bool
is_bad Lower value lowered = is_endless value && not (is_below value)
is_bad Upper value lowered = is_below value && (is_endless value || not lowered)
is_bad Fixed value lowered = is_endless value
is_bad Free value lowered = false
is_bad NoLower value lowered = false
is_bad NoUpper value lowered = false
is_bad Binary value lowered = false

-- a decimal rounded down and up
abbrev pub floor_of : Decimal → ℤ
floor_of d = int_div_euclid d.mantissa (pos (10 ^ d.places))

abbrev pub ceiling_of : Decimal → ℤ
ceiling_of d = neg_ℤ (int_div_euclid (neg_ℤ d.mantissa) (pos (10 ^ d.places)))

-- what a value says of a lower end, and of an upper one
abbrev pub low_change : BoundValue → EndChange
low_change (Endless negative) = Open
low_change (Finite d) = At (ceiling_of d)

abbrev pub high_change : BoundValue → EndChange
high_change (Endless negative) = Open
high_change (Finite d) = At (floor_of d)

-- what a line of this kind and value says of the lower end and of the upper one
abbrev pub lower_said : BoundKind → BoundValue → EndChange
lower_said Lower value = low_change value
lower_said Upper value = Kept
lower_said Fixed value = low_change value
lower_said Free value = Open
lower_said NoLower value = Open
lower_said NoUpper value = Kept
lower_said Binary value = At (pos 0)

abbrev pub upper_said : BoundKind → BoundValue → EndChange
upper_said Lower value = Kept
upper_said Upper value = high_change value
upper_said Fixed value = high_change value
upper_said Free value = Open
upper_said NoLower value = Kept
upper_said NoUpper value = Open
upper_said Binary value = At (pos 1)

-- whether it is a kind after which an upper bound below 0 may stand
abbrev pub speaks_low : BoundKind → Bool
speaks_low Lower = true
speaks_low Upper = false
speaks_low Fixed = true
speaks_low Free = true
speaks_low NoLower = true
speaks_low NoUpper = false
speaks_low Binary = true

-- the bound of a kind, a column and a value, if the first two are there
abbrev pub bound_for : Option BoundKind → Option ℕ → BoundValue → List Bound
bound_for None column value = []
bound_for (Some kind) None value = []
bound_for (Some kind) (Some column) value = record {
  column = column;
  lower = lower_said kind value;
  upper = upper_said kind value;
  speaks_low = speaks_low kind;
} ∷ []

-- what a line says, if it is of the used set
abbrev pub bounds_in : List (List ℕ) → Option (List ℕ) → TextLine → List Bound
bounds_in names set line = if is_used set (bound_set line)
    then bound_for (kind_of line) (number_of (column_word line) names) (bound_value line) else []

-- what the bounds are after one more line, if it is a line of BOUNDS
abbrev pub bounds_next : Bool → List (List ℕ) → BoundsSaid → TextLine → BoundsSaid
bounds_next false names said line = said
bounds_next true names said line = record {
  set = said.set or Some (bound_set line);
  bounds = said.bounds ++ bounds_in names said.set line;
}

-- whether an earlier line spoke of the lower end of a column's box
abbrev pub is_lowered : List Bound → ℕ → Bool
is_lowered bounds column = list_any (λ (b : Bound). (b.column == column) && b.speaks_low) bounds

-- whether the line of a kind has a bad bound
abbrev pub is_bad_line : List (List ℕ) → List Bound → TextLine → Option BoundKind → Bool
is_bad_line names bounds line None = false
is_bad_line names bounds line (Some kind) = is_bad kind (bound_value line)
    (is_lowered bounds (unwrap_or (number_of (column_word line) names) 0))

-- the fault of a line: its kind, its number of fields, its column, its number, and its value
abbrev pub bound_fault : List (List ℕ) → BoundsSaid → TextLine → Option CoreKind
bound_fault names said line =
    first_true (
    (is_none (kind_of line), kinds.Fields)
    ∷ (not (has_good_count line), kinds.Fields)
    ∷ (
      is_used said.set (bound_set line) && is_none (number_of (column_word line) names),
      kinds.UnknownColumn,
    )
    ∷ [])
    or (if takes_value line then value_fault (decimal_of (value_word line)) else None)
    or first_true ((
      is_used said.set (bound_set line) && is_bad_line names said.bounds line (kind_of line),
      kinds.BadBound,
    )
    ∷ (
      is_used said.set (bound_set line) && (takes_value line && is_beyond (bound_value line)),
      kinds.Limit,
    )
    ∷ [])
