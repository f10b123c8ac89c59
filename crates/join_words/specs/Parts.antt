-- What a run takes from its files: the data of a core, the first columns and rows of the periods,
-- and all entries of a stoch file.
use Rattle.std.specs.Prelude.{◌≡◌, ℕ, ◌≤◌, Bool, true, false, nat_lt, List, length, Option, Some, None, slice_index_or}
use Rattle.std.specs.List.{All, Any, flat_map}
use Rattle.dec_core.specs.declared.decimal.Decimal.{Decimal}
use Rattle.smps_words.specs.CoreFacts.{zero_decimal}
use Rattle.smps_words.specs.declared.core_data.CoreColumn.{CoreColumn}
use Rattle.smps_words.specs.declared.core_data.CoreEntry.{CoreEntry}
use Rattle.smps_words.specs.declared.core_data.CoreRow.{CoreRow}
use Rattle.smps_words.specs.declared.core_data.RowKind.TheVariants.{Less}
use Rattle.smps_words.specs.declared.core_file.Core.{Core}
use Rattle.smps_words.specs.declared.periods.Periods.{Periods}
use Rattle.smps_stoch.specs.declared.stoch.Branch.{Branch}
use Rattle.smps_stoch.specs.declared.stoch.Element.{Element}
use Rattle.smps_stoch.specs.declared.stoch.Realisation.{Realisation}
use Rattle.smps_stoch.specs.declared.stoch.Stoch.{Stoch}
use Rattle.smps_stoch.specs.declared.stoch.Stoch.TheVariants.{Product, Scenarios}
use Rattle.smps_words.specs.Stages.{stage_in}
use Rattle.stoch_lines.specs.declared.places.StochEntry.{StochEntry}

-- the data of a core, without its names
pub record Parts : Type 0 where
  pub rows : List CoreRow
  pub columns : List CoreColumn
  pub entries : List CoreEntry
  pub constant : Decimal

abbrev pub parts_of : Core → Parts
parts_of core = record {
  rows = core.rows;
  columns = core.columns;
  entries = core.entries;
  constant = core.constant;
}

-- the first column and the first row of each period
pub record Firsts : Type 0 where
  pub columns : List ℕ
  pub rows : List ℕ

abbrev pub firsts_of : Periods → Firsts
firsts_of periods = record { columns = periods.columns; rows = periods.rows }

-- how many stages there are
abbrev pub stages_of : Firsts → ℕ
stages_of firsts = length firsts.columns

-- what stands past the end of the columns, and of the rows
abbrev pub no_column : CoreColumn
no_column = record { lower = None; upper = None; marked = false; cost = zero_decimal }

abbrev pub no_row : CoreRow
no_row = record { kind = Less; right = zero_decimal; range = None }

abbrev pub column_at : Parts → ℕ → CoreColumn
column_at parts j = slice_index_or parts.columns j no_column

abbrev pub row_at : Parts → ℕ → CoreRow
row_at parts i = slice_index_or parts.rows i no_row

-- whether an entry's column has a later stage than its row
abbrev pub is_early : Firsts → CoreEntry → Bool
is_early firsts e = nat_lt (stage_in firsts.rows e.row) (stage_in firsts.columns e.column)

-- the line of the first entry whose column has a later stage than its row: the least of their lines
abbrev pub IsFirstEarly : Firsts → List CoreEntry → Option ℕ → Type 0
IsFirstEarly firsts entries None = All (λ e. is_early firsts e ≡ false) entries
IsFirstEarly firsts entries (Some line) =
    Any (λ e. (is_early firsts e ≡ true) × (e.line ≡ line)) entries
    × All (λ e. is_early firsts e ≡ true → line ≤ e.line) entries

-- the entries of some realisations, of some elements, and of some listed scenarios
abbrev pub own_entries : List Realisation → List StochEntry
own_entries realisations = flat_map (λ (r : Realisation). r.entries) realisations

abbrev pub element_entries : List Element → List StochEntry
element_entries elements = flat_map (λ (e : Element). own_entries e.realisations) elements

abbrev pub branch_entries : List Branch → List StochEntry
branch_entries branches = flat_map (λ (b : Branch). b.entries) branches

-- all entries of a stoch file
abbrev pub all_entries : Stoch → List StochEntry
all_entries (Product elements) = element_entries elements
all_entries (Scenarios branches) = branch_entries branches
