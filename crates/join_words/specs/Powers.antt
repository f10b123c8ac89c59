-- The common powers of ten of the costs and of each row, over the core and the stoch file; columns
-- whose box is the single 0 are left out.
use Rattle.std.specs.Prelude.{ℕ, ◌==◌, ◌&&◌, not, Bool, false, List, ◌∷◌, ◌++◌, length, map}
use Rattle.std.specs.List.{filter, range_with_len}
use Rattle.std.specs.Option.{option_to_list}
use Rattle.boxed_problem.specs.declared.parts.Side.{Side}
use Rattle.dec_core.specs.Scale.{common_places}
use Rattle.dec_core.specs.declared.decimal.Decimal.{Decimal}
use Rattle.smps_words.specs.declared.core_data.CoreEntry.{CoreEntry}
use Rattle.smps_words.specs.declared.core_data.CoreRow.{CoreRow}
use Rattle.stoch_lines.specs.declared.places.StochEntry.{StochEntry}
use Rattle.stoch_lines.specs.declared.places.StochPlace.{StochPlace}
use Rattle.stoch_lines.specs.declared.places.StochPlace.TheVariants.{Cost, Cell, Right}
use Rattle.join_words.specs.Boxes.{is_idle}
use Rattle.join_words.specs.Parts.{Parts, column_at, row_at}

-- whether a column stays in the run
abbrev pub stays : List Side → ℕ → Bool
stays sides j = not (is_idle sides j)

-- whether a place is a cost that stays in the run
abbrev pub is_live_cost : List Side → StochPlace → Bool
is_live_cost sides (Cost j) = stays sides j
is_live_cost sides (Cell i j) = false
is_live_cost sides (Right i) = false

-- whether a place is of row i and stays in the run
abbrev pub is_live_in : List Side → ℕ → StochPlace → Bool
is_live_in sides i (Cost j) = false
is_live_in sides i (Cell other j) = (other == i) && stays sides j
is_live_in sides i (Right other) = other == i

-- whether a core entry is of row i and stays in the run
abbrev pub is_entry_in : List Side → ℕ → CoreEntry → Bool
is_entry_in sides i e = (e.row == i) && stays sides e.column

-- the values of those entries of a stoch file that pass a test of their places
abbrev pub values_at : (StochPlace → Bool) → List StochEntry → List Decimal
values_at test entries =
    map (λ (e : StochEntry). e.value) (filter (λ (e : StochEntry). test e.place) entries)

-- the constant, and the costs of the core's columns that stay
abbrev pub core_costs : Parts → List Side → List Decimal
core_costs parts sides = parts.constant
    ∷ map (λ j. (column_at parts j).cost)
    (filter (stays sides) (range_with_len 0 (length parts.columns)))

-- all costs: those of the core and those of the stoch file
abbrev pub cost_numbers : Parts → List Side → List StochEntry → List Decimal
cost_numbers parts sides entries = core_costs parts sides ++ values_at (is_live_cost sides) entries

-- a row's right-hand side, and its range where it has one
abbrev pub own_numbers : CoreRow → List Decimal
own_numbers row = row.right ∷ option_to_list row.range

-- row i's right-hand side, range and entries in the core
abbrev pub core_row_numbers : Parts → List Side → ℕ → List Decimal
core_row_numbers parts sides i = own_numbers (row_at parts i)
    ++ map (λ (e : CoreEntry). e.value) (filter (is_entry_in sides i) parts.entries)

-- all numbers of row i: those of the core and those of the stoch file
abbrev pub row_numbers : Parts → List Side → List StochEntry → ℕ → List Decimal
row_numbers parts sides entries i =
    core_row_numbers parts sides i ++ values_at (is_live_in sides i) entries

-- the places by which the costs are scaled, and row i
abbrev pub cost_places : Parts → List Side → List StochEntry → ℕ
cost_places parts sides entries = common_places (cost_numbers parts sides entries)

abbrev pub row_places : Parts → List Side → List StochEntry → ℕ → ℕ
row_places parts sides entries i = common_places (row_numbers parts sides entries i)
