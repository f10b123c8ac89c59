-- The definitions of a run at the worked examples, SMALL and PAIR.
use Rattle.std.proofs.Common.{refl, ◌≡◌, ℕ, [], ◌∷◌, map, Some, None, false}
use Rattle.std.specs.Prelude.{pos, negsuc}
use Rattle.dec_core.specs.declared.decimal.Decimal.{Decimal}
use Rattle.smps_words.specs.declared.core_data.CoreColumn.{CoreColumn}
use Rattle.smps_words.specs.declared.core_data.CoreEntry.{CoreEntry}
use Rattle.smps_words.specs.declared.core_data.CoreRow.{CoreRow}
use Rattle.smps_words.specs.declared.core_data.RowKind.TheVariants.{Less, Greater, Equal}
use Rattle.smps_stoch.specs.declared.stoch.Element.{Element}
use Rattle.smps_stoch.specs.declared.stoch.Stoch.{Stoch}
use Rattle.smps_stoch.specs.declared.stoch.Stoch.TheVariants.{Product}
use Rattle.stoch_lines.specs.declared.places.StochEntry.{StochEntry}
use Rattle.stoch_lines.specs.declared.places.StochPlace.TheVariants.{Right}
use Rattle.scenario_lists.specs.ScenarioList.{count_of, marks_of, scenarios_of}
use Rattle.scenario_lists.specs.declared.data.ScenarioData.{ScenarioData}
use Rattle.sp_model.specs.declared.program.Change.TheVariants as change
use Rattle.join_words.specs.Boxes.{filled, side}
use Rattle.join_words.specs.Limits.{limits_by}
use Rattle.join_words.specs.Parts.{Firsts, Parts}
use Rattle.join_words.specs.Framing.{Source, frame_of}
use Rattle.join_words.specs.RunOf.{change_of, nonleaf_of, row_of}

-- boxes with missing ends
box_tried : filled (pos 5) (Some (pos 2)) None ≡ side (pos 2) (pos 7)
box_tried = refl

open_tried : filled (pos 5) None None ≡ side (negsuc 4) (pos 5)
open_tried = refl

cut_tried : filled (pos 5) None (Some (negsuc 999999997)) ≡ side (negsuc 999999999) (negsuc 999999997)
cut_tried = refl

-- ranges of rows with the right-hand side 10
less_tried : limits_by Less (pos 10) (Some (pos 4)) ≡ record { lower = Some (pos 6); upper = Some (pos 10) }
less_tried = refl

below_tried : limits_by Equal (pos 10) (Some (negsuc 3)) ≡ record { lower = Some (pos 6); upper = Some (pos 10) }
below_tried = refl

above_tried : limits_by Equal (pos 10) (Some (pos 4)) ≡ record { lower = Some (pos 10); upper = Some (pos 14) }
above_tried = refl

-- a whole number, and a number of tenths
abbrev whole : ℕ → Decimal
whole n = record { mantissa = pos n; places = 0 }

abbrev tenths : ℕ → Decimal
tenths n = record { mantissa = pos n; places = 1 }

abbrev column_up : ℕ → ℕ → CoreColumn
column_up upper cost = record { lower = Some (pos 0); upper = Some (pos upper); marked = false; cost = whole cost }

abbrev row_above : ℕ → CoreRow
row_above rhs = record { kind = Greater; right = whole rhs; range = None }

abbrev one_at : ℕ → ℕ → CoreEntry
one_at i j = record { row = i; column = j; value = whole 1; line = 1 }

abbrev side_is : ℕ → Decimal → StochEntry
side_is i value = record { place = Right i; value = value; line = 1 }

-- PAIR
abbrev pair : Parts
pair = record {
  rows = row_above 2 ∷ row_above 1 ∷ [];
  columns = column_up 10 1 ∷ column_up 10 3 ∷ column_up 10 3 ∷ [];
  entries = one_at 0 0 ∷ one_at 1 0 ∷ one_at 0 1 ∷ one_at 1 2 ∷ [];
  constant = whole 0;
}

abbrev pair_firsts : Firsts
pair_firsts = record { columns = 0 ∷ 1 ∷ []; rows = 0 ∷ 0 ∷ [] }

abbrev either : ℕ → StochEntry → ℕ → StochEntry → Element
either w e v f = record { period = 2; realisations = record { weight = pos w; entries = e ∷ [] } ∷ record { weight = pos v; entries = f ∷ [] } ∷ [] }

abbrev indep : Stoch
indep = Product (either 5 (side_is 0 (whole 2)) 5 (side_is 0 (whole 6)) ∷ either 25 (side_is 1 (whole 1)) 75 (side_is 1 (whole 3)) ∷ [])

indep_count : count_of indep ≡ 4
indep_count = refl

indep_weights : map (λ (s : ScenarioData). s.weight) (scenarios_of indep) ≡ 125 ∷ 375 ∷ 125 ∷ 375 ∷ []
indep_weights = refl

indep_marks : marks_of 2 indep ≡ (0 ∷ 0 ∷ []) ∷ (0 ∷ 1 ∷ []) ∷ (0 ∷ 2 ∷ []) ∷ (0 ∷ 3 ∷ []) ∷ []
indep_marks = refl

abbrev source : Stoch → Source
source stoch = record { parts = pair; firsts = pair_firsts; stoch = stoch; missing = pos 1000000 }

pair_nonleaf : nonleaf_of (source indep) ≡ 1
pair_nonleaf = refl

pair_row : row_of pair pair_firsts (frame_of (source indep)) 1 ≡ record { stage = 2; lower = Some (pos 1); upper = None }
unfolding frame_of
pair_row = refl

-- a right-hand side of 4.5 scales its row by ten, its entries too, and no other row
abbrev halves : Stoch
halves = Product (either 1 (side_is 0 (tenths 45)) 1 (side_is 0 (whole 6)) ∷ [])

scaled_row : row_of pair pair_firsts (frame_of (source halves)) 0 ≡ record { stage = 2; lower = Some (pos 20); upper = None }
unfolding frame_of
scaled_row = refl

other_row : row_of pair pair_firsts (frame_of (source halves)) 1 ≡ record { stage = 2; lower = Some (pos 1); upper = None }
unfolding frame_of
other_row = refl

scaled_change : change_of pair (frame_of (source halves)) (side_is 0 (tenths 45)) ≡ Some (change.Limits 0 (Some (pos 45)) None)
unfolding frame_of
scaled_change = refl
