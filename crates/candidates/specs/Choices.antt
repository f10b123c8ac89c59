-- What a node takes of its scenarios' values: those of one of them, or their mean.

use Rattle.std.specs.Prelude.{ℕ, ◌%◌, List, length, ℤ, pos, ◌+ℤ◌, ◌*ℤ◌, slice_index}
use Rattle.boxed_problem.specs.Sides.{side_at}
use Rattle.log_words.specs.Candidates.{cut}
use Rattle.put_words.specs.NextMultipliers.{rounded_down}
use Rattle.put_words.specs.NodeSums.{AreInside, bundle, sum_of, value_at, weight_of}
use Rattle.sp_model.specs.Changes.{sides}
use Rattle.sp_model.specs.declared.run.Run.{Run}
use Rattle.candidates.specs.declared.choosing.Choice.{Choice}
use Rattle.candidates.specs.declared.choosing.Choice.TheVariants as choice

-- the weighted mean of some scenarios in column j, to the nearest whole number and up from the
-- middle between two: twice the weighted sum and once the weight, over twice the weight
abbrev pub mean_in : Run → List ℤ → List ℕ → ℕ → ℤ
mean_in run x members j =
    rounded_down ((pos 2 *ℤ sum_of run x members j) +ℤ weight_of run members)
    (pos 2 *ℤ weight_of run members)

-- what a choice asks of values besides: those that the mean adds up lie in their boxes
abbrev pub AreFit : Run → List ℤ → Choice → Type 0
AreFit run x (choice.Number c) = Unit {0}
AreFit run x choice.Mean = AreInside run x

-- the value that the scenarios of a node take in column j
abbrev pub chosen : Run → List ℤ → Choice → List ℕ → ℕ → ℤ
chosen run x (choice.Number c) members j =
    value_at run x (slice_index members (c % length members)) j
chosen run x choice.Mean members j = cut (side_at (sides run.program) j) (mean_in run x members j)

-- the same for scenario s by its node
abbrev pub chosen_for : Run → List ℤ → Choice → ℕ → ℕ → ℤ
chosen_for run x c s j = chosen run x c (bundle run s j) j
