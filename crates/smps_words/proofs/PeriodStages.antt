-- The stages of the columns and the rows of periods.
use Rattle.std.proofs.Common.{subst, List, ℕ, ◌+◌, ◌<◌, ◌≤◌, suc, zero, slice_index, arith, add-one}
use Rattle.smps_words.specs.Stages.{IsStageOf, stage_in}
use Rattle.smps_words.specs.declared.periods.Periods.{Periods}
use Rattle.smps_words.proofs.StageLaws.{Rises, stage_is}

-- the next number, by one more
next : (firsts : List ℕ) (k : ℕ) → slice_index firsts k < slice_index firsts (k + 1) → slice_index firsts k ≤ slice_index firsts (suc k)
next firsts k less = subst (λ m. slice_index firsts k ≤ slice_index firsts m) (add-one k) (omega (arith, less))

columns_rise : (periods : Periods) → Rises periods.columns
columns_rise periods k h = next periods.columns k (periods.facts.columns_rise k (omega (arith, h)))

rows_rise : (periods : Periods) → Rises periods.rows
rows_rise periods zero h = let first = periods.facts.first_row in omega (arith, first)
rows_rise periods (suc k) h = next periods.rows (suc k) (periods.facts.rows_rise (suc k) (omega arith) (omega (arith, h)))

pub column_stage : (periods : Periods) (column : ℕ) → IsStageOf periods.columns column (stage_in periods.columns column)
column_stage periods column =
    let some = periods.facts.some in
    let long = periods.facts.with_columns in
    stage_is periods.columns column (columns_rise periods) (omega (arith, some, long)) periods.facts.first_column

pub row_stage : (periods : Periods) (row : ℕ) → IsStageOf periods.rows row (stage_in periods.rows row)
row_stage periods row =
    let some = periods.facts.some in
    let long = periods.facts.with_rows in
    stage_is periods.rows row (rows_rise periods) (omega (arith, some, long)) periods.facts.first_row
