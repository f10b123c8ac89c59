-- The stage of a column or a row.
use Rattle.std.specs.Prelude.{ℕ, ◌-◌, ◌<◌, ◌≤◌, List, length, slice_index, count_by, nat_le}

-- the last of the periods, numbered from 1, whose first one isn't after this number
pub record IsStageOf (firsts : List ℕ) (number stage : ℕ) : Type 0 where
  pub counted : 1 ≤ stage
  pub there : stage ≤ length firsts
  pub begun : slice_index firsts (stage - 1) ≤ number
  pub later : (k : ℕ) → stage ≤ k → k < length firsts → number < slice_index firsts k

-- the same as a number, given the first of each period: how many periods begin no later, since they
-- begin in order
abbrev pub stage_in : List ℕ → ℕ → ℕ
stage_in firsts number = count_by (λ first. nat_le first number) firsts
