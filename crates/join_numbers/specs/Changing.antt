-- Changes, or that one is large; and what a frame keeps.
use Rattle.std.specs.Prelude.{◌≡◌, ◌≤◌, length, Option, Result, Ok, Err}
use Rattle.std.specs.List.{All}
use Rattle.smps_words.specs.declared.core_file.Core.{Core}
use Rattle.sp_model.specs.declared.program.Change.{Change}
use Rattle.join_words.specs.declared.frame.Frame.{Frame}
use Rattle.join_numbers.specs.UnfitNumbers.{IsSomeLarge}
use Rattle.join_numbers.specs.declared.limits.Unfit.{Unfit}

-- the change, if there is one, or a fault where it is large
abbrev pub IsChangeOf : Result (Option Change) Unfit → Option Change → Type 0
IsChangeOf (Ok one) change = one ≡ change
IsChangeOf (Err unfit) change = IsSomeLarge change

-- the boxes of all columns and the places of all rows, which are few
pub record IsFrameOf (core : Core) (frame : Frame) : Type 0 where
  pub columns : length frame.sides ≡ length core.columns
  pub rows : length frame.row_places ≡ length core.rows
  pub cost_places : frame.cost_places ≤ 9
  pub row_places : All (λ p. p ≤ 9) frame.row_places
