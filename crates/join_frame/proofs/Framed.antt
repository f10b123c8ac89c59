-- A frame out of its parts.
use Rattle.std.proofs.Common.{◌≡◌, ◌∙◌, ap, length, map, List, ℕ, ℤ}
use Rattle.std.specs.List.{range_with_len}
use Rattle.boxed_problem.specs.declared.parts.Side.{Side}
use Rattle.smps_words.specs.declared.core_file.Core.{Core}
use Rattle.smps_words.specs.declared.periods.Periods.{Periods}
use Rattle.smps_stoch.specs.declared.stoch.Stoch.{Stoch}
use Rattle.join_words.specs.Boxes.{boxes_of}
use Rattle.join_words.specs.Framing.{frame_of, joined}
use Rattle.join_words.specs.Parts.{all_entries, parts_of}
use Rattle.join_words.specs.Powers.{cost_places, row_places}
use Rattle.join_words.specs.declared.frame.Frame.{Frame}

abbrev frame_with : List Side → ℕ → List ℕ → Frame
frame_with sides costs rows = record { sides = sides; cost_places = costs; row_places = rows }

pub framed : (core : Core) (periods : Periods) (stoch : Stoch) (missing : ℤ) (sides : List Side) (costs : ℕ) (rows : List ℕ)
    → sides ≡ boxes_of missing core.columns
    → costs ≡ cost_places (parts_of core) (boxes_of missing core.columns) (all_entries stoch)
    → rows ≡ map (row_places (parts_of core) (boxes_of missing core.columns) (all_entries stoch)) (range_with_len 0 (length core.rows))
    → frame_with sides costs rows ≡ frame_of (joined core periods stoch missing)
unfolding frame_of
framed core periods stoch missing sides costs rows s c r =
    let boxes = boxes_of missing core.columns in
    let cost = cost_places (parts_of core) boxes (all_entries stoch) in
    ap (λ x. frame_with x costs rows) s ∙ (ap (λ x. frame_with boxes x rows) c ∙ ap (λ x. frame_with boxes cost x) r)
