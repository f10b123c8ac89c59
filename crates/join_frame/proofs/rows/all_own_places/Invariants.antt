use Rattle.std.proofs.Common.{◌≡◌, map, take}
use Rattle.dec_core.specs.Scale.{common_places}
use Rattle.smps_words.specs.declared.core_data.CoreRow.{CoreRow}
use Rattle.join_words.specs.Powers.{own_numbers}
use Rattle.join_frame.proofs.rows.all_own_places.Given as goal

abbrev pub invariant-loop-row : goal.invariant-loop-row
invariant-loop-row l = l.places.items ≡ map (λ (row : CoreRow). common_places (own_numbers row)) (take l.row-index l.rows)
