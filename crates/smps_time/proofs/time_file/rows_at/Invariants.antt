use Rattle.std.proofs.Common.{◌≡◌, take}
use Rattle.smps_time.specs.TimeAnswers.{rows_at}
use Rattle.smps_time.proofs.time_file.rows_at.Given as goal

abbrev pub invariant-loop-place : goal.invariant-loop-place
invariant-loop-place l = l.rows ≡ rows_at (take l.place-index l.places)
