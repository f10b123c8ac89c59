use Rattle.std.proofs.Common.{◌∙◌, ap}
use Rattle.smps_time.specs.TimeAnswers.{rows_at}
use Rattle.smps_time.proofs.Facts.{facts_with}
use Rattle.smps_time.proofs.time_file.periods_in.Goals as goal

pub invariant_of-result : goal.invariant_of-result
invariant_of-result c =
    record { facts = facts_with _ _ c.args.reading.places _ c.requires.keeps c.requires.some (c.in-Ok.ensures ∙ ap rows_at c.as_slice.ensures) }
