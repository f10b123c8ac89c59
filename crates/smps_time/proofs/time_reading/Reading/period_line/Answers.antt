use Rattle.smps_time.proofs.Rising.{period_more, rising_as}
use Rattle.smps_time.specs.Reading.{before_in}
use Rattle.smps_time.proofs.time_reading.Reading.period_line.Goals as goal

pub returns-clause-keeps : goal.returns-clause-keeps
returns-clause-keeps c =
    rising_as _ _ _ _ _ _
    (period_more (before_in c.args.self.now) c.field.result.now c.in-Ok.period c.requires.keeps c.in-Ok.ensures.begins)
    c.in-Ok-add.ensures.2 c.in-Ok-push.ensures.ok c.in-Ok-push-2.ensures.ok
