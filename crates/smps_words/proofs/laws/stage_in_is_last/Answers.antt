use Rattle.smps_words.proofs.PeriodStages.{column_stage, row_stage}
use Rattle.smps_words.proofs.laws.stage_in_is_last.Goals as goal

pub returns-clause-columns : goal.returns-clause-columns
returns-clause-columns c = column_stage

pub returns-clause-rows : goal.returns-clause-rows
returns-clause-rows c = row_stage
