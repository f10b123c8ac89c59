use Rattle.smps_words.proofs.StageLaws.{one_stage}
use Rattle.smps_words.proofs.laws.stage_is_one.Goals as goal

pub returns : goal.returns
returns c = one_stage
