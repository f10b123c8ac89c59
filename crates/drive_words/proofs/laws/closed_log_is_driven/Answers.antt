use Rattle.std.proofs.Common.{refl}
use Rattle.drive_words.proofs.laws.closed_log_is_driven.Goals as goal
use Rattle.drive_words.proofs.Reaching.{closed_is_driven, leads_to_rest}

pub returns : goal.returns
returns c = λ run turns w log leads rising closes is. closed_is_driven run log.first turns w leads log refl (leads_to_rest run log.first turns w leads rising) closes is
