use Rattle.drive_words.proofs.laws.none_steps_at_rest.Goals as goal
use Rattle.drive_words.proofs.AtRest.{step_rests}

pub returns : goal.returns
returns c = λ run first w spent actor rest. step_rests run first w rest spent actor
