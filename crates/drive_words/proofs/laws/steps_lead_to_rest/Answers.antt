use Rattle.drive_words.proofs.laws.steps_lead_to_rest.Goals as goal
use Rattle.drive_words.proofs.Reaching.{leads_to_rest}

pub returns : goal.returns
returns c = λ run first turns w leads rising. leads_to_rest run first turns w leads rising
