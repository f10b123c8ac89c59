use Rattle.drive_words.proofs.laws.rounds_are_enough.Goals as goal
use Rattle.drive_words.proofs.AtRest.{rounds_enough}

pub returns : goal.returns
returns c = λ run first turns cuts. rounds_enough run first cuts turns
