use Rattle.put_words.proofs.Floors.{is_floor}
use Rattle.put_words.proofs.laws.rounds_down.Goals as goal

pub returns : goal.returns
returns c = is_floor
