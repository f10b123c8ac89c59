use Rattle.std.proofs.Common.{sym, ◌∙◌}
use Rattle.drive_words.proofs.laws.same_words_same_log.Goals as goal
use Rattle.drive_words.specs.Driving.{driven_from}

pub returns : goal.returns
returns c = λ run turns log other f s d e. d ∙ (λ i. driven_from run (f i) turns (s i)) ∙ sym e
