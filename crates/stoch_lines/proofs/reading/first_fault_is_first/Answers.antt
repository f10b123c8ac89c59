use Rattle.smps_words.proofs.PlaceLaw.{says}
use Rattle.smps_words.specs.TextLines.{is_end}
use Rattle.stoch_lines.specs.StochOutcome.{fault_after}
use Rattle.stoch_lines.proofs.reading.first_fault_is_first.Goals as goal

pub returns : goal.returns
returns c = λ core periods lines. says (fault_after core periods) is_end lines
