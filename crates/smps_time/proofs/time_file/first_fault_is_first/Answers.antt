use Rattle.smps_words.proofs.PlaceLaw.{says}
use Rattle.smps_words.specs.TextLines.{is_end}
use Rattle.smps_time.specs.TimeFile.{fault_after}
use Rattle.smps_time.proofs.time_file.first_fault_is_first.Goals as goal

pub returns : goal.returns
returns c = λ core lines. says (fault_after core) is_end lines
