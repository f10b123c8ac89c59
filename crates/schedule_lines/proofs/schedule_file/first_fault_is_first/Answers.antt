use Rattle.smps_words.proofs.PlaceLaw.{says}
use Rattle.schedule_lines.specs.Schedules.{fault_behind, never}
use Rattle.schedule_lines.proofs.schedule_file.first_fault_is_first.Goals as goal

pub returns : goal.returns
returns c = λ crew words. says (fault_behind crew) never words
