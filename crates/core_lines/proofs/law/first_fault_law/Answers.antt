use Rattle.smps_words.proofs.PlaceLaw.{says}
use Rattle.core_lines.specs.Lines.{is_end_header}
use Rattle.core_lines.specs.Meaning.{fault_behind}
use Rattle.core_lines.proofs.law.first_fault_law.Goals as goal

pub returns : goal.returns
returns c = λ lines. says fault_behind is_end_header lines
