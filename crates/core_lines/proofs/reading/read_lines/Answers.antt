use Rattle.std.proofs.Common.{subst}
use Rattle.std.specs.Prelude.{Result, ℕ}
use Rattle.smps_words.specs.TextLines.{text_lines}
use Rattle.smps_words.specs.Memory.{AreSome}
use Rattle.core_lines.specs.Meaning.{Gives}
use Rattle.core_lines.specs.Parts.{Before}
use Rattle.core_lines.specs.declared.kinds.CoreKind.{CoreKind}
use Rattle.core_lines.proofs.Readings.{steps_are}
use Rattle.core_lines.proofs.reading.read_lines.Goals as goal

pub returns : goal.returns
returns c = subst (λ (m : Result Before (ℕ × CoreKind)). Gives (AreSome c.args.lines.now) c.read_by_steps.result m) (steps_are (text_lines c.args.bytes.now c.args.lines.now)) c.read_by_steps.ensures
