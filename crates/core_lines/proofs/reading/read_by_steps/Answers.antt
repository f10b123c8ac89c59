use Rattle.std.proofs.Common.{◌∙◌, arith}
use Rattle.smps_words.specs.TextLines.{text_line, text_lines}
use Rattle.smps_words.specs.Memory.{AreSome}
use Rattle.core_lines.proofs.Readings.{endless, one_on, refused, some_before}
use Rattle.core_lines.specs.States.{before_in}
use Rattle.core_lines.proofs.reading.read_by_steps.Goals as goal

pub returns-in-Err : goal.returns-in-Err
returns-in-Err c =
    refused (text_lines c.args.bytes.now c.args.lines.now) (text_line c.args.bytes.now c.line-item.result) _ _ _ _ (AreSome c.args.lines.now) c.in-Err.fault (some_before c.args.lines.now c.loop-line.line-index c.loop-line-test.true) c.in-Err.ensures
    (c.loop-line.invariant ∙ one_on c.args.bytes.now c.args.lines.now c.loop-line.line-index c.line-item.result (before_in c.loop-line.state) c.loop-line-test.true c.line-item.is)

pub returns : goal.returns
returns c = endless c.args.bytes.now c.args.lines.now c.loop-line.line-index c.last_number.result (before_in c.loop-line.state) (omega arith) c.loop-line.invariant c.last_number.ensures
