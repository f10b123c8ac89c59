use Rattle.line_core.specs.SplitLines.{may_want_memory}
use Rattle.line_core.proofs.Whole.{whole_within, whole_rise}
use Rattle.line_core.proofs.line_list.lines.Goals as goal

pub returns-clause-within : goal.returns-clause-within
returns-clause-within c = whole_within (may_want_memory c.args.bytes.now) c.args.bytes.now c.read_lines.result c.read_lines.ensures

pub returns-clause-rise : goal.returns-clause-rise
returns-clause-rise c = whole_rise (may_want_memory c.args.bytes.now) c.args.bytes.now c.read_lines.result c.read_lines.ensures
