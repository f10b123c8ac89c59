use Rattle.stoch_lines.specs.Turns.{before_in}
use Rattle.stoch_lines.proofs.Elements.{known}
use Rattle.stoch_lines.proofs.state.State.add_element.Goals as goal

pub returns-then-element-len : goal.returns-then-element-len
returns-then-element-len c = known (before_in c.args.self.now) c.args.saying.now c.args.element c.len.result c.requires c.len.ensures c.if-element-len.true
