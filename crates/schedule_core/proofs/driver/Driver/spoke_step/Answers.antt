use Rattle.std.proofs.Common.{refl}
use Rattle.std.specs.Vec.{with_item}
use Rattle.schedule_core.proofs.SpokeAsks.{spoke_found, spoke_stands}
use Rattle.schedule_core.proofs.SpokeMoves.{spoke_keeps, spoke_steps}
use Rattle.schedule_core.proofs.driver.Driver.spoke_step.Goals as goal

pub call_at-requires-clause-stands : goal.call_at-requires-clause-stands
call_at-requires-clause-stands c = spoke_stands c.args.run.now c.args.self.now c.requires.driver c.args.spoke c.requires.spoke c.index_mut.result.now c.index_mut.ensures.value

pub returns-clause-driver : goal.returns-clause-driver
returns-clause-driver c =
    spoke_keeps c.args.run.now c.args.self.now c.requires.driver c.rule.ensures c.args.spoke c.index_mut.result.now
    (spoke_found c.args.run.now c.args.self.now c.requires.driver c.args.spoke c.requires.spoke c.index_mut.result.now c.index_mut.ensures.value)
    c.call_at.new.spoke c.in_ok-call_at.field-0 c.call_at.new.board c.in_ok-call_at.ensures (with_item c.args.self.now.spokes c.args.spoke c.call_at.new.spoke) refl

pub returns-clause-steps : goal.returns-clause-steps
returns-clause-steps c =
    spoke_steps c.args.run.now c.args.self.now c.requires.driver c.rule.ensures c.args.spoke c.index_mut.result.now
    (spoke_found c.args.run.now c.args.self.now c.requires.driver c.args.spoke c.requires.spoke c.index_mut.result.now c.index_mut.ensures.value)
    c.call_at.new.spoke c.in_ok-call_at.field-0 c.call_at.new.board c.in_ok-call_at.ensures (with_item c.args.self.now.spokes c.args.spoke c.call_at.new.spoke) refl
