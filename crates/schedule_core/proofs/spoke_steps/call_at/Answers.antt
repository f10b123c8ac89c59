use Rattle.schedule_core.proofs.SeatCalls.{calls_if_ok, spoke_stands}
use Rattle.schedule_core.proofs.spoke_steps.call_at.Goals as goal

pub step-requires-clause-stands : goal.step-requires-clause-stands
step-requires-clause-stands c = spoke_stands c.args.run.now c.args.board.now c.select.new.self c.args.seat c.args.spoke.now c.select.ensures c.requires.stands

pub returns : goal.returns
returns c =
    let made = c.step.ensures.made in
    calls_if_ok c.args.run.now c.args.board.now c.select.new.self c.args.seat c.args.spoke.now c.select.ensures
    c.step.new.board c.step.new.self made.0 made.1 c.step.result c.step.ensures.stands made.2
