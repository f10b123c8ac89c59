use Rattle.schedule_core.proofs.Calling.{may_read, polls_at}
use Rattle.schedule_core.proofs.hub_steps.read_at.Goals as goal

pub step-requires : goal.step-requires
step-requires c = may_read c.args.run.now c.args.board.now c.select.new.self c.args.poll.now c.select.ensures c.requires.run c.requires.reads

pub returns : goal.returns
returns c =
    let made = c.step.ensures.made in
    polls_at c.args.run.now c.args.board.now c.select.new.self c.args.poll.now c.select.ensures c.requires.run c.step.new.board c.step.new.self c.step.result made.0 made.1 c.step.ensures.window c.step.ensures.reads c.step.ensures.tells
