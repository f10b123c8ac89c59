use Rattle.schedule_core.proofs.SeatCalls.{rank_calls, rank_stands}
use Rattle.schedule_core.proofs.rank_steps.write_at.Goals as goal

pub step-requires-clause-stands : goal.step-requires-clause-stands
step-requires-clause-stands c = rank_stands c.args.of.now c.args.put.now c.args.board.now c.select.new.self c.args.seat c.args.writer.now c.select.ensures c.requires.stands

pub returns : goal.returns
returns c =
    rank_calls c.args.of.now c.args.put.now c.args.board.now c.select.new.self c.args.seat c.args.writer.now c.select.ensures
    c.step.new.board c.step.new.self c.step.ensures.stands c.step.ensures.made c.step.ensures.writes
