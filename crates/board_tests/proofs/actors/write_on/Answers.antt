use Rattle.std.proofs.Common.{arith, sym, ◌∙◌}
use Rattle.std.proofs.Common.{inr}
use Rattle.rank_writer.specs.Writers.{due_in}
use Rattle.board_tests.proofs.Writing.{is_present, writes_put, wrote_put}
use Rattle.board_tests.proofs.actors.write_on.Goals as goal

pub step-requires-clause-of : goal.step-requires-clause-of
step-requires-clause-of g c = sym c.requires.of

pub step-requires-clause-put : goal.step-requires-clause-put
step-requires-clause-put g c = is_present c.args.given.now c.in-Some.put.now c.requires.given c.in-Some.ensures.0

pub step-requires-clause-due : goal.step-requires-clause-due
step-requires-clause-due g c = let is = c.in-Some.ensures.1 in omega arith

pub step-requires-clause-stands : goal.step-requires-clause-stands
step-requires-clause-stands g c = writes_put c.args.given.now (g.B.Board.view c.args.board.now) c.args.writer.now c.in-Some.put.now.number c.requires.given c.in-Some.ensures.1 c.requires.writes

pub returns-clause-of : goal.returns-clause-of
returns-clause-of g c = c.step.ensures.same ∙ c.requires.of

pub returns-clause-writes : goal.returns-clause-writes
returns-clause-writes g c = wrote_put c.args.given.now (g.B.Board.view c.step.new.board) c.args.writer.now c.step.new.self c.in-Some.put.now.number c.requires.given c.in-Some.ensures.1 c.step.ensures.writes c.step.ensures.stands

pub returns-clause-made : goal.returns-clause-made
returns-clause-made g c = inr (due_in c.args.given.now.of.layout c.args.writer.now c.in-Some.put.now, 0, c.step.ensures.made.leaves_it)
