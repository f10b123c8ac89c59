use Rattle.std.proofs.Common.{arith, ◌-◌}
use Rattle.board_tests.proofs.Placing.{fresh_reader, placed}
use Rattle.board_tests.proofs.actors.reader_at.Goals as goal

pub returns : goal.returns
returns c = let first = c.requires.first in c.in_ok-reader.ensures.reads (placed c.args.given.now c.args.place) (fresh_reader c.args.given.now c.requires.given c.args.place (c.args.place - 1) (omega arith) c.requires.there)
