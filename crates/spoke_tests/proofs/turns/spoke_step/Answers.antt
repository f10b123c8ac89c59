use Rattle.std.proofs.Common.{arith, ◌+◌}
use Rattle.lagrangian_spoke.specs.Spokes.{StandsFor}
use Rattle.spoke_tests.proofs.Seating.{board_here, here}
use Rattle.spoke_tests.proofs.Parts.{seat_there}
use Rattle.spoke_tests.proofs.turns.spoke_step.Goals as goal

pub select-requires : goal.select-requires
select-requires c = let kind = c.requires.stands.spoke.kind in seat_there c.args.run.now c.args.board.now (c.args.run.now.options.ranks + 1) c.requires.board (omega arith)

pub step-requires-clause-run : goal.step-requires-clause-run
step-requires-clause-run c = board_here c.args.board.now c.select.new.self _ c.select.ensures c.args.run.now c.requires.board

pub step-requires-clause-stands : goal.step-requires-clause-stands
step-requires-clause-stands c = here c.args.board.now c.select.new.self _ c.select.ensures (λ v. StandsFor c.args.run.now v c.args.spoke.now) c.requires.stands
