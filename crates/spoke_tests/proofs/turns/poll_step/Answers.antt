use Rattle.std.proofs.Common.{arith, sym, subst, ◌+◌}
use Rattle.plain_board.specs.Plain.{selected}
use Rattle.put_read.specs.SpokeReads.{ReadsSpoke}
use Rattle.spoke_tests.proofs.Seating.{board_here, here}
use Rattle.spoke_tests.proofs.Parts.{seat_there}
use Rattle.spoke_tests.proofs.turns.poll_step.Goals as goal

pub select-requires : goal.select-requires
select-requires c = let many = c.requires.spokes in seat_there c.args.run.now c.args.board.now (c.args.run.now.options.ranks + 3) c.requires.board (omega arith)

pub step-requires : goal.step-requires
step-requires c = subst (λ run. ReadsSpoke run (selected c.select.new.self) c.args.poll.now) (sym (board_here c.args.board.now c.select.new.self _ c.select.ensures c.args.run.now c.requires.board))
    (here c.args.board.now c.select.new.self _ c.select.ensures (λ v. ReadsSpoke c.args.run.now v c.args.poll.now) c.requires.reads)
