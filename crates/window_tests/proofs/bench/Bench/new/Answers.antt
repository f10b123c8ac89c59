use Rattle.window_tests.specs.Phases.{viewed}
use Rattle.window_tests.proofs.Benches.{fresh_bench}
use Rattle.window_tests.proofs.bench.Bench.new.Goals as goal

pub invariant_of-result : goal.invariant_of-result
invariant_of-result c = fresh_bench _ c.in_ok-board.board c.in_ok-reader.reader c.in_ok-board.ensures c.requires.few c.requires.small c.in_ok-reader.ensures.fresh (c.in_ok-reader.ensures.reads (viewed c.in_ok-board.board 0))
