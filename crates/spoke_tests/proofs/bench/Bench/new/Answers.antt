use Rattle.spoke_tests.proofs.Benching.{fresh_bench}
use Rattle.spoke_tests.proofs.bench.Bench.new.Goals as goal

pub returns : goal.returns
returns c = fresh_bench c.args.run.now _ c.in_ok-board.board c.in_ok-board.ensures c.meaning.ensures c.requires.ranks c.requires.spokes c.in_ok-spoke.spoke c.in_ok-reader.reader c.new-poll.result c.args.puts c.requires.puts c.in_ok-spoke.ensures.stands c.in_ok-reader.ensures.reads (λ v is. c.new-poll.ensures.reads c.args.run.now v is)
