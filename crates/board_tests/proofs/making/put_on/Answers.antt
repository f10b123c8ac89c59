use Rattle.board_tests.proofs.Meanings.{put_more}
use Rattle.board_tests.proofs.making.put_on.Goals as goal

pub returns : goal.returns
returns c = put_more c.args.run.now c.args.hedge.now c.args.puts.now c.push.new.self c.in_ok-copy.copy c.requires.put (record { first = c.requires.first; last = c.requires.last }) c.in_ok-copy.ensures c.requires.puts c.in_ok-push.ensures.ok
