use Rattle.std.proofs.lemmas.Result.{on_ok_weaker}
use Rattle.spoke_tests.proofs.Finishing.{hedge_put, puts_more}
use Rattle.spoke_tests.proofs.making.push_put.Goals as goal

pub returns : goal.returns
returns c =
    on_ok_weaker c.push.result
    (puts_more c.args.run.now c.args.puts.now c.push.new.self c.in_ok-put.put c.requires.puts (hedge_put c.args.run.now c.args.hedge.now c.in_ok-put.put c.in_ok-put.ensures c.requires.put c.requires.first c.requires.few))
    c.push.ensures.ok
