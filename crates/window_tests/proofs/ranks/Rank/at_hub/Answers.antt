use Rattle.window_tests.proofs.Ranking.{fresh_rank}
use Rattle.window_tests.proofs.ranks.Rank.at_hub.Goals as goal

pub invariant_of-result : goal.invariant_of-result
invariant_of-result c = fresh_rank c.args.seat c.args.window c.args.width c.args.most _ c.requires.fresh (λ is. c.requires.runs)
