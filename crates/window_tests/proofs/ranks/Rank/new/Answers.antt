use Rattle.std.proofs.Common.{sym, true≢false}
use Rattle.window_tests.proofs.Ranking.{fresh_rank}
use Rattle.window_tests.proofs.ranks.Rank.new.Goals as goal

pub invariant_of-result : goal.invariant_of-result
invariant_of-result c = fresh_rank c.args.seat c.args.window c.args.width c.args.most _ c.requires (λ runs. absurd (true≢false (sym runs)))
