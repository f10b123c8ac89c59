use Rattle.std.proofs.Common.{◌≢◌}
use Rattle.window_tests.proofs.Ranking.{rank_stepped}
use Rattle.window_tests.proofs.ranks.Rank.write.Goals as goal

pub invariant_of-self : goal.invariant_of-self
invariant_of-self c =
    let more : c.self.inside.last ≢ c.self.inside.most = c.if-last-self.false in
    rank_stepped _ _ _ _ _ _ _ _ _ _ c.self.invariant more c.write_at.ensures.same c.counted-last.ensures.closed c.counted-last.ensures.goes c.write_at.ensures.writes
