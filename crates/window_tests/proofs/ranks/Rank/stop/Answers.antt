use Rattle.window_tests.proofs.Ranking.{rank_stops}
use Rattle.window_tests.proofs.ranks.Rank.stop.Goals as goal

pub invariant_of-self : goal.invariant_of-self
invariant_of-self c = rank_stops _ _ _ _ _ _ _ _ _ c.stop.ensures.same c.stop.ensures.view c.self.invariant
