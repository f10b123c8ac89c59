use Rattle.std.proofs.Common.{sym, true≢false}
use Rattle.window_tests.proofs.followers.Follower.new.Goals as goal

pub invariant_of-result : goal.invariant_of-result
invariant_of-result c = (c.requires.reads, c.requires.ranks, λ runs. absurd (true≢false (sym runs)))
