use Rattle.std.proofs.Common.{refl}
use Rattle.branch_bound.specs.PlainSearch.{search, search_within}
use Rattle.branch_bound.proofs.plain_law.plain_counts_of_small.Goals as goal

pub returns-clause-first : goal.returns-clause-first
unfolding search search_within
returns-clause-first c = refl

pub returns-clause-second : goal.returns-clause-second
unfolding search search_within
returns-clause-second c = refl
