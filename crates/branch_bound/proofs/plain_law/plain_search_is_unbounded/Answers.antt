use Rattle.branch_bound.proofs.SearchLaws.{search_step}
use Rattle.branch_bound.proofs.plain_law.plain_search_is_unbounded.Goals as goal

pub returns : goal.returns
returns c = search_step
