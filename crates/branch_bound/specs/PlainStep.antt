-- the plain search by its own recursion
use Rattle.std.specs.Prelude.{List, if◌then◌else◌}
use Rattle.boxed_problem.specs.Data.{Problem}
use Rattle.branch_bound.specs.Halves.{halves}
use Rattle.branch_bound.specs.PlainSearch.{Progress, go_on, is_pruned, search, with_opened}
use Rattle.boxed_problem.specs.declared.parts.Side.{Side}

-- a box is opened, which counts one; and where it isn't pruned, its only point is taken, or the low
-- half is searched and then the high one
abbrev pub opened_then : Problem → List Side → Progress → Progress
opened_then b box p = if is_pruned b box p.best then with_opened p
    else go_on (search b) b box (halves box) (with_opened p)
