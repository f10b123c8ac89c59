use Rattle.std.proofs.Common.{◌≡◌, ◌≤◌}
use Rattle.join_words.specs.Parts.{firsts_of}
use Rattle.join_words.specs.RunOf.{nonleaf_in}
use Rattle.smps_join.proofs.anticipation.nonleaf.Given as goal

abbrev pub invariant-loop-j : goal.invariant-loop-j
invariant-loop-j l = (l.count ≡ nonleaf_in (firsts_of l.periods) l.j) × (l.count ≤ l.j)
