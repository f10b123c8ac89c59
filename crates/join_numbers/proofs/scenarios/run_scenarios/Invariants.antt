use Rattle.std.proofs.Common.{◌≡◌, map, take}
use Rattle.join_words.specs.Parts.{parts_of}
use Rattle.join_words.specs.RunOf.{scenario_of}
use Rattle.join_numbers.proofs.scenarios.run_scenarios.Given as goal

abbrev pub invariant-loop-one : goal.invariant-loop-one
invariant-loop-one l = l.scenarios ≡ map (scenario_of (parts_of l.core) l.frame) (take l.one-index l.listed)
