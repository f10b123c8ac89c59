use Rattle.std.proofs.Common.{◌≡◌, length}
use Rattle.smps_stoch.specs.ElementSteps.{elements_so_far}
use Rattle.smps_stoch.proofs.elements.filled_elements.Given as goal

abbrev pub invariant-loop-draft : goal.invariant-loop-draft
invariant-loop-draft l = l.elements.items ≡ elements_so_far l.periods l.places l.yielded (length l.periods)
