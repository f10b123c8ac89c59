use Rattle.std.proofs.Common.{◌≡◌, []}
use Rattle.smps_stoch.specs.ElementSteps.{elements_so_far}
use Rattle.smps_stoch.proofs.elements.empty_elements.Given as goal

abbrev pub invariant-loop-period : goal.invariant-loop-period
invariant-loop-period l = l.elements.items ≡ elements_so_far l.periods l.places [] l.period-index
