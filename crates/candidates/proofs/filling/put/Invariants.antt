use Rattle.std.proofs.Common.{◌≤◌, length}
use Rattle.candidates.specs.Filling.{IsPut}
use Rattle.candidates.proofs.filling.put.Given as goal

abbrev pub invariant-loop-scenario : goal.invariant-loop-scenario
invariant-loop-scenario l = record {
  within : l.scenario-index ≤ length l.members;
  put : IsPut l.run l.fn.values l.members l.scenario-index l.column l.value l.values;
}
