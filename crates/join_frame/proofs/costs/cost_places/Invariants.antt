use Rattle.std.proofs.Common.{◌≡◌, take}
use Rattle.stoch_lines.specs.declared.places.StochEntry.{StochEntry}
use Rattle.join_words.specs.Parts.{parts_of}
use Rattle.join_words.specs.Powers.{core_costs, is_live_cost}
use Rattle.join_frame.proofs.Commons.{picked}
use Rattle.join_frame.proofs.costs.cost_places.Given as goal

abbrev pub invariant-loop-entry : goal.invariant-loop-entry
invariant-loop-entry l = l.places ≡ picked (λ (e : StochEntry). is_live_cost l.sides e.place) (λ (e : StochEntry). e.value) (core_costs (parts_of l.fn.core) l.sides) (take l.entry-index l.entries)
