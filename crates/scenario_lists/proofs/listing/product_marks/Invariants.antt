use Rattle.std.proofs.Common.{◌≡◌, map}
use Rattle.std.specs.List.{range_with_len}
use Rattle.scenario_lists.specs.ScenarioList.{AreRows, product_marks_at}
use Rattle.scenario_lists.proofs.listing.product_marks.Given as goal

abbrev pub invariant-loop-number : goal.invariant-loop-number
invariant-loop-number l = record {
  marks : l.made ≡ map (product_marks_at l.stages l.elements) (range_with_len 0 l.number);
  rows : AreRows l.stages l.made;
}
