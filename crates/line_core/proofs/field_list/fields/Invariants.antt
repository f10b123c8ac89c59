use Rattle.std.proofs.Common.{◌≡◌, ◌+◌, ◌++◌, ◌-◌, ◌≤◌, length, drop}
use Rattle.line_core.specs.Fields.{fields_at}
use Rattle.line_core.proofs.field_list.fields.Given as goal

abbrev pub invariant-loop-count : goal.invariant-loop-count
invariant-loop-count l = record {
  within : l.at ≤ length l.text;
  found : l.spans ++ fields_at (l.start + l.at) (drop l.at l.text) ≡ fields_at l.start l.text;
}

abbrev pub decreases-loop-count : goal.decreases-loop-count
decreases-loop-count l = length l.text - l.at
