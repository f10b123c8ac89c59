use Rattle.std.proofs.Common.{◌≡◌, ◌≤◌, drop, length, take}
use Rattle.std.specs.List.{AllZip}
use Rattle.schedule_core.specs.Ends.{IsLeft}
use Rattle.schedule_core.proofs.driving.ends_of.Given as goal

abbrev pub invariant-loop-turn : goal.invariant-loop-turn
invariant-loop-turn l = record {
  within : l.turn ≤ length l.fn.spokes.items;
  rest : l.rest.items ≡ drop l.turn l.fn.spokes.items;
  left : AllZip (IsLeft l.run l.put.number) (take l.turn l.fn.spokes.items) l.ends;
}
