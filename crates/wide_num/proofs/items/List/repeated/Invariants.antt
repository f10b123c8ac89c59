use Rattle.std.proofs.Common.{◌≡◌, replicate}
use Rattle.wide_num.proofs.items.List.repeated.Given as goal

abbrev pub invariant-loop : goal.invariant-loop
invariant-loop g l = l.items.items ≡ replicate (l.counter) l.item
