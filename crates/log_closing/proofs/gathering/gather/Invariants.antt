use Rattle.std.proofs.Common.{◌≡◌, ◌+◌, drop, take}
use Rattle.log_closing.specs.Closings.{found_in, logs_of}
use Rattle.log_closing.proofs.gathering.gather.Given as goal

abbrev pub invariant-loop-turn : goal.invariant-loop-turn
invariant-loop-turn l = record {
  rest : l.rest.items ≡ drop l.turn l.fn.ends;
  logs : l.logs.items ≡ logs_of (take l.turn l.fn.ends);
  spare : l.logs.spare + l.turn ≡ l.fn.logs.spare;
  found : l.found ≡ found_in l.bound (take l.turn l.fn.ends);
}
