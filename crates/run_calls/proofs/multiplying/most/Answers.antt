use Rattle.std.proofs.Common.{arith}
use Rattle.run_calls.proofs.MostBounds.{most_small}
use Rattle.run_calls.proofs.multiplying.most.Goals as goal

pub overflow_mul-result : goal.overflow_mul-result
overflow_mul-result c = record { fits = rw (c.from.ensures, c.step.ensures) (omega (arith, most_small c.args.run.now c.args.column c.requires)) }
