use Rattle.std.proofs.Common.{arith, subst, ◌+◌, get_or}
use Rattle.put_codec.specs.Layouts.{layout_in, width_of}
use Rattle.spoke_tests.specs.Seats.{WritesAt, viewed}
use Rattle.spoke_tests.proofs.Benching.{stepped}
use Rattle.spoke_tests.proofs.turns.write_on.Goals as goal

pub returns : goal.returns
returns c =
    let is = c.width.ensures.value in
    let run = c.args.run.now in
    let step = get_or c.args.bench.now.steps c.args.rank 0 in
    stepped run c.args.bench.now.board c.write_step.new.board c.args.bench.now.spoke c.args.bench.now.reader c.args.bench.now.poll c.args.bench.now.puts c.args.bench.now.nexts c.args.bench.now.steps c.args.bench.now.is_stopped c.requires.bench
    c.args.rank c.requires.rank c.write_step.ensures.stays c.counted-next.result.0 c.counted-next.result.1 (λ e. c.counted-next.ensures.closed (omega arith)) (λ l. c.counted-next.ensures.goes (omega arith))
    (subst (λ k. WritesAt (width_of (layout_in run) c.args.rank) c.args.rank k (step + 1) (viewed c.write_step.new.board (c.args.rank + 1))) c.in-Some.ensures.1 c.write_step.ensures.writes)
