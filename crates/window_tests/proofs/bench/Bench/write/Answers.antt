use Rattle.std.proofs.Common.{◌<◌, get_or, arith}
use Rattle.window_tests.proofs.Benches.{stepped}
use Rattle.window_tests.proofs.bench.Bench.write.Goals as goal

pub invariant_of-self : goal.invariant_of-self
invariant_of-self c =
    let below : c.args.rank < c.self.inside.ranks = omega (arith, c.if-rank-self.false) in
    let two = c.self.invariant.few in
    let made = c.self.invariant.made c.args.rank below in
    let low = made.0 in
    let more : get_or c.self.inside.lasts c.args.rank 0 < c.self.inside.most = omega (arith, c.if-last-self.false) in
    stepped c.self.inside.board c.write_step.new.board _ _ _ _ _ _ c.args.rank c.self.invariant below (omega arith) (omega arith) c.write_step.ensures.stays _ _ more c.counted-last.ensures.closed c.counted-last.ensures.goes c.write_step.ensures.writes
