use Rattle.std.proofs.Common.{arith, ◌<◌}
use Rattle.boxed_problem.specs.BoxedFacts.{entry_at}
use Rattle.propagate.proofs.SpanLaws.{border_next}
use Rattle.propagate.proofs.spans.next_border.Goals as goal

pub returns-else-entries-at : goal.returns-else-entries-at
returns-else-entries-at c =
    let es = c.args.entries.now in
    border_next es c.args.j c.loop-at.at c.requires.ascending c.loop-at.invariant.most c.loop-at.invariant.before (λ l. let m : c.args.j < (entry_at es c.loop-at.at).column = omega (arith, c.if-entries-at.false) in m)
