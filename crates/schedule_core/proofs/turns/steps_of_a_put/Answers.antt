use Rattle.std.proofs.Common.{arith, ap, sym, ◌∙◌, ◌+◌, ◌*◌}
use Rattle.std.specs.List.{range_with_len, sum_by}
use Rattle.put_codec.specs.Layouts.{cells_of}
use Rattle.schedule_core.proofs.Resting.{few_words, step_words, steps_next}
use Rattle.schedule_core.proofs.turns.steps_of_a_put.Goals as goal

pub loop-rank-preserved : goal.loop-rank-preserved
loop-rank-preserved c = record {
  sum = ap (λ n. n + (3 * c.cells.result + 2)) c.loop-rank.invariant.sum ∙ (ap (λ n. sum_by (step_words c.args.run.now) (range_with_len 0 c.loop-rank.rank) + (3 * n + 2)) (c.cells.ensures ∙ ap (λ l. cells_of l c.loop-rank.rank) c.layout_of-layout.ensures) ∙ sym (steps_next c.args.run.now c.loop-rank.rank c.loop-rank-test.true));
  few = let e = c.cells.ensures ∙ ap (λ l. cells_of l c.loop-rank.rank) c.layout_of-layout.ensures in let f = few_words c.args.run.now c.loop-rank.rank c.loop-rank-test.true in let n = c.loop-rank.invariant.few in omega (arith, e, f, n);
}
