use Rattle.std.proofs.Common.{arith, ap, ◌∙◌, ◌≡◌}
use Rattle.sp_model.specs.Problems.{scenarios}
use Rattle.put_words.specs.Hedged.{hedged_in}
use Rattle.put_words.specs.Puts.{bests_below}
use Rattle.hedging.proofs.Makings.{points_next}
use Rattle.hedging.proofs.solving.next_points.Goals as goal

pub loop-scenario-preserved : goal.loop-scenario-preserved
loop-scenario-preserved c =
    let put = c.args.put.now in
    points_next c.loop-scenario.scenario (hedged_in c.args.run.now put.multipliers put.x) c.loop-scenario.points c.push.new.self c.in-Ok-hedged_best.best c.loop-scenario.invariant c.in-Ok-hedged_best.ensures.ok c.in-Ok-push.ensures.ok

pub returns-clause-ok : goal.returns-clause-ok
returns-clause-ok c =
    let run = c.args.run.now in
    let put = c.args.put.now in
    let all : scenarios run ≡ c.loop-scenario.scenario = omega (arith, c.len-scenario-end.ensures, c.loop-scenario-test.false, c.loop-scenario.auto.scenario-end) in
    ap (λ n. bests_below n (hedged_in run put.multipliers put.x)) all ∙ c.loop-scenario.invariant
