use Rattle.std.proofs.Common.{arith, ap, ◌≤◌, length}
use Rattle.std.proofs.Math.Nat.{mul-le-mul}
use Rattle.scenario_lists.proofs.Nesting.{marks_long}
use Rattle.smps_join.proofs.making.tree.Goals as goal

pub build-requires-clause-few : goal.build-requires-clause-few
build-requires-clause-few c =
    let few = c.requires.few in
    omega (arith, ap length c.in_ok-marks.ensures.marks, marks_long c.stages-stages.result c.args.stoch.now, c.requires.all, few)

pub build-requires-clause-cells : goal.build-requires-clause-cells
build-requires-clause-cells c =
    let few = c.requires.few in
    let long : length c.in_ok-marks.marks ≤ 4096 = omega (arith, ap length c.in_ok-marks.ensures.marks, marks_long c.stages-stages.result c.args.stoch.now, c.requires.all, few) in
    let stages = c.stages-stages.ensures.few in
    omega (arith, mul-le-mul stages long)
