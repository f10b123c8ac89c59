use Rattle.std.proofs.Common.{FitsSigned}
use Rattle.std.proofs.lemmas.Int.{to_z-of_z}
use Rattle.std.specs.Int.{w128}
use Rattle.smps_stoch.proofs.Entries.{branches_more}
use Rattle.smps_stoch.proofs.Weighing.{head_enough, head_few, head_fits}
use Rattle.smps_stoch.proofs.branches.empty_branches.Goals as goal

pub weight_of-requires-clause-enough : goal.weight_of-requires-clause-enough
weight_of-requires-clause-enough c =
    head_enough c.args.scenarios.now c.args.places c.loop-scenario.scenario-index _ c.requires.places c.loop-scenario-test.true

pub weight_of-requires-clause-most : goal.weight_of-requires-clause-most
weight_of-requires-clause-most c = head_few c.args.scenarios.now c.args.places c.requires.places c.requires.probable

pub loop-scenario-preserved : goal.loop-scenario-preserved
loop-scenario-preserved c =
    let fits : FitsSigned w128 c.weight_of.result = head_fits c.args.scenarios.now c.args.places c.loop-scenario.scenario-index _ c.weight_of.result c.requires.places c.requires.probable c.loop-scenario-test.true c.weight_of.ensures in
    branches_more c.args.places c.args.scenarios.now c.loop-scenario.branches.items c.push.new.self.items c.loop-scenario.scenario-index _ c.weight_of.result _ c.loop-scenario-test.true c.new.ensures c.weight_of.ensures c.loop-scenario.invariant (simp to_z-of_z at c.in_ok-push.ensures.items)
