use Rattle.std.proofs.Common.{rules, ◌*ℤ◌, FitsSigned}
use Rattle.std.proofs.lemmas.Int.{to_z-of_z}
use Rattle.std.specs.Int.{w128}
use Rattle.hedging.proofs.Fitting.{part_fits}
use Rattle.hedging.proofs.sums.weighted.Goals as goal

pub times-requires : goal.times-requires
times-requires c =
    let fw : FitsSigned w128 c.weight.result = search rules in
    let fv : FitsSigned w128 c.wide_value.result = search rules in
    let h : FitsSigned w128 (c.weight.result *ℤ c.wide_value.result) = rw (c.weight.ensures, c.wide_value.ensures) (part_fits c.args.run.now c.args.x.now c.args.scenario c.args.column c.requires.inside c.requires.scenario c.requires.column) in
    simp to_z-of_z h
