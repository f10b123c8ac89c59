use Rattle.std.proofs.Common.{rules, ◌*ℤ◌, FitsSigned}
use Rattle.std.proofs.lemmas.Int.{to_z-of_z}
use Rattle.std.specs.Int.{w128}
use Rattle.hedging.proofs.Fitting.{rate_fits}
use Rattle.hedging.proofs.moving.rate.Goals as goal

pub times-requires : goal.times-requires
times-requires c =
    let run = c.args.run.now in
    let fr : FitsSigned w128 run.options.rho = search rules in
    let fw : FitsSigned w128 c.weight.result = search rules in
    let h : FitsSigned w128 (run.options.rho *ℤ c.weight.result) = rw c.weight.ensures (rate_fits run c.args.scenario c.requires) in
    simp to_z-of_z h
