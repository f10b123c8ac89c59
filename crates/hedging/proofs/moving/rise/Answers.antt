use Rattle.std.proofs.Common.{rules, ◌*ℤ◌, FitsSigned}
use Rattle.std.proofs.lemmas.Int.{to_z-of_z}
use Rattle.std.specs.Int.{w128}
use Rattle.hedging.proofs.Fitting.{numerator_fits}
use Rattle.hedging.proofs.moving.rise.Goals as goal

pub times-product-requires : goal.times-product-requires
times-product-requires c =
    let fr : FitsSigned w128 c.rate.result = search rules in
    let fa : FitsSigned w128 c.apart.result = search rules in
    let h : FitsSigned w128 (c.rate.result *ℤ c.apart.result) = rw (c.rate.ensures, c.apart.ensures) (numerator_fits c.args.run.now c.args.x.now c.args.node c.args.scenario c.args.column c.requires.inside c.requires.node c.requires.scenario c.requires.column) in
    simp to_z-of_z h
