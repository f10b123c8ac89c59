use Rattle.std.proofs.Common.{rules, pos, ◌<ℤ◌, FitsSigned}
use Rattle.std.proofs.lemmas.Int.{to_z-of_z}
use Rattle.std.specs.Int.{w128}
use Rattle.hedging.proofs.Fitting.{weight_positive}
use Rattle.hedging.proofs.sums.Sums.share.Goals as goal

pub quotient-requires : goal.quotient-requires
quotient-requires c =
    let fw : FitsSigned w128 c.args.self.now.weight = search rules in
    let h : pos 0 <ℤ c.args.self.now.weight = rw c.requires.sums.weight (weight_positive c.args.run.now c.args.node c.requires.node) in
    simp to_z-of_z h
