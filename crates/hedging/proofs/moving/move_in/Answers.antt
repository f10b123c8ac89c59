use Rattle.std.proofs.Common.{rules, neg_ℤ, FitsSigned}
use Rattle.std.proofs.lemmas.Int.{to_z-of_z}
use Rattle.std.specs.Int.{w128}
use Rattle.hedging.proofs.Fitting.{opposite_fits}
use Rattle.hedging.proofs.moving.move_in.Goals as goal

pub opposite-requires : goal.opposite-requires
opposite-requires c =
    let ff : FitsSigned w128 c.front_rises.result = search rules in
    let h : FitsSigned w128 (neg_ℤ c.front_rises.result) = rw c.front_rises.ensures (opposite_fits c.args.run.now c.args.x.now c.args.node c.args.column c.requires.inside c.requires.node c.requires.column) in
    simp to_z-of_z h
