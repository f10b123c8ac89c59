use Rattle.std.proofs.Common.{rules, sym, subst, ℤ, ◌*ℤ◌, FitsSigned}
use Rattle.std.proofs.lemmas.Int.{to_z-of_z}
use Rattle.std.specs.Int.{w128}
use Rattle.sp_model.proofs.Bounds.{constant_fits}
use Rattle.sp_model.proofs.making.constant.Goals as goal

pub times-requires : goal.times-requires
times-requires c =
    let run = c.args.run.now in
    let P : ℤ → Type 0 = λ z. FitsSigned w128 (z *ℤ run.program.constant) in
    let ff : FitsSigned w128 c.factor.result = search rules in
    let fk : FitsSigned w128 run.program.constant = search rules in
    let h : FitsSigned w128 (c.factor.result *ℤ run.program.constant) = subst P (sym c.factor.ensures) (constant_fits run c.args.s c.requires) in
    simp to_z-of_z h
