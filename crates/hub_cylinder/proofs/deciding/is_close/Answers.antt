use Rattle.std.proofs.Common.{rules, ◌≡◌, ◌+ℤ◌, int_le, FitsSigned}
use Rattle.std.proofs.lemmas.Int.{to_z-of_z}
use Rattle.std.specs.Int.{saturate_signed, w128}
use Rattle.hub_cylinder.proofs.Closeness.{close_test}
use Rattle.hub_cylinder.proofs.deciding.is_close.Goals as goal

pub returns-in-Some : goal.returns-in-Some
returns-in-Some c =
    let high : FitsSigned w128 c.in-Some.upper = search rules in
    let low : FitsSigned w128 c.args.pair.lower = search rules in
    let gap : FitsSigned w128 c.args.run.now.options.gap = search rules in
    let told : c.is_within.result ≡ int_le c.in-Some.upper (saturate_signed w128 (c.args.pair.lower +ℤ c.args.run.now.options.gap)) = simp to_z-of_z at c.is_within.ensures in
    close_test c.args.run.now c.args.pair c.in-Some.upper c.is_within.result c.in-Some.is high low told
