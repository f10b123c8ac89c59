use Rattle.std.proofs.Common.{rules, arith, ap, ◌∙◌, ◌≡◌, ◌≤◌, ◌^◌, pos, ◌+ℤ◌, ◌-ℤ◌, ◌*ℤ◌, unsigned_abs, FitsSigned}
use Rattle.std.proofs.lemmas.Int.{to_z-of_z}
use Rattle.std.specs.Int.{w128}
use Rattle.base_words.proofs.Magnitudes.{fits_from_abs}
use Rattle.sp_model.specs.Plans.{multiplier_of}
use Rattle.hedging.proofs.Fitting.{early_fits, priced_small}
use Rattle.hedging.proofs.hedged.early_cost.Goals as goal

pub plus-priced-requires : goal.plus-priced-requires
plus-priced-requires c =
    let run = c.args.run.now in
    let price = multiplier_of run c.args.put.now.multipliers c.args.scenario c.args.column in
    let fc : FitsSigned w128 c.args.cost = c.ranges.cost in
    let fm : FitsSigned w128 c.multiplier.result = search rules in
    let small = priced_small run c.args.put.now.multipliers c.args.scenario c.args.column c.args.cost c.requires.ready.sized c.requires.scenario c.requires.column c.requires.small in
    let h : FitsSigned w128 (c.args.cost +ℤ c.multiplier.result) = rw c.multiplier.ensures (fits_from_abs (c.args.cost +ℤ price) (omega (arith, small))) in
    simp to_z-of_z h

pub twice-requires : goal.twice-requires
twice-requires c =
    let run = c.args.run.now in
    let price = multiplier_of run c.args.put.now.multipliers c.args.scenario c.args.column in
    let fc : FitsSigned w128 c.args.cost = c.ranges.cost in
    let fm : FitsSigned w128 c.multiplier.result = search rules in
    let fp : FitsSigned w128 c.plus-priced.result = search rules in
    let sum : c.plus-priced.result ≡ (c.args.cost +ℤ c.multiplier.result) = simp to_z-of_z at c.plus-priced.ensures in
    let bound : unsigned_abs (c.args.cost +ℤ price) ≤ 2 ^ 123 = omega (arith, priced_small run c.args.put.now.multipliers c.args.scenario c.args.column c.args.cost c.requires.ready.sized c.requires.scenario c.requires.column c.requires.small) in
    let small : unsigned_abs c.plus-priced.result ≤ 2 ^ 123 = rw (sum, c.multiplier.ensures) bound in
    simp to_z-of_z small

pub minus-requires : goal.minus-requires
minus-requires c =
    let run = c.args.run.now in
    let fc : FitsSigned w128 c.args.cost = c.ranges.cost in
    let fm : FitsSigned w128 c.multiplier.result = search rules in
    let fp : FitsSigned w128 c.plus-priced.result = search rules in
    let ft : FitsSigned w128 c.twice.result = search rules in
    let fq : FitsSigned w128 c.pull_at.result = search rules in
    let sum : c.plus-priced.result ≡ (c.args.cost +ℤ c.multiplier.result) = simp to_z-of_z at c.plus-priced.ensures in
    let double : c.twice.result ≡ (pos 2 *ℤ c.plus-priced.result) = simp to_z-of_z at c.twice.ensures in
    let h : FitsSigned w128 (c.twice.result -ℤ c.pull_at.result) = rw (double, sum, c.multiplier.ensures, c.pull_at.ensures) (early_fits run c.args.put.now.multipliers c.args.put.now.x c.args.scenario c.args.column c.args.cost c.requires.ready.sized c.requires.ready.inside c.requires.scenario c.requires.column c.requires.small) in
    simp to_z-of_z h

pub returns : goal.returns
returns c =
    let run = c.args.run.now in
    let price = multiplier_of run c.args.put.now.multipliers c.args.scenario c.args.column in
    let fc : FitsSigned w128 c.args.cost = c.ranges.cost in
    let fm : FitsSigned w128 c.multiplier.result = search rules in
    let fp : FitsSigned w128 c.plus-priced.result = search rules in
    let ft : FitsSigned w128 c.twice.result = search rules in
    let fq : FitsSigned w128 c.pull_at.result = search rules in
    let fd : FitsSigned w128 c.minus.result = search rules in
    let sum : c.plus-priced.result ≡ (c.args.cost +ℤ c.multiplier.result) = simp to_z-of_z at c.plus-priced.ensures in
    let double : c.twice.result ≡ (pos 2 *ℤ c.plus-priced.result) = simp to_z-of_z at c.twice.ensures in
    let less : c.minus.result ≡ (c.twice.result -ℤ c.pull_at.result) = simp to_z-of_z at c.minus.ensures in
    let priced : c.plus-priced.result ≡ (c.args.cost +ℤ price) = sum ∙ ap (λ z. c.args.cost +ℤ z) c.multiplier.ensures in
    simp to_z-of_z
    (less
    ∙ ap (λ z. z -ℤ c.pull_at.result) (double ∙ ap (λ z. pos 2 *ℤ z) priced)
    ∙ ap (λ z. (pos 2 *ℤ (c.args.cost +ℤ price)) -ℤ z) c.pull_at.ensures)
