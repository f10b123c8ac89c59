use Rattle.std.proofs.Common.{rules, arith, ◌≡◌, refl, unsigned_abs, FitsSigned}
use Rattle.std.proofs.lemmas.Int.{to_z-of_z}
use Rattle.std.specs.Int.{w128}
use Rattle.run_calls.proofs.MostBounds.{early_column, part_small, rate_small, step_small}
use Rattle.run_calls.proofs.multiplying.step.Goals as goal

pub overflow_mul-rate-2 : goal.overflow_mul-rate-2
overflow_mul-rate-2 c =
    let run = c.args.run.now in
    let fr : FitsSigned w128 run.options.rho = search rules in
    let ft : FitsSigned w128 run.total = search rules in
    let rho : c.unsigned_abs.result ≡ unsigned_abs run.options.rho = simp to_z-of_z at c.unsigned_abs.ensures.value in
    let total : c.unsigned_abs-2.result ≡ unsigned_abs run.total = simp to_z-of_z at c.unsigned_abs-2.ensures.value in
    record { fits = rw (rho, total) (omega (arith, rate_small run)) }

pub box_size-requires : goal.box_size-requires
box_size-requires c = early_column c.args.run.now c.args.column c.requires

pub overflow_mul-result : goal.overflow_mul-result
overflow_mul-result c =
    let run = c.args.run.now in
    let fr : FitsSigned w128 run.options.rho = search rules in
    let ft : FitsSigned w128 run.total = search rules in
    let rho : c.unsigned_abs.result ≡ unsigned_abs run.options.rho = simp to_z-of_z at c.unsigned_abs.ensures.value in
    let total : c.unsigned_abs-2.result ≡ unsigned_abs run.total = simp to_z-of_z at c.unsigned_abs-2.ensures.value in
    record { fits = rw (rho, total, c.box_size.ensures) (omega (arith, part_small run c.args.column (early_column run c.args.column c.requires))) }

pub overflow_add-result : goal.overflow_add-result
overflow_add-result c =
    let run = c.args.run.now in
    let fr : FitsSigned w128 run.options.rho = search rules in
    let ft : FitsSigned w128 run.total = search rules in
    let rho : c.unsigned_abs.result ≡ unsigned_abs run.options.rho = simp to_z-of_z at c.unsigned_abs.ensures.value in
    let total : c.unsigned_abs-2.result ≡ unsigned_abs run.total = simp to_z-of_z at c.unsigned_abs-2.ensures.value in
    record { fits = rw (rho, total, c.box_size.ensures, c.len.ensures) (omega (arith, step_small run c.args.column (early_column run c.args.column c.requires))) }

pub returns : goal.returns
returns c =
    let run = c.args.run.now in
    let fr : FitsSigned w128 run.options.rho = search rules in
    let ft : FitsSigned w128 run.total = search rules in
    let rho : c.unsigned_abs.result ≡ unsigned_abs run.options.rho = simp to_z-of_z at c.unsigned_abs.ensures.value in
    let total : c.unsigned_abs-2.result ≡ unsigned_abs run.total = simp to_z-of_z at c.unsigned_abs-2.ensures.value in
    rw (rho, total, c.box_size.ensures, c.len.ensures) refl
