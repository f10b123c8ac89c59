use Rattle.std.proofs.Common.{arith, ◌≡◌, ◌*◌, ◌^◌, ◌≤◌, Some, ◌-ℤ◌, unsigned_abs, FitsSigned, rules}
use Rattle.std.proofs.lemmas.Int.{to_z-of_z}
use Rattle.std.specs.Int.{w128}
use Rattle.boxed_problem.specs.BoxedFacts.{entry_at, limits_at}
use Rattle.boxed_problem.specs.Sides.{reach, side_at}
use Rattle.propagate.specs.Tightening.{KeepsAbove}
use Rattle.propagate.proofs.TightLaws.{cut_self, cut_is_above, upper_slack, upper_slack_fits}
use Rattle.propagate.proofs.limits.below_limit.Goals as goal

pub overflow_sub-upper : goal.overflow_sub-upper
overflow_sub-upper c =
    let rows = c.args.rows.now in
    let entries = c.args.entries.now in
    let e = entry_at entries c.args.place in
    let h = c.requires.ready in
    let lim : (limits_at rows e.row).upper ≡ Some c.in-Some.upper = c.in-Some.is in
    let fu : FitsSigned w128 c.in-Some.upper = search rules in
    let fr : FitsSigned w128 c.args.range.low = search rules in
    let fits = upper_slack_fits rows e.row c.args.range.low c.in-Some.upper h.limits_small h.low_small lim in
    simp to_z-of_z fits

pub cut_above-requires-clause-fits : goal.cut_above-requires-clause-fits
cut_above-requires-clause-fits c =
    let rows = c.args.rows.now in
    let entries = c.args.entries.now in
    let e = entry_at entries c.args.place in
    let h = c.requires.ready in
    let lim : (limits_at rows e.row).upper ≡ Some c.in-Some.upper = c.in-Some.is in
    let fu : FitsSigned w128 c.in-Some.upper = search rules in
    let fr : FitsSigned w128 c.args.range.low = search rules in
    let fv : FitsSigned w128 e.value = search rules in
    let fits = upper_slack_fits rows e.row c.args.range.low c.in-Some.upper h.limits_small h.low_small lim in
    let small : unsigned_abs e.value * reach (side_at c.args.sides.now e.column) ≤ 2 ^ 125 = omega (arith, h.entry_small) in
    simp to_z-of_z small

pub cut_above-requires-clause-slack : goal.cut_above-requires-clause-slack
cut_above-requires-clause-slack c =
    let rows = c.args.rows.now in
    let entries = c.args.entries.now in
    let e = entry_at entries c.args.place in
    let h = c.requires.ready in
    let lim : (limits_at rows e.row).upper ≡ Some c.in-Some.upper = c.in-Some.is in
    let fu : FitsSigned w128 c.in-Some.upper = search rules in
    let fr : FitsSigned w128 c.args.range.low = search rules in
    let fv : FitsSigned w128 e.value = search rules in
    let fits = upper_slack_fits rows e.row c.args.range.low c.in-Some.upper h.limits_small h.low_small lim in
    simp to_z-of_z (upper_slack rows e.row c.args.range.low c.args.range.high c.in-Some.upper lim h.not_missed)

pub returns : goal.returns
returns c =
    let rows = c.args.rows.now in
    let entries = c.args.entries.now in
    let e = entry_at entries c.args.place in
    let h = c.requires.ready in
    let lim : (limits_at rows e.row).upper ≡ Some c.in-Some.upper = c.in-Some.is in
    let fu : FitsSigned w128 c.in-Some.upper = search rules in
    let fr : FitsSigned w128 c.args.range.low = search rules in
    let fv : FitsSigned w128 e.value = search rules in
    let fits = upper_slack_fits rows e.row c.args.range.low c.in-Some.upper h.limits_small h.low_small lim in
    let keeps : KeepsAbove e.value (side_at c.args.sides.now e.column) (c.in-Some.upper -ℤ c.args.range.low) c.cut_above.result = simp to_z-of_z at c.cut_above.ensures in
    cut_is_above rows entries c.args.sides.now c.args.range.low c.args.place c.in-Some.upper c.cut_above.result c.requires.place h.row h.column h.low lim keeps

pub returns-then-side : goal.returns-then-side
returns-then-side c = cut_self c.args.rows.now c.args.entries.now c.args.sides.now (entry_at c.args.entries.now c.args.place).column c.requires.ready.column c.requires.ready.filled
