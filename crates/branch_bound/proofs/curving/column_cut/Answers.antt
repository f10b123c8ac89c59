use Rattle.std.proofs.Common.{arith, ◌≡◌, ◌≤ℤ◌, pos}
use Rattle.std.proofs.lemmas.Int.{ints, to_z-of_z}
use Rattle.std.specs.Int.{w128}
use Rattle.branch_bound.proofs.CurveCuts.{line_keeps, slack_self}
use Rattle.branch_bound.proofs.curving.column_cut.Goals as goal

pub returns-then-square-gt0 : goal.returns-then-square-gt0
returns-then-square-gt0 c =
    let filled : c.args.side.lower ≤ℤ c.args.side.upper = omega (arith, ints, c.requires.wide) in
    slack_self c.args.line c.args.square c.args.side c.args.slack filled

pub returns-else-square-gt0 : goal.returns-else-square-gt0
returns-else-square-gt0 c =
    let fl = c.ranges.line in
    let fq = c.ranges.square in
    let fk = c.ranges.slack in
    let none : c.args.square ≡ pos 0 = omega (arith, ints, c.if-square-gt0.false, c.requires.convex, to_z-of_z w128 c.args.square fq) in
    let filled : c.args.side.lower ≤ℤ c.args.side.upper = omega (arith, ints, c.requires.wide) in
    let keeps = simp to_z-of_z at c.cut_above.ensures in
    line_keeps c.args.line c.args.square c.args.side c.args.slack c.cut_above.result filled none keeps
