use Rattle.std.proofs.Common.{arith, ap, sym, ◌∙◌, ◌≡◌, ◌+◌, ◌-◌, ◌*◌, ◌<◌, drop, length}
use Rattle.boxed_problem.specs.Points.{point_count, side_count}
use Rattle.boxed_problem.specs.Sides.{side_at}
use Rattle.boxed_problem.proofs.Optimal.{filled_of}
use Rattle.boxed_problem.proofs.PointCounts.{count_drop, count_drop-le, side_count-le}
use Rattle.boxed_problem.proofs.problem.Boxed.has_few_points.Goals as goal

pub returns-in_default : goal.returns-in_default
returns-in_default c =
    let b = c.args.self.now in
    let j = c.loop-j.j - 1 in
    let short : j < length b.columns = omega (arith, ap length c.as_slice-columns.ensures) in
    let many : 1000000 < side_count (side_at b.columns j) = rw c.as_slice-columns.ensures at c.in_default.ensures in
    let all = side_count-le b.columns j (filled_of b) short in
    (λ h. absurd cc, λ h. absurd (omega (arith, many, all, h)))

pub returns-then-count-gt1000000 : goal.returns-then-count-gt1000000
returns-then-count-gt1000000 c =
    let b = c.args.self.now in
    let j = c.loop-j.j - 1 in
    let short : j < length b.columns = omega (arith, ap length c.as_slice-columns.ensures) in
    let on : c.in-Some.on_side ≡ side_count (side_at b.columns j) = rw c.as_slice-columns.ensures at c.in-Some.ensures.0 in
    let rest : c.loop-j.count ≡ point_count (drop c.loop-j.j b.columns) = rw c.as_slice-columns.ensures at c.loop-j.invariant.count in
    let next : (j + 1) ≡ c.loop-j.j = omega arith in
    let more = count_drop b.columns j short ∙ (ap (λ n. side_count (side_at b.columns j) * point_count (drop n b.columns)) next ∙ (ap (λ n. n * point_count (drop c.loop-j.j b.columns)) (sym on) ∙ ap (λ n. c.in-Some.on_side * n) (sym rest))) in
    let all = count_drop-le b.columns j (filled_of b) in
    (λ h. absurd cc, λ h. absurd (omega (arith, more, all, c.if-count-gt1000000.true, h)))
