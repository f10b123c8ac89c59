use Rattle.std.proofs.Common.{rules, arith, sym, ap, ◌∙◌, ◌+◌, ◌≡◌, ◌<◌, ◌≤◌, List, length, to_z, ◌+ℤ◌, pos, FitsSigned}
use Rattle.std.proofs.lemmas.Int.{to_z-of_z}
use Rattle.std.proofs.lemmas.List.{take_all}
use Rattle.std.specs.Int.{w128}
use Rattle.base_words.specs.ListSums.{sum_z}
use Rattle.boxed_problem.specs.Rows.{activity}
use Rattle.sp_model.specs.Changes.{core_data}
use Rattle.sp_model.specs.Problems.{scenario_at}
use Rattle.sp_model.specs.declared.program.Change.{Change}
use Rattle.sp_model.specs.declared.program.Change.TheVariants.{Cost}
use Rattle.plan_calls.specs.Moves.{move_of}
use Rattle.plan_calls.proofs.ActivityBounds.{change_small, moved_fits, moved_next}
use Rattle.plan_calls.proofs.EntryMoves.{activity_moves}
use Rattle.plan_calls.proofs.activities.activity.Goals as goal

pub change_move-requires : goal.change_move-requires
change_move-requires c =
    let run = c.args.run.now in
    let s = c.args.scenario in
    let there : c.loop-change.change-index < length (scenario_at run s).changes = omega (arith, c.loop-change-test.true, ap length c.changes-change-items.ensures) in
    rw c.changes-change-items.ensures (change_small run s c.args.row c.loop-change.change-index c.args.point.now (Cost 0 (pos 0)) c.requires.scenario c.requires.row c.requires.inside there)

pub plus-sum-requires : goal.plus-sum-requires
plus-sum-requires c =
    let run = c.args.run.now in
    let s = c.args.scenario in
    let x = c.args.point.now in
    let k = c.loop-change.change-index in
    let cs = (scenario_at run s).changes in
    let there : k < length cs = omega (arith, c.loop-change-test.true, ap length c.changes-change-items.ensures) in
    let fm : FitsSigned w128 c.change_move.result = search rules in
    let move = rw c.changes-change-items.ensures at c.change_move.ensures in
    let next = moved_next (move_of (core_data run.program) x c.args.row) cs k (Cost 0 (pos 0)) (activity run.program.entries x c.args.row) (to_z w128 c.loop-change.sum-bits) c.change_move.result there c.loop-change.invariant move in
    simp to_z-of_z (rw next (moved_fits run s c.args.row (k + 1) x c.requires.scenario c.requires.row c.requires.inside (omega (arith, there))))

pub loop-change-preserved : goal.loop-change-preserved
loop-change-preserved c =
    let run = c.args.run.now in
    let s = c.args.scenario in
    let x = c.args.point.now in
    let k = c.loop-change.change-index in
    let cs = (scenario_at run s).changes in
    let there : k < length cs = omega (arith, c.loop-change-test.true, ap length c.changes-change-items.ensures) in
    let fm : FitsSigned w128 c.change_move.result = search rules in
    let fp : FitsSigned w128 c.plus-sum.result = search rules in
    let move = rw c.changes-change-items.ensures at c.change_move.ensures in
    let whole : c.plus-sum.result ≡ (to_z w128 c.loop-change.sum-bits +ℤ c.change_move.result) = simp to_z-of_z at c.plus-sum.ensures in
    let next = moved_next (move_of (core_data run.program) x c.args.row) cs k (Cost 0 (pos 0)) (activity run.program.entries x c.args.row) (to_z w128 c.loop-change.sum-bits) c.change_move.result there c.loop-change.invariant move in
    simp to_z-of_z (whole ∙ next)

pub returns : goal.returns
returns c =
    let run = c.args.run.now in
    let s = c.args.scenario in
    let x = c.args.point.now in
    let cs = (scenario_at run s).changes in
    let f = move_of (core_data run.program) x c.args.row in
    let end : length cs ≤ c.loop-change.change-index = omega (arith, c.loop-change-test.false, ap length c.changes-change-items.ensures) in
    c.loop-change.invariant
    ∙ ap (λ (l : List Change). activity run.program.entries x c.args.row +ℤ sum_z f l) (take_all c.loop-change.change-index cs end)
    ∙ sym (activity_moves run s c.args.row x c.requires.scenario)
