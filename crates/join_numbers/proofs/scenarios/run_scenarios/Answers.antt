use Rattle.std.proofs.Common.{arith, refl, ◌<◌, length, map}
use Rattle.std.specs.List.{Any}
use Rattle.std.proofs.lemmas.Result.{err_from_is_err_and}
use Rattle.join_words.specs.Parts.{parts_of}
use Rattle.join_words.specs.RunOf.{scenario_of}
use Rattle.join_numbers.specs.UnfitNumbers.{IsLargeScenario}
use Rattle.join_numbers.proofs.Turns.{any_mapped, by_unfit, list_next}
use Rattle.join_numbers.proofs.scenarios.run_scenarios.Goals as goal

pub returns-in_err-push-clause-err : goal.returns-in_err-push-clause-err
returns-in_err-push-clause-err c =
    let f = scenario_of (parts_of c.args.core.now) c.args.frame.now in
    let es = c.args.listed.now in
    let k = c.loop-one.one-index in
    let e = c.one-item.result in
    let lt : k < length es = omega arith in
    let p = err_from_is_err_and c.from_residual.result c.from_residual.ensures.1 in
    rw (p.1, p.2) (by_unfit (IsLargeScenario (f e)) (Any IsLargeScenario (map f es)) c.in_err-push.field-0.0 (any_mapped IsLargeScenario f es k e lt c.one-item.is) c.in_err-push.ensures.err)

pub loop-one-preserved : goal.loop-one-preserved
loop-one-preserved c =
    let f = scenario_of (parts_of c.args.core.now) c.args.frame.now in
    let es = c.args.listed.now in
    let k = c.loop-one.one-index in
    let e = c.one-item.result in
    let lt : k < length es = omega arith in
    list_next f es k c.loop-one.scenarios c.push.new.scenarios e (f e) lt c.one-item.is c.in_ok-push.ensures.ok refl c.loop-one.invariant
