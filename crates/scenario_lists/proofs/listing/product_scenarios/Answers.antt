use Rattle.std.proofs.Common.{arith, ap, ℕ}
use Rattle.base_words.proofs.Made.{next_made}
use Rattle.scenario_lists.specs.Live.{entry_count, live_scenario}
use Rattle.scenario_lists.specs.ScenarioList.{product_scenario_at}
use Rattle.scenario_lists.specs.declared.data.ScenarioData.{ScenarioData}
use Rattle.scenario_lists.proofs.Staying.{count_push, product_more}
use Rattle.scenario_lists.proofs.listing.product_scenarios.Goals as goal

pub returns-then-left-entries-clause-err : goal.returns-then-left-entries-clause-err
returns-then-left-entries-clause-err c =
    let known = c.loop-number.invariant in
    product_more c.args.live.now c.args.elements.now c.loop-number.number c.loop-number.left c.args.limit c.loop-number.made c.in_ok-next.next (omega (arith, c.requires)) known.made c.in_ok-next.ensures known.room (omega (arith, c.len-entries.ensures))

pub loop-number-preserved : goal.loop-number-preserved
loop-number-preserved c =
    let s = c.loop-number.number in
    let f : ℕ → ScenarioData = λ k. live_scenario c.args.live.now (product_scenario_at c.args.elements.now k) in
    let made = c.loop-number.made in
    let known = c.loop-number.invariant in
    let pushed = c.in_ok-push.ensures.ok in
    record {
      made = next_made f 0 s s made c.push.new.self c.in_ok-next.next (omega arith) pushed c.in_ok-next.ensures known.made;
      room = omega (arith, c.len-entries.ensures, ap entry_count pushed, count_push made c.in_ok-next.next, known.room);
    }
