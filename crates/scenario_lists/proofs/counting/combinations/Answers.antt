use Rattle.std.proofs.Common.{arith, ◌<◌, ◌+◌, ◌*◌, ◌∙◌, sym, ap, min, drop, length}
use Rattle.stoch_lines.specs.Faults.{max_scenarios}
use Rattle.scenario_lists.specs.Combinations.{combinations, realisations_at}
use Rattle.capped_num.proofs.Capping.{cap_turn}
use Rattle.scenario_lists.proofs.Digits.{all_counted, combinations_next}
use Rattle.scenario_lists.proofs.counting.combinations.Goals as goal

pub loop-k-preserved : goal.loop-k-preserved
loop-k-preserved c =
    let es = c.args.elements.now in
    let k = c.loop-k.k in
    let count = c.loop-k.count in
    let limit = max_scenarios + 1 in
    let lt : k < length es = omega arith in
    let n = length (realisations_at es k) in
    let m = combinations (drop (k + 1) es) in
    let turned = cap_turn (combinations es) count n m limit (c.loop-k.invariant.count ∙ ap (λ p. min (count * p) limit) (combinations_next es k lt)) in
    let made = c.limited_product-count.ensures ∙ ap (λ l. min (count * l) limit) (ap length c.realisations_at.ensures) in
    record { count = turned ∙ ap (λ a. min (a * m) limit) (sym made); small = omega (arith, made) }

pub returns : goal.returns
returns c =
    let es = c.args.elements.now in
    let k = c.loop-k.k in
    let last = all_counted es k (omega arith) in
    let e = c.loop-k.invariant.count ∙ ap (λ p. min (c.loop-k.count * p) (max_scenarios + 1)) last in
    omega (arith, e, c.loop-k.invariant.small)
