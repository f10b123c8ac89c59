use Rattle.std.proofs.Common.{arith, ap, ◌∙◌, ◌≡◌, List, get_or}
use Rattle.smps_stoch.specs.declared.stoch.Branch.{Branch}
use Rattle.scenario_lists.proofs.Staying.{branch_more}
use Rattle.scenario_lists.proofs.branches.branch_scenarios.Goals as goal

pub returns-then-left-count-clause-err : goal.returns-then-left-count-clause-err
returns-then-left-count-clause-err c =
    let bs = c.args.branches.now in
    let k = c.loop-k.k in
    let branch = c.index-as_slice-k.result in
    let at : branch ≡ get_or bs k branch = c.index-as_slice-k.is ∙ ap (λ (l : List Branch). get_or l k branch) c.as_slice.ensures in
    let known = c.loop-k.invariant in
    branch_more c.args.live.now bs k c.loop-k.left c.args.limit c.loop-k.made branch c.in_ok-next.next (omega arith) at known.made c.in_ok-next.ensures known.room (omega (arith, c.len-count.ensures))
