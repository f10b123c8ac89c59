use Rattle.std.proofs.Common.{arith, ap, ◌∙◌, length, get_or, take, pos}
use Rattle.sp_model.specs.RunFacts.{is_change}
use Rattle.sp_model.specs.declared.program.Change.TheVariants.{Cost}
use Rattle.reach_core.proofs.ScenarioSums.{rest_long}
use Rattle.reach_core.proofs.scenario_rows.rest.Goals as goal

pub take-requires-clause-there : goal.take-requires-clause-there
take-requires-clause-there c =
    let k = c.loop-change.change-index in
    let changes = c.args.changes.now in
    let no_change = Cost 0 (pos 0) in
    let long = ap length c.loop-change.invariant ∙ rest_long c.args.program.now (take k changes) c.args.sums.now in
    ap (λ n. is_change n (length c.args.program.now.columns) (get_or changes k no_change)) long ∙ c.requires.there k no_change (omega arith)
