use Rattle.std.proofs.Common.{arith, ap, ◌∙◌, length, get_or, take, pos}
use Rattle.sp_model.specs.RunFacts.{is_change}
use Rattle.sp_model.specs.declared.program.Change.TheVariants.{Cost}
use Rattle.reach_core.proofs.ScenarioSums.{given_long}
use Rattle.reach_core.proofs.scenario_rows.give_all.Goals as goal

pub give-requires : goal.give-requires
give-requires c =
    let k = c.loop-change.change-index in
    let changes = c.args.changes.now in
    let no_change = Cost 0 (pos 0) in
    let long = ap length c.loop-change.invariant ∙ given_long c.args.program.now (take k changes) c.args.sums.now.items in
    ap (λ n. is_change n (length c.args.program.now.columns) (get_or changes k no_change)) long ∙ c.requires k no_change (omega arith)
