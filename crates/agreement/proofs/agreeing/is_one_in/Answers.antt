use Rattle.std.proofs.Common.{sym, ◌∙◌}
use Rattle.agreement.proofs.Tests.{other_stage, own_stage}
use Rattle.agreement.proofs.agreeing.is_one_in.Goals as goal

pub returns-then-not-is_of_stage : goal.returns-then-not-is_of_stage
returns-then-not-is_of_stage c = other_stage c.args.run.now c.args.x.now c.args.node c.args.column (sym c.is_of_stage.ensures ∙ c.if-not-is_of_stage.true)

pub returns : goal.returns
returns c = own_stage c.args.run.now c.args.x.now c.args.node c.args.column c.are_one.result (sym c.is_of_stage.ensures ∙ c.if-not-is_of_stage.false) c.are_one.ensures
