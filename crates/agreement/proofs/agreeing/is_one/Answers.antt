use Rattle.std.proofs.Common.{arith, refl, sym, ◌∙◌}
use Rattle.agreement.specs.Agreeing.{IsOneIn}
use Rattle.agreement.proofs.Tests.{one_more}
use Rattle.agreement.proofs.agreeing.is_one.Goals as goal

pub returns-then-not-is_one_in : goal.returns-then-not-is_one_in
returns-then-not-is_one_in c = (λ t. absurd (let x = t in cc), λ all. sym c.if-not-is_one_in.true ∙ c.is_one_in.ensures.1 (all c.loop-column.column c.loop-column-test.true))

pub loop-column-preserved : goal.loop-column-preserved
loop-column-preserved c = one_more (IsOneIn c.args.run.now c.args.x.now c.args.node) c.loop-column.column c.loop-column.invariant (c.is_one_in.ensures.0 c.if-not-is_one_in.false)

pub returns : goal.returns
returns c = (λ t j l. c.loop-column.invariant j (omega (arith, l, c.loop-column-test.false)), λ all. refl)
