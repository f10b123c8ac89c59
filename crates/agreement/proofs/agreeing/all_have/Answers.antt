use Rattle.std.proofs.Common.{arith, refl, sym, ap, ◌∙◌, ◌≡◌, ℕ, get_or}
use Rattle.std.proofs.lemmas.List.{get_or_default}
use Rattle.put_words.specs.NodeSums.{value_at}
use Rattle.agreement.proofs.Tests.{one_more}
use Rattle.agreement.proofs.agreeing.all_have.Goals as goal

pub returns-then-not-have_same : goal.returns-then-not-have_same
returns-then-not-have_same c = (λ t. absurd (let x = t in cc), λ all. sym c.if-not-have_same.true ∙ c.have_same.ensures.1 (all c.loop-scenario.scenario-index 0 c.loop-scenario-test.true))

pub loop-scenario-preserved : goal.loop-scenario-preserved
loop-scenario-preserved c = λ k d l.
    let run = c.args.run.now in let x = c.args.x.now in let items = c.args.items.now in let n = c.loop-scenario.scenario-index in
    one_more (λ i. (e : ℕ) → value_at run x (get_or items i e) c.args.column ≡ value_at run x c.args.other c.args.column) n
    (λ i m e. c.loop-scenario.invariant i e m)
    (λ e. ap (λ s. value_at run x s c.args.column) (get_or_default items n e 0 c.loop-scenario-test.true) ∙ c.have_same.ensures.0 c.if-not-have_same.false) k l d

pub returns : goal.returns
returns c = (λ t k d l. c.loop-scenario.invariant k d (omega (arith, l, c.loop-scenario-test.false)), λ all. refl)
