use Rattle.std.proofs.Common.{◌≡◌, subst, List}
use Rattle.std.specs.List.{All}
use Rattle.lagrangian_spoke.specs.declared.spoke.LagrangianSpoke.{LagrangianSpoke}
use Rattle.lagrangian_spoke.specs.declared.spoke.Phase.TheVariants.{Ended}
use Rattle.schedule_core.proofs.Resting.{at_rest}
use Rattle.schedule_core.proofs.driver.Driver.is_at_rest.Goals as goal

pub returns-then-self : goal.returns-then-self
returns-then-self c = λ is. at_rest c.args.run.now c.args.self.now c.requires.driver c.if-self.true
    (subst (λ (xs : List LagrangianSpoke). All (λ (s : LagrangianSpoke). s.phase ≡ Ended) xs) c.as_slice.ensures.value (c.have_ended.ensures.0 is))
