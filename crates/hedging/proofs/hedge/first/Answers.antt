use Rattle.std.proofs.Common.{rules, FitsSigned, refl, sym, ap, subst, ◌∙◌, ◌≡◌, ◌+◌, ℕ, List, ℤ, Some}
use Rattle.std.proofs.lemmas.Int.{to_z-of_z}
use Rattle.std.specs.Int.{w128}
use Rattle.run_calls.specs.MultiplierTests.{AreLong, AreSized}
use Rattle.sp_model.specs.Problems.{problem_in}
use Rattle.sp_model.specs.declared.plan.Multipliers.{Multipliers}
use Rattle.put_words.specs.NextMultipliers.{no_multipliers}
use Rattle.put_words.specs.NodeSums.{AreInside}
use Rattle.put_words.specs.Puts.{made_from}
use Rattle.put_words.proofs.Following.{bests_inside, bests_wide, nothing_long, nothing_sized, put_first}
use Rattle.hedging.proofs.hedge.first.Goals as goal

pub early_values-requires : goal.early_values-requires
early_values-requires c = bests_wide c.args.run.now (problem_in c.args.run.now) c.in-Ok.solved.points (λ s. refl) c.in-Ok.ensures.points

pub advance-requires-clause-long : goal.advance-requires-clause-long
advance-requires-clause-long c = subst (λ (m : Multipliers). AreLong c.args.run.now m) (sym (c.unmoved-hedge.ensures.multipliers ∙ c.in-Ok-no_multipliers.ensures)) (nothing_long c.args.run.now)

pub advance-requires-clause-sized : goal.advance-requires-clause-sized
advance-requires-clause-sized c = subst (λ (m : Multipliers). AreSized c.args.run.now m) (sym (c.unmoved-hedge.ensures.multipliers ∙ c.in-Ok-no_multipliers.ensures)) (nothing_sized c.args.run.now)

pub advance-requires-clause-inside : goal.advance-requires-clause-inside
advance-requires-clause-inside c = subst (λ (x : List ℤ). AreInside c.args.run.now x) (sym c.in-Ok-early_values.ensures) (bests_inside c.args.run.now (problem_in c.args.run.now) c.in-Ok.solved.points (λ s. refl) c.in-Ok.ensures.points)

pub returns-clause-ok : goal.returns-clause-ok
returns-clause-ok c =
    let run = c.args.run.now in
    let points = c.in-Ok.solved.points in
    let nothing : c.unmoved-hedge.result.put.multipliers ≡ no_multipliers run = c.unmoved-hedge.ensures.multipliers ∙ c.in-Ok-no_multipliers.ensures in
    let put = put_first run points c.in-Ok.ensures.points in
    let made = c.advance.ensures.made ∙ ap (λ (n : ℕ). made_from run (n + 1) c.unmoved-hedge.result.put.multipliers points) c.unmoved-hedge.ensures.number ∙ ap (λ (m : Multipliers). made_from run 1 m points) nothing in
    let fb : FitsSigned w128 c.in-Ok.solved.bound = search rules in
    let kept : c.unmoved-hedge.result.bound ≡ c.in-Ok.solved.bound = simp to_z-of_z at c.unmoved-hedge.ensures.bound in
    (put ∙ ap Some (sym made), c.in-Ok.ensures.bound ∙ ap Some (sym (c.advance.ensures.bound ∙ kept)))
