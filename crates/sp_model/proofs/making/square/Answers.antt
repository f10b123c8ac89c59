use Rattle.std.proofs.Common.{ap, sym, ◌∙◌, ◌++◌, ◌∷◌, [], pos}
use Rattle.std.proofs.lemmas.List.{map_more}
use Rattle.sp_model.proofs.making.square.Goals as goal

pub loop-cost-preserved : goal.loop-cost-preserved
loop-cost-preserved c =
    c.in_ok-push.ensures.ok
    ∙ (ap (λ front. front ++ pos 0 ∷ []) c.loop-cost.invariant
    ∙ sym (map_more (λ cost. pos 0) c.args.costs.now c.loop-cost._cost-index (pos 0) c.loop-cost-test.true))
