use Rattle.std.proofs.Common.{rules, ◌≡◌, [], ◌∷◌, ◌++◌, FitsSigned}
use Rattle.std.proofs.lemmas.Int.{to_z-of_z}
use Rattle.std.specs.Int.{w128}
use Rattle.base_words.proofs.Made.{map_next}
use Rattle.put_words.specs.Hedged.{hedged_square}
use Rattle.hedging.proofs.hedged.penalties.Goals as goal

pub loop-column-preserved : goal.loop-column-preserved
loop-column-preserved c =
    let fv : FitsSigned w128 c.penalty.result = search rules in
    let pushed : c.push.new.self ≡ c.loop-column.square ++ c.penalty.result ∷ [] = simp to_z-of_z at c.in_ok-push.ensures.ok in
    map_next (hedged_square c.args.run.now c.args.scenario) c.loop-column.column c.loop-column.square c.push.new.self c.penalty.result pushed c.penalty.ensures c.loop-column.invariant
