use Rattle.std.proofs.Common.{arith, sym, ap, subst, ◌∙◌, ◌≤◌, ◌+◌, List, ℤ, Some}
use Rattle.put_words.specs.Hedged.{hedged_in}
use Rattle.put_words.specs.NodeSums.{AreInside}
use Rattle.put_words.specs.Puts.{Made, put_of}
use Rattle.put_words.proofs.Following.{bests_inside, put_next}
use Rattle.put_words.proofs.Inside.{hedged_over, put_long}
use Rattle.put_words.proofs.Rises.{put_sized}
use Rattle.hedging.specs.Hedges.{made_of}
use Rattle.hedging.proofs.hedge.next.Goals as goal

pub advance-requires-clause-long : goal.advance-requires-clause-long
advance-requires-clause-long c = put_long c.args.run.now c.args.hedge.now.put.number (made_of c.args.hedge.now) c.requires.put

pub advance-requires-clause-sized : goal.advance-requires-clause-sized
advance-requires-clause-sized c =
    let run = c.args.run.now in
    let few : c.args.hedge.now.put.number ≤ run.options.iterations + 1 = omega (arith, c.requires.more) in
    put_sized run c.args.hedge.now.put.number (made_of c.args.hedge.now) few c.requires.put

pub advance-requires-clause-inside : goal.advance-requires-clause-inside
advance-requires-clause-inside c =
    let run = c.args.run.now in
    let put = c.args.hedge.now.put in
    subst (λ (x : List ℤ). AreInside run x) (sym c.in-Ok.ensures.values) (bests_inside run (hedged_in run put.multipliers put.x) c.in-Ok.field-0.points (hedged_over run put.multipliers put.x) c.in-Ok.ensures.points)

pub returns-in-Ok-clause-put : goal.returns-in-Ok-clause-put
returns-in-Ok-clause-put c =
    let run = c.args.run.now in
    let made = put_next run c.args.hedge.now.put.number (made_of c.args.hedge.now) c.in-Ok.field-0.points c.requires.put c.in-Ok.ensures.points ∙ ap Some (sym c.advance.ensures.made) in
    ap (λ n. put_of run n) (ap (λ (m : Made). m.put.number) c.advance.ensures.made) ∙ made

pub returns-in-Ok-clause-number : goal.returns-in-Ok-clause-number
returns-in-Ok-clause-number c = ap (λ (m : Made). m.put.number) c.advance.ensures.made
