use Rattle.std.proofs.Common.{arith, ◌≤◌, ◌+◌}
use Rattle.put_words.specs.Hedged.{hedged_in}
use Rattle.put_words.proofs.Following.{bests_wide}
use Rattle.put_words.proofs.Inside.{hedged_over, put_inside, put_long}
use Rattle.put_words.proofs.Rises.{put_sized}
use Rattle.put_words.proofs.Unpriced.{put_points}
use Rattle.hedging.specs.Hedges.{made_of}
use Rattle.hedging.proofs.hedge.following.Goals as goal

pub next_points-requires-clause-long : goal.next_points-requires-clause-long
next_points-requires-clause-long c = put_long c.args.run.now c.args.hedge.now.put.number (made_of c.args.hedge.now) c.requires.put

pub next_points-requires-clause-sized : goal.next_points-requires-clause-sized
next_points-requires-clause-sized c =
    let run = c.args.run.now in
    let few : c.args.hedge.now.put.number ≤ run.options.iterations + 1 = omega (arith, c.requires.more) in
    put_sized run c.args.hedge.now.put.number (made_of c.args.hedge.now) few c.requires.put

pub next_points-requires-clause-inside : goal.next_points-requires-clause-inside
next_points-requires-clause-inside c = put_inside c.args.run.now c.args.hedge.now.put.number (made_of c.args.hedge.now) c.requires.put

pub next_points-requires-clause-points : goal.next_points-requires-clause-points
next_points-requires-clause-points c = put_points c.args.run.now c.args.hedge.now.put.number (made_of c.args.hedge.now) c.requires.put

pub early_values-requires : goal.early_values-requires
early_values-requires c =
    let run = c.args.run.now in
    let put = c.args.hedge.now.put in
    bests_wide run (hedged_in run put.multipliers put.x) c.in-Ok.points (hedged_over run put.multipliers put.x) c.in-Ok.ensures.ok
