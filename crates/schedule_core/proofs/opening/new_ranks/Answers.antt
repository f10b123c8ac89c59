use Rattle.std.proofs.Common.{arith, ap}
use Rattle.base_words.proofs.Made.{map_next}
use Rattle.drive_words.specs.Worlds.{new_rank}
use Rattle.put_codec.specs.declared.layout.Layout.{Layout}
use Rattle.schedule_core.proofs.NewCrew.{new_rank_is}
use Rattle.schedule_core.proofs.OneMeaning.{layout_of_run}
use Rattle.schedule_core.proofs.opening.new_ranks.Goals as goal

pub new-requires : goal.new-requires
new-requires c =
    let same = ap (λ (z : Layout). z.ranks) (layout_of_run c.args.of.now c.args.run.now c.requires) in
    omega (arith, c.loop-rank-test.true, same)

pub loop-rank-preserved : goal.loop-rank-preserved
loop-rank-preserved c =
    map_next (new_rank c.args.run.now) c.loop-rank.rank c.loop-rank.ranks.items c.push.new.self.items c.new.result c.in_ok-push.ensures.items
    (new_rank_is c.args.run.now c.args.of.now.layout c.loop-rank.rank c.new.result (layout_of_run c.args.of.now c.args.run.now c.requires) c.new.ensures.fresh) c.loop-rank.invariant
