use Rattle.std.proofs.Common.{sym, ◌∙◌}
use Rattle.std.proofs.lemmas.Result.{on_ok_weaker}
use Rattle.schedule_core.proofs.RankAsks.{late_then, rests_now}
use Rattle.schedule_core.proofs.Ranking.{alone_going, alone_polled, alone_wrote, rank_decides, rank_goes_on}
use Rattle.schedule_core.proofs.driver.Driver.rank_step.Goals as goal

pub write-requires-clause-late : goal.write-requires-clause-late
write-requires-clause-late c =
    late_then c.args.run.now c.args.self.now c.requires.driver c.args.rank c.requires.rank c.index.result.now c.index.ensures
    c.has_closed.result c.put.result.now c.put.ensures c.has_closed.ensures c.if-has_closed.false

pub returns-then-has_closed-clause-steps : goal.returns-then-has_closed-clause-steps
returns-then-has_closed-clause-steps c =
    rests_now c.args.run.now c.args.self.now c.requires.driver c.args.rank c.requires.rank c.index.result.now c.index.ensures
    c.has_closed.result c.put.result.now c.put.ensures c.has_closed.ensures c.if-has_closed.true

pub decide-requires-clause-polled : goal.decide-requires-clause-polled
decide-requires-clause-polled c =
    alone_polled c.args.run.now c.args.self.now c.write.new.self c.args.rank c.requires.driver c.write.ensures.driver c.requires.rank
    (late_then c.args.run.now c.args.self.now c.requires.driver c.args.rank c.requires.rank c.index.result.now c.index.ensures
    c.has_closed.result c.put.result.now c.put.ensures c.has_closed.ensures c.if-has_closed.false)
    c.write.ensures.writes (sym c.is_alone.ensures ∙ c.if-is_alone.true)

pub decide-requires-clause-going : goal.decide-requires-clause-going
decide-requires-clause-going c =
    alone_going c.args.run.now c.args.self.now c.write.new.self c.args.rank c.requires.driver c.write.ensures.driver c.requires.rank
    (late_then c.args.run.now c.args.self.now c.requires.driver c.args.rank c.requires.rank c.index.result.now c.index.ensures
    c.has_closed.result c.put.result.now c.put.ensures c.has_closed.ensures c.if-has_closed.false)
    c.write.ensures.writes

pub decide-requires-clause-written : goal.decide-requires-clause-written
decide-requires-clause-written c =
    alone_wrote c.args.run.now c.args.self.now c.write.new.self c.args.rank c.requires.driver c.write.ensures.driver c.requires.rank
    (late_then c.args.run.now c.args.self.now c.requires.driver c.args.rank c.requires.rank c.index.result.now c.index.ensures
    c.has_closed.result c.put.result.now c.put.ensures c.has_closed.ensures c.if-has_closed.false)
    c.write.ensures.writes (sym c.is_alone.ensures ∙ c.if-is_alone.true)

pub returns-then-is_alone-clause-steps : goal.returns-then-is_alone-clause-steps
returns-then-is_alone-clause-steps c =
    on_ok_weaker c.decide.result
    (rank_decides c.args.run.now c.args.self.now c.write.new.self c.args.rank c.requires.driver c.write.ensures.driver c.requires.rank
    (late_then c.args.run.now c.args.self.now c.requires.driver c.args.rank c.requires.rank c.index.result.now c.index.ensures
    c.has_closed.result c.put.result.now c.put.ensures c.has_closed.ensures c.if-has_closed.false)
    c.write.ensures.writes (sym c.is_alone.ensures ∙ c.if-is_alone.true) c.decide.new.self)
    c.decide.ensures.decides

pub returns-clause-steps : goal.returns-clause-steps
returns-clause-steps c =
    rank_goes_on c.args.run.now c.args.self.now c.write.new.self c.args.rank c.requires.driver c.write.ensures.driver c.requires.rank
    (late_then c.args.run.now c.args.self.now c.requires.driver c.args.rank c.requires.rank c.index.result.now c.index.ensures
    c.has_closed.result c.put.result.now c.put.ensures c.has_closed.ensures c.if-has_closed.false)
    c.write.ensures.writes (sym c.is_alone.ensures ∙ c.if-is_alone.false)
