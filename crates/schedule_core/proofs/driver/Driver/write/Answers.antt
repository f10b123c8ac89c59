use Rattle.std.proofs.Common.{refl, sym, subst}
use Rattle.std.specs.Vec.{with_item}
use Rattle.hub_cylinder.specs.Hubs.{IsHub}
use Rattle.sp_model.specs.declared.run.Run.{Run}
use Rattle.schedule_core.proofs.RankAsks.{late_now, late_there, put_present, rank_found, stands_now}
use Rattle.schedule_core.proofs.RankWrites.{call_keeps, told_call_keeps}
use Rattle.schedule_core.proofs.Ranking.{still_going}
use Rattle.schedule_core.proofs.driver.Driver.write.Goals as goal

pub write_at-requires-clause-put : goal.write_at-requires-clause-put
write_at-requires-clause-put c = put_present c.args.run.now c.args.self.now c.requires.driver c.args.rank c.requires.rank

pub write_at-requires-clause-late : goal.write_at-requires-clause-late
write_at-requires-clause-late c = late_now c.args.run.now c.args.self.now c.requires.driver c.args.rank c.requires.rank c.index_mut.result.now c.index_mut.ensures.value c.requires.late

pub write_at-requires-clause-stands : goal.write_at-requires-clause-stands
write_at-requires-clause-stands c = stands_now c.args.run.now c.args.self.now c.requires.driver c.args.rank c.requires.rank c.index_mut.result.now c.index_mut.ensures.value

pub wrote-requires-clause-hub : goal.wrote-requires-clause-hub
wrote-requires-clause-hub c = subst (λ (r : Run). IsHub r c.args.self.now.hub) (sym c.requires.driver.hub.of) c.requires.driver.hub

pub wrote-requires-clause-going : goal.wrote-requires-clause-going
wrote-requires-clause-going c =
    still_going c.args.run.now c.args.self.now c.requires.driver c.args.rank c.index_mut.result.now
    (rank_found c.args.run.now c.args.self.now c.requires.driver c.args.rank c.requires.rank c.index_mut.result.now c.index_mut.ensures.value)
    (late_there c.args.run.now c.args.self.now c.requires.driver c.args.rank c.requires.rank c.index_mut.result.now c.index_mut.ensures.value c.requires.late)

pub returns-then-not-have_closed-clause-driver : goal.returns-then-not-have_closed-clause-driver
returns-then-not-have_closed-clause-driver c =
    call_keeps c.args.run.now c.args.self.now c.requires.driver c.args.rank c.requires.rank c.index_mut.result.now c.index_mut.ensures.value c.requires.late
    c.write_at.new.board c.write_at.new.writer c.write_at.ensures (with_item c.args.self.now.ranks c.args.rank c.write_at.new.writer) refl
    c.have_closed.result c.as_slice.result.now c.put.result.now c.have_closed.ensures c.as_slice.ensures.value c.put.ensures c.if-not-have_closed.true

pub returns-clause-driver : goal.returns-clause-driver
returns-clause-driver c =
    told_call_keeps c.args.run.now c.args.self.now c.requires.driver c.args.rank c.requires.rank c.index_mut.result.now c.index_mut.ensures.value c.requires.late
    c.write_at.new.board c.write_at.new.writer c.write_at.ensures (with_item c.args.self.now.ranks c.args.rank c.write_at.new.writer) refl
    c.have_closed.result c.as_slice.result.now c.put.result.now c.have_closed.ensures c.as_slice.ensures.value c.put.ensures c.if-not-have_closed.false
    c.wrote.new.self c.wrote.ensures.wrote c.wrote.ensures.hub
