use Rattle.std.proofs.Common.{refl}
use Rattle.std.specs.Vec.{with_item}
use Rattle.std.proofs.lemmas.Result.{on_ok_weaker}
use Rattle.schedule_core.proofs.Polling.{asked_there, goes_keeps, goes_steps, may_poll_it, passed_polled, passed_steps, take_polled, take_steps}
use Rattle.schedule_core.proofs.driver.Driver.poll.Goals as goal

pub read_at-requires-clause-reads : goal.read_at-requires-clause-reads
read_at-requires-clause-reads c =
    let d = c.args.self.now in
    let r = c.index_mut.result.now in
    (c.requires.driver.polls d.asks r (asked_there c.args.run.now d c.requires.driver c.requires.asks r c.index_mut.ensures.value)).reads

pub returns-in-Going-clause-driver : goal.returns-in-Going-clause-driver
returns-in-Going-clause-driver c =
    let run = c.args.run.now in let d = c.args.self.now in let r = c.index_mut.result.now in let r' = c.read_at.new.poll in
    goes_keeps run d c.requires.driver c.rule.ensures c.requires.going c.requires.written c.requires.asks r
    (asked_there run d c.requires.driver c.requires.asks r c.index_mut.ensures.value) c.read_at.new.board r' c.in-Going.ensures (with_item d.polls d.asks r') refl

pub returns-in-Going-clause-steps : goal.returns-in-Going-clause-steps
returns-in-Going-clause-steps c =
    let run = c.args.run.now in let d = c.args.self.now in let r = c.index_mut.result.now in let r' = c.read_at.new.poll in
    goes_steps run d c.requires.driver c.rule.ensures c.requires.going c.requires.written c.requires.asks r
    (asked_there run d c.requires.driver c.requires.asks r c.index_mut.ensures.value) c.read_at.new.board r' c.in-Going.ensures (with_item d.polls d.asks r') refl

pub take-requires-clause-may : goal.take-requires-clause-may
take-requires-clause-may c =
    let run = c.args.run.now in let d = c.args.self.now in let r = c.index_mut.result.now in let r' = c.read_at.new.poll in
    may_poll_it run d c.requires.driver c.rule.ensures c.requires.going c.requires.written c.requires.asks r
    (asked_there run d c.requires.driver c.requires.asks r c.index_mut.ensures.value) c.read_at.new.board r' c.in-Reading.put c.in-Reading.value c.in-Reading.ensures (with_item d.polls d.asks r') refl

pub pass_on-requires-clause-polled : goal.pass_on-requires-clause-polled
pass_on-requires-clause-polled c =
    let run = c.args.run.now in let d = c.args.self.now in let r = c.index_mut.result.now in let r' = c.read_at.new.poll in
    take_polled run d c.requires.driver c.rule.ensures c.requires.going c.requires.written c.requires.asks r
    (asked_there run d c.requires.driver c.requires.asks r c.index_mut.ensures.value) c.read_at.new.board r' c.in-Reading.put c.in-Reading.value c.in-Reading.ensures (with_item d.polls d.asks r') refl
    c.take.new.self c.take.ensures.hub c.take.ensures.takes

pub pass_on-requires-in-Again-clause-polled : goal.pass_on-requires-in-Again-clause-polled
pass_on-requires-in-Again-clause-polled c =
    let run = c.args.run.now in let d = c.args.self.now in let r = c.index_mut.result.now in let r' = c.read_at.new.poll in
    passed_polled run d c.requires.driver c.rule.ensures c.requires.going c.requires.written c.requires.asks r
    (asked_there run d c.requires.driver c.requires.asks r c.index_mut.ensures.value) c.read_at.new.board r' c.in-Again.field-0 c.in-Again.ensures (with_item d.polls d.asks r') refl

pub returns-in-Reading-clause-steps : goal.returns-in-Reading-clause-steps
returns-in-Reading-clause-steps c =
    let run = c.args.run.now in let d = c.args.self.now in let r = c.index_mut.result.now in let r' = c.read_at.new.poll in
    on_ok_weaker c.pass_on.result
    (take_steps run d c.requires.driver c.rule.ensures c.requires.going c.requires.written c.requires.asks r
    (asked_there run d c.requires.driver c.requires.asks r c.index_mut.ensures.value) c.read_at.new.board r' c.in-Reading.put c.in-Reading.value c.in-Reading.ensures (with_item d.polls d.asks r') refl
    c.take.new.self c.take.ensures.hub c.take.ensures.takes c.pass_on.new.self)
    c.pass_on.ensures.passes

pub returns-in-Again-clause-steps : goal.returns-in-Again-clause-steps
returns-in-Again-clause-steps c =
    let run = c.args.run.now in let d = c.args.self.now in let r = c.index_mut.result.now in let r' = c.read_at.new.poll in
    on_ok_weaker c.pass_on-in-Again.result
    (passed_steps run d c.requires.driver c.rule.ensures c.requires.going c.requires.written c.requires.asks r
    (asked_there run d c.requires.driver c.requires.asks r c.index_mut.ensures.value) c.read_at.new.board r' c.in-Again.field-0 c.in-Again.ensures (with_item d.polls d.asks r') refl
    c.pass_on-in-Again.new.self)
    c.pass_on-in-Again.ensures.passes
