use Rattle.std.proofs.Common.{arith, sym, subst, pos, List, take}
use Rattle.std.proofs.lemmas.List.{length-take, take_all}
use Rattle.std.specs.List.{filter_map}
use Rattle.log_words.specs.declared.log.Answer.{Answer}
use Rattle.log_closing.specs.Closings.{Advances, left_by}
use Rattle.run_log.specs.Runs.{Claim}
use Rattle.log_closing.proofs.Advancing.{advance_both, given_few, given_more}
use Rattle.log_closing.proofs.closing.Closing.take_spoke.Goals as goal

pub take_answer-requires-clause-room : goal.take_answer-requires-clause-room
take_answer-requires-clause-room c =
    let n = c.loop-answer.answer-index in
    let answers = c.args.answers.now in
    omega (arith, (c.loop-answer.invariant (pos 0)).spare, given_few (left_by c.args.most c.args.marks.now c.args.spoke) (take n answers), length-take n answers, c.loop-answer-test.true, c.requires.room)

pub take_answer-requires-clause-place : goal.take_answer-requires-clause-place
take_answer-requires-clause-place c = c.requires.places c.loop-answer.answer-index _ c.loop-answer-test.true

pub loop-answer-preserved : goal.loop-answer-preserved
loop-answer-preserved c = λ first.
    subst (λ (xs : List Claim). Advances first c.args.self.now c.take_answer.new.self xs) (sym (given_more (left_by c.args.most c.args.marks.now c.args.spoke) c.args.answers.now c.loop-answer.answer-index _ c.loop-answer-test.true))
    (advance_both first c.args.self.now c.loop-answer.self c.take_answer.new.self _ _ (c.loop-answer.invariant first) (c.take_answer.ensures first))

pub returns : goal.returns
returns c = λ first. subst (λ (xs : List Answer). Advances first c.args.self.now c.loop-answer.self (filter_map (left_by c.args.most c.args.marks.now c.args.spoke) xs)) (take_all c.loop-answer.answer-index c.args.answers.now (omega (arith, c.loop-answer-test.false))) (c.loop-answer.invariant first)
