use Rattle.std.proofs.Common.{arith, pos, sym, ap, subst, List, length}
use Rattle.std.specs.List.{All, filter_map}
use Rattle.log_words.specs.declared.log.Answer.{Answer}
use Rattle.run_log.specs.Runs.{Claim}
use Rattle.log_closing.specs.Closings.{Advances, HasPlace, left_by}
use Rattle.log_closing.proofs.Advancing.{advance_both}
use Rattle.log_closing.proofs.TakingLeft.{left_all, left_next, places_here, room_here, row_there}
use Rattle.log_closing.proofs.closing.Closing.take_left.Goals as goal

pub take_spoke-requires-clause-room : goal.take_spoke-requires-clause-room
take_spoke-requires-clause-room c = omega (arith, ap length c.answers_at.ensures, room_here c.args.most c.args.marks.now c.args.ends.now c.loop-spoke.spoke c.loop-spoke-test.true c.args.self.now.events.spare c.loop-spoke.self.events.spare c.requires.places (c.loop-spoke.invariant (pos 0)).spare c.requires.room)

pub take_spoke-requires-clause-places : goal.take_spoke-requires-clause-places
take_spoke-requires-clause-places c = subst (λ (xs : List Answer). All (HasPlace c.args.most) xs) (sym c.answers_at.ensures) (places_here c.args.most c.args.marks.now c.args.ends.now c.loop-spoke.spoke c.loop-spoke-test.true c.requires.places).each

pub take_spoke-requires-clause-there : goal.take_spoke-requires-clause-there
take_spoke-requires-clause-there c = row_there c.args.most c.args.marks.now c.args.ends.now c.loop-spoke.spoke c.loop-spoke-test.true c.requires.there

pub loop-spoke-preserved : goal.loop-spoke-preserved
loop-spoke-preserved c = λ first.
    subst (λ (xs : List Claim). Advances first c.args.self.now c.take_spoke.new.self xs) (sym (left_next c.args.most c.args.marks.now c.args.ends.now c.loop-spoke.spoke c.loop-spoke-test.true))
    (advance_both first c.args.self.now c.loop-spoke.self c.take_spoke.new.self _ _ (c.loop-spoke.invariant first)
    (subst (λ (xs : List Answer). Advances first c.loop-spoke.self c.take_spoke.new.self (filter_map (left_by c.args.most c.args.marks.now c.loop-spoke.spoke) xs)) c.answers_at.ensures (c.take_spoke.ensures first)))

pub returns : goal.returns
returns c = λ first. subst (λ (xs : List Claim). Advances first c.args.self.now c.loop-spoke.self xs) (left_all c.args.most c.args.marks.now c.args.ends.now c.loop-spoke.spoke (omega (arith, c.loop-spoke-test.false))) (c.loop-spoke.invariant first)
