use Rattle.std.proofs.Common.{sym, ap, subst, ◌∙◌, List}
use Rattle.std.specs.Option.{option_to_list}
use Rattle.run_log.specs.Runs.{Claim}
use Rattle.log_closing.specs.Closings.{Advances}
use Rattle.log_closing.proofs.Advancing.{advance_none}
use Rattle.log_closing.proofs.Leaving.{left_marked, left_unmarked}
use Rattle.log_closing.proofs.closing.Closing.take_reply.Goals as goal

pub returns-then-is_marked : goal.returns-then-is_marked
returns-then-is_marked c = λ first.
    let s = c.args.self.now in
    subst (λ (xs : List Claim). Advances first s s xs) (sym (ap option_to_list (left_marked c.args.most c.args.marks.now c.args.spoke c.args.put c.args.value (sym c.is_marked.ensures ∙ c.if-is_marked.true)))) (advance_none first s)

pub returns : goal.returns
returns c = λ first.
    subst (λ (xs : List Claim). Advances first c.args.self.now c.take.new.self xs) (sym (ap option_to_list (left_unmarked c.args.most c.args.marks.now c.args.spoke c.args.put c.args.value (sym c.is_marked.ensures ∙ c.if-is_marked.false)))) (c.take.ensures first)
