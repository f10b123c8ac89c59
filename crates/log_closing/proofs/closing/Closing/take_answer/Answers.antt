use Rattle.std.proofs.Common.{sym, subst}
use Rattle.std.specs.Option.{option_to_list}
use Rattle.log_words.specs.declared.log.Answer.{Answer}
use Rattle.log_closing.specs.Closings.{Advances, left_by}
use Rattle.log_closing.proofs.closing.Closing.take_answer.Goals as goal

pub returns-in-Reply : goal.returns-in-Reply
returns-in-Reply c = λ first. subst (λ (a : Answer). Advances first c.args.self.now c.take_reply.new.self (option_to_list (left_by c.args.most c.args.marks.now c.args.spoke a))) (sym c.in-Reply.is) (c.take_reply.ensures first)
