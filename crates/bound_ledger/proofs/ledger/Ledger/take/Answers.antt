use Rattle.bound_ledger.proofs.Pairing.{pair_taken}
use Rattle.bound_ledger.proofs.ledger.Ledger.take.Goals as goal

pub returns-clause-kept : goal.returns-clause-kept
returns-clause-kept c = λ first replies h. pair_taken first replies c.args.reply c.args.self.now.pair c.with_reply-self.result c.with_reply-self.ensures h
