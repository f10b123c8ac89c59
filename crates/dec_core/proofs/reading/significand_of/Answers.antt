use Rattle.std.proofs.Common.{[]}
use Rattle.dec_core.proofs.StripLaws.{none_read}
use Rattle.dec_core.proofs.reading.significand_of.Goals as goal

pub returns-clause-stripped : goal.returns-clause-stripped
returns-clause-stripped c =
    c.with_digits.ensures.stripped c.args.whole.now (c.with_digits-start.ensures.stripped [] none_read)
