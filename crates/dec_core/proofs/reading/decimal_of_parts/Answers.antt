use Rattle.std.proofs.Common.{length, refl, ◌∙◌, arith, rules}
use Rattle.std.specs.Option.{option_copied}
use Rattle.dec_core.specs.Spelling.{lowered_by}
use Rattle.dec_core.specs.SpellingOfParts.{spelling_of_parts}
use Rattle.dec_core.proofs.ReadLaws.{zero_read, one_way, number_read}
use Rattle.dec_core.proofs.reading.decimal_of_parts.Goals as goal

pub returns-then-significand-eq0 : goal.returns-then-significand-eq0
returns-then-significand-eq0 c =
    zero_read (spelling_of_parts c.args.parts.now) _ (rw c.if-significand-eq0.true at c.significand_of-significand.ensures.stripped)

pub returns : goal.returns
returns c =
    let parts = c.args.parts.now in
    c.within_limits.ensures ∙ number_read (spelling_of_parts parts) c.significand_of-significand.result.value c.significand_of-significand.result.zeros
    (length parts.fraction.now) (lowered_by (option_copied parts.exponent)) c.powers_of-up.result.0 c.powers_of-up.result.1
    c.saturating_sub.result c.saturating_sub-2.result c.scaled_up-mantissa.result
    c.significand_of-significand.ensures.stripped (omega arith) (omega arith) (search rules)
    refl (one_way (option_copied parts.exponent)) c.powers_of-up.ensures.raised c.powers_of-up.ensures.lowered c.saturating_sub.ensures c.saturating_sub-2.ensures c.scaled_up-mantissa.ensures
