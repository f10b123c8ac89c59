use Rattle.std.proofs.Common.{Some}
use Rattle.dec_core.specs.SpellingOfParts.{spelling_of_parts}
use Rattle.dec_core.proofs.ReadLaws.{normal_result}
use Rattle.dec_core.proofs.reading.read.Goals as goal

pub returns-in-Some-clause-normal : goal.returns-in-Some-clause-normal
returns-in-Some-clause-normal c =
    normal_result (Some (spelling_of_parts c.in-Some.parts)) c.decimal_of_parts.result c.decimal_of_parts.ensures
