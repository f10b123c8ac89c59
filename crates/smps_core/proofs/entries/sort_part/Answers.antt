use Rattle.std.proofs.Common.{rules}
use Rattle.std.proofs.lemmas.List.Sorted.{IsPermutation-put_mid}
use Rattle.smps_core.proofs.entries.sort_part.Goals as goal

pub returns-clause-moved : goal.returns-clause-moved
returns-clause-moved c = search (rules, IsPermutation-put_mid)
