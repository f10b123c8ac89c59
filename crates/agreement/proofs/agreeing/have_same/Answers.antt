use Rattle.std.proofs.Common.{rules, FitsSigned}
use Rattle.std.specs.Int.{w64}
use Rattle.agreement.proofs.Tests.{same_bits}
use Rattle.agreement.proofs.agreeing.have_same.Goals as goal

pub returns : goal.returns
returns c =
    let fa : FitsSigned w64 c.value.result = search rules in
    let fb : FitsSigned w64 c.value-2.result = search rules in
    same_bits c.value.result c.value-2.result _ _ fa fb c.value.ensures c.value-2.ensures
