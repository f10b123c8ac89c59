-- The order of a core file's entries.
use Rattle.std.proofs.Common.{arith, ◌≡◌}
use Rattle.smps_words.specs.CoreFacts.{ComesBefore}
use Rattle.smps_words.specs.declared.core_data.CoreEntry.{CoreEntry}

pub before_before : (e f g : CoreEntry) → ComesBefore e f → ComesBefore f g → ComesBefore e g
before_before e f g (a, b) (c, d) = (omega (arith, a, c), λ same. let low : e.column ≡ f.column = omega (arith, a, c, same) in let high : f.column ≡ g.column = omega (arith, same, low) in let x = b low in let y = d high in omega (arith, x, y))
