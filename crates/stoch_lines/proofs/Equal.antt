-- What `==` answers on places and on sources of elements is `same_place` and `same_source`.
use mathlib.Core.Path.{fun_ext}
use Rattle.std.proofs.Common.{◌≡◌, refl}
use Rattle.stoch_lines.specs.declared.places.StochPlace.{StochPlace}
use Rattle.stoch_lines.specs.declared.places.StochPlace.TheVariants.{Cost, Cell, Right}
use Rattle.stoch_lines.specs.declared.places.Source.{Source}
use Rattle.stoch_lines.specs.declared.places.Source.TheVariants.{Place, Block}
use Rattle.stoch_lines.specs.contracts.places.StochPlacePartialEq.TheImpl as places
use Rattle.stoch_lines.specs.contracts.places.SourcePartialEq.TheImpl as sources
use Rattle.stoch_lines.specs.Places.{same_place, same_source}

place_eq : (p q : StochPlace) → places.eq-value.it p q ≡ same_place p q
place_eq (Cost a) (Cost b) = refl
place_eq (Cost a) (Cell c d) = refl
place_eq (Cost a) (Right b) = refl
place_eq (Cell a e) (Cost b) = refl
place_eq (Cell a e) (Cell c d) = refl
place_eq (Cell a e) (Right b) = refl
place_eq (Right a) (Cost b) = refl
place_eq (Right a) (Cell c d) = refl
place_eq (Right a) (Right b) = refl

pub place_tests : places.eq-value.it ≡ same_place
place_tests = fun_ext (λ p. fun_ext (λ q. place_eq p q))

source_eq : (p q : Source) → sources.eq-value.it p q ≡ same_source p q
source_eq (Place p) (Place q) = place_eq p q
source_eq (Place p) (Block b) = refl
source_eq (Block a) (Place q) = refl
source_eq (Block a) (Block b) = refl

pub source_tests : sources.eq-value.it ≡ same_source
source_tests = fun_ext (λ p. fun_ext (λ q. source_eq p q))
