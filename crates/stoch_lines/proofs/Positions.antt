-- Places of the first item that passes, as an option and as a number.
use Rattle.std.proofs.Common.{◌≡◌, ◌≢◌, refl, ℕ, ◌<◌, Bool, true, false, cond, List, [], ◌∷◌, length, Some, None, arith}
use Rattle.std.specs.Prelude.{position}
use Rattle.std.specs.List.{position_or_len, list_any}
use Rattle.std.proofs.lemmas.Grind.{common_steps}
use Rattle.std.proofs.lemmas.List.Sums.{prefix_len-le-length}
use Rattle.std.proofs.Common.{not, ◌||◌, ◌+◌, suc}

pub position_none : {X : Type 0} (p : X → Bool) (xs : List X) → position p xs ≡ None → position_or_len p xs ≡ length xs
position_none p xs none = grind (arith, common_steps, prefix_len-le-length (λ x. not (p x)) xs)

position_some : {X : Type 0} (p : X → Bool) (xs : List X) (k : ℕ) → position p xs ≡ Some k → position_or_len p xs ≡ k
position_some p xs k some = grind (arith, common_steps)

pub position_below : {X : Type 0} (p : X → Bool) (xs : List X) (k : ℕ) → position p xs ≡ Some k → k < length xs
position_below p xs k some = grind (arith, common_steps)

below_step : (b rest : Bool) (n len : ℕ) → (rest ≡ false → n ≡ len) → (b || rest) ≡ false → cond (not b) (1 + n) 0 ≡ suc len
below_step true rest n len on e = absurd (cc e)
below_step false rest n len on e = omega (arith, on e)

pub none_passes : {X : Type 0} (p : X → Bool) (xs : List X) → list_any p xs ≡ false → position_or_len p xs ≡ length xs
none_passes p [] e = refl
none_passes p (x ∷ xs) e = below_step (p x) (list_any p xs) (position_or_len p xs) (length xs) (none_passes p xs) e

any_by : {X : Type 0} (p : X → Bool) (xs : List X) → position_or_len p xs ≢ length xs → (b : Bool) → list_any p xs ≡ b → b ≡ true
any_by p xs other true e = refl
any_by p xs other false e = absurd (other (none_passes p xs e))

-- some item passes where the place of the first one isn't the end
pub any_before_end : {X : Type 0} (p : X → Bool) (xs : List X) → position_or_len p xs ≢ length xs → list_any p xs ≡ true
any_before_end p xs other = any_by p xs other (list_any p xs) refl
