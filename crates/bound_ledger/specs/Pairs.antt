-- The pair of bounds of a list of replies: its greatest lower and its least upper bound.

use Rattle.std.specs.Prelude.{◌≡◌, ℤ, ◌≤ℤ◌, List, [], ◌∷◌, Option, Some, None, All}
use Rattle.std.specs.Int.{int_max, int_min}
use Rattle.std.specs.List.{Contains, filter_map, fold}
use Rattle.bound_ledger.specs.declared.ledger.Bound.{Bound}
use Rattle.bound_ledger.specs.declared.ledger.Bound.TheVariants.{Lower, Upper, Nothing}
use Rattle.bound_ledger.specs.declared.ledger.Pair.{Pair}

-- the lower bound of a reply, where it has one
abbrev pub lower_of : Bound → Option ℤ
lower_of (Lower value) = Some value
lower_of (Upper value) = None
lower_of Nothing = None

-- the upper bound of a reply, where it has one
abbrev pub upper_of : Bound → Option ℤ
upper_of (Lower value) = None
upper_of (Upper value) = Some value
upper_of Nothing = None

-- the least number of a list, or none where it is empty
abbrev pub least : List ℤ → Option ℤ
least [] = None
least (v ∷ vs) = Some (fold int_min v vs)

-- the pair of a first lower bound and replies: the greatest lower, the least upper if any
abbrev pub pair_after : ℤ → List Bound → Pair
pair_after first replies = record {
  lower = fold int_max first (filter_map lower_of replies);
  upper = least (filter_map upper_of replies);
}

-- the lesser of a number and another that may be there
abbrev pub least_of : Option ℤ → ℤ → ℤ
least_of None value = value
least_of (Some present) value = int_min present value

-- a pair with one more reply
abbrev pub pair_with : Pair → Bound → Pair
pair_with pair (Lower value) = record { lower = int_max pair.lower value; upper = pair.upper }
pair_with pair (Upper value) = record {
  lower = pair.lower;
  upper = Some (least_of pair.upper value);
}
pair_with pair Nothing = pair

-- the greatest of a list, which isn't empty
pub record IsGreatest (values : List ℤ) (value : ℤ) : Type 0 where
  pub there : Contains values value
  pub above : All (λ v. v ≤ℤ value) values

-- the least of a list, or none where it is empty
abbrev pub IsLeast : List ℤ → Option ℤ → Type 0
IsLeast values None = values ≡ []
IsLeast values (Some value) = Contains values value × All (λ v. value ≤ℤ v) values

-- the pair in words: the greatest of the first bound and the lower ones, and the least of the
-- upper ones
pub record IsPairOf (first : ℤ) (replies : List Bound) (pair : Pair) : Type 0 where
  pub lower : IsGreatest (first ∷ filter_map lower_of replies) pair.lower
  pub upper : IsLeast (filter_map upper_of replies) pair.upper
