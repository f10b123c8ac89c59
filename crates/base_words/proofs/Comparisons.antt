-- what tests on numbers say, and tests joined by `&&`

use Rattle.std.proofs.Common.{arith, refl, ◌≡◌, Bool, true, false, not, ◌&&◌, ℤ, ◌≤ℤ◌, ◌<ℤ◌, int_lt, int_le}
use Rattle.std.proofs.lemmas.Int.{ints}

pub below_from_test : (a b : ℤ) → int_lt a b ≡ true → a <ℤ b
below_from_test a b h = grind (arith, ints)

pub above_from_test : (a b : ℤ) → int_lt a b ≡ false → b ≤ℤ a
above_from_test a b h = grind (arith, ints)

pub test_from_below : (a b : ℤ) → a <ℤ b → int_lt a b ≡ true
test_from_below a b h = grind (arith, ints)

pub test_from_above : (a b : ℤ) → b ≤ℤ a → int_lt a b ≡ false
test_from_above a b h = grind (arith, ints)

pub most_from_test : (a b : ℤ) → int_le a b ≡ true → a ≤ℤ b
most_from_test a b h = grind (arith, ints)

pub test_from_most : (a b : ℤ) → a ≤ℤ b → int_le a b ≡ true
test_from_most a b h = grind (arith, ints)

pub not_not : (t : Bool) → not t ≡ false → t ≡ true
not_not true h = refl
not_not false h = absurd cc

-- both parts of a test
pub both_left : (p q : Bool) → (p && q) ≡ true → p ≡ true
both_left true q h = refl
both_left false q h = h

pub both_right : (p q : Bool) → (p && q) ≡ true → q ≡ true
both_right true q h = h
both_right false q h = absurd cc

pub both_parts : (p q : Bool) → (p && q) ≡ true → (p ≡ true) × (q ≡ true)
both_parts p q h = (both_left p q h, both_right p q h)
