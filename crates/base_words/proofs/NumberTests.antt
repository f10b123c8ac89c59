-- What tests of natural numbers say.

use Rattle.std.proofs.Common.{arith, sym, ◌≡◌, ◌==◌, ℕ, ◌<◌, ◌≤◌, nat_le, nat_lt, Bool, true, false}

pub less_from_test : (a b : ℕ) → nat_lt a b ≡ true → a < b
less_from_test a b e = grind arith

pub not_less_from_test : (a b : ℕ) → nat_lt a b ≡ false → b ≤ a
not_less_from_test a b e = grind arith

pub test_from_less : (a b : ℕ) → a < b → nat_lt a b ≡ true
test_from_less a b l = grind arith

pub test_from_not_less : (a b : ℕ) → b ≤ a → nat_lt a b ≡ false
test_from_not_less a b l = grind arith

-- whether a number is at least 1
pub some_from_test : (a : ℕ) → nat_le 1 a ≡ true → 1 ≤ a
some_from_test a e = grind arith

pub none_from_test : (a : ℕ) → nat_le 1 a ≡ false → a ≡ 0
none_from_test a e = grind arith

-- numbers that are tested equal are the same
pub same_from_test : (a b : ℕ) → (a == b) ≡ true → a ≡ b
same_from_test a b e = grind arith

pub test_from_same : (a b : ℕ) → a ≡ b → (a == b) ≡ true
test_from_same a b e = grind arith

pub test_from_other : (a b : ℕ) → (a ≡ b → ⊥) → (a == b) ≡ false
test_from_other a b e = grind arith

-- the same test the other way round
pub turned_test : (a b : ℕ) (t : Bool) → (a == b) ≡ t → (b == a) ≡ t
turned_test a b true e = test_from_same b a (sym (same_from_test a b e))
turned_test a b false e = grind arith
