-- What the two stamps of a reading say.
use Rattle.std.proofs.Common.{◌≡◌, ℕ, ◌*◌, ◌/◌, ◌%◌, ◌≤◌, Bool, true, ◌&&◌, nat_eq, nat_lt, arith}
use Rattle.std.proofs.lemmas.Bool.{eqb-true}
use Rattle.base_words.proofs.Comparisons.{both_left, both_right}
use borrow.Author.Tests.{ltb-true}
use Rattle.window_words.specs.Views.{is_whole}

-- a reading that ends whole ends at the even stamp of an entry from 1 on
pub whole_tells : (first n : ℕ) → is_whole first n ≡ true → (first ≡ n) × (n ≡ 2 * (n / 2)) × (1 ≤ n / 2)
whole_tells first n e = let a : Bool = nat_eq first n in let b : Bool = nat_eq (n % 2) 0 in let d : Bool = nat_lt 0 n in
    let front : (a && b) ≡ true = both_left (a && b) d e in let above : d ≡ true = both_right (a && b) d e in
    let same : a ≡ true = both_left a b front in let even : b ≡ true = both_right a b front in
    let one = eqb-true first n same in let two = eqb-true (n % 2) 0 even in let three = ltb-true 0 n above in
    (one, omega arith, omega arith)
