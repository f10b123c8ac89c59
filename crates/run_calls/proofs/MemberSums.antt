-- Sums over the scenarios of a node, which ascend: their magnitudes, and that they are at most sums over all scenarios.

use Rattle.std.proofs.Common.{arith, ap, ◌∙◌, ◌≡◌, ℕ, zero, suc, ◌+◌, ◌*◌, ◌^◌, ◌<◌, ◌≤◌, List, [], ◌∷◌, take, get_or, ℤ, unsigned_abs}
use Rattle.std.proofs.lemmas.Int.{ints}
use Rattle.std.proofs.lemmas.List.Elements.{All-take, recursion_from_All}
use Rattle.std.proofs.lemmas.List.Sums.{sum_by-cons, sum_by-take-le}
use Rattle.std.proofs.Math.Nat.{mul-add, mul_comm, suc-mul}
use Rattle.std.specs.List.{All, AllByRecursion, AllPairs, sum_by}
use Rattle.base_words.specs.ListSums.{sum_z}
use Rattle.base_words.specs.Sums.{size_below}
use Rattle.base_words.proofs.ListSums.{sum_z-cons}
use Rattle.base_words.proofs.Magnitudes.{abs-add}
use Rattle.base_words.proofs.SumBounds.{size_below-le}
use Rattle.run_calls.specs.MultiplierTests.{AreMembers, AreSized, most_at}
use Rattle.sp_model.specs.Plans.{multiplier_of}
use Rattle.sp_model.specs.Problems.{scenarios}
use Rattle.sp_model.specs.declared.plan.Multipliers.{Multipliers}
use Rattle.sp_model.specs.declared.run.Run.{Run}
use Rattle.run_calls.proofs.MostBounds.{most_room}

-- a sum over ascending numbers below n is at most that over all of them
ascending_le : (g : ℕ → ℕ) (n a : ℕ) (xs : List ℕ) → AllPairs (λ s u. s < u) xs → All (λ s. s < n) xs → All (λ s. a ≤ s) xs → a ≤ n → size_below a g + sum_by g xs ≤ size_below n g
ascending_le g n a [] pairs below from l = omega (arith, size_below-le a n g l)
ascending_le g n a (x ∷ xs) pairs below from l =
    let low : a ≤ x = from 0 x (omega arith) in
    let high : x < n = below 0 x (omega arith) in
    let rest = ascending_le g n (suc x) xs (λ i j d h k. pairs (suc i) (suc j) d (omega arith) (omega arith)) (λ k d h. below (suc k) d (omega arith)) (λ k d h. let apart : x < get_or xs k d = pairs 0 (suc k) d (omega arith) (omega arith) in omega arith) (omega arith) in
    omega (arith, sum_by-cons g x xs, rest, size_below-le a x g low)

pub members_le : (g : ℕ → ℕ) (n : ℕ) (xs : List ℕ) → AllPairs (λ s u. s < u) xs → All (λ s. s < n) xs → sum_by g xs ≤ size_below n g
members_le g n xs pairs below = omega (arith, ascending_le g n 0 xs pairs below (λ k d h. omega arith) (omega arith))

-- the magnitude of a sum, by those of its terms
pub sum_abs : (f : ℕ → ℤ) (g : ℕ → ℕ) (ns : List ℕ) → AllByRecursion (λ s. unsigned_abs (f s) ≤ g s) ns → unsigned_abs (sum_z f ns) ≤ sum_by g ns
sum_abs f g [] h = omega (arith, ints)
sum_abs f g (n ∷ ns) h = omega (arith, ap unsigned_abs (sum_z-cons f n ns), sum_by-cons g n ns, abs-add (f n) (sum_z f ns), h.0, sum_abs f g ns h.1)

pub sum_by-times : (g : ℕ → ℕ) (c : ℕ) (ns : List ℕ) → sum_by (λ s. g s * c) ns ≡ sum_by g ns * c
sum_by-times g c [] = omega arith
sum_by-times g c (n ∷ ns) =
    let split : (g n + sum_by g ns) * c ≡ g n * c + sum_by g ns * c = mul_comm (g n + sum_by g ns) c ∙ mul-add c (g n) (sum_by g ns) ∙ omega (arith, mul_comm c (g n), mul_comm c (sum_by g ns)) in
    omega (arith, sum_by-cons (λ s. g s * c) n ns, sum_by-times g c ns, ap (λ m. m * c) (sum_by-cons g n ns), split)

size_below-const : (n c : ℕ) → size_below n (λ k. c) ≡ n * c
size_below-const zero c = omega arith
size_below-const (suc n) c = omega (arith, size_below-const n c, suc-mul n c)

-- the sum of the multipliers of some of a node's scenarios
pub balance_abs : (run : Run) (multipliers : Multipliers) (ns : List ℕ) (j k : ℕ) → AreSized run multipliers → AreMembers run ns → j < run.nonleaf → unsigned_abs (sum_z (λ s. multiplier_of run multipliers s j) (take k ns)) ≤ 2 ^ 120
balance_abs run multipliers ns j k sized members h =
    let most = most_at run j in
    let front = take k ns in
    let below = All-take (λ s. s < scenarios run) k ns members.there in
    let each = recursion_from_All (λ s. unsigned_abs (multiplier_of run multipliers s j) ≤ most) front (λ i d l. sized (get_or front i d) j (below i d l) h) in
    omega (arith, sum_abs (λ s. multiplier_of run multipliers s j) (λ s. most) front each, sum_by-take-le (λ s. most) ns k, members_le (λ s. most) (scenarios run) ns members.ascending members.there, size_below-const (scenarios run) most, most_room run j h)
