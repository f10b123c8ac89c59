-- sides cut at a column keep what is better
use Rattle.std.proofs.Common.{arith, ◌<◌, length, List, slice_set, ℕ, ℤ, ◌≤ℤ◌, Option}
use Rattle.boxed_problem.specs.Data.{Problem}
use Rattle.boxed_problem.specs.Sides.{Within, side_at}
use Rattle.base_words.specs.Sums.{number_at}
use Rattle.boxed_problem.specs.declared.parts.Best.{Best}
use Rattle.boxed_problem.specs.declared.parts.Side.{Side}
use Rattle.branch_bound.specs.Narrowing.{KeepsBetter}
use Rattle.branch_bound.proofs.Descending.{in_wider}
use Rattle.propagate.proofs.Setting.{in_set, set_in}

-- sides cut at a column, in a box cut there to a side that lies in it, keep what is better
pub keeps_set : (b : Problem) (best : Option Best) (box sides : List Side) (j : ℕ) (s t : Side) → j < length box → Within sides box → Within (slice_set box j t) box →
    ((v : ℤ) → t.lower ≤ℤ v → v ≤ℤ t.upper → (side_at sides j).lower ≤ℤ v → v ≤ℤ (side_at sides j).upper → (s.lower ≤ℤ v) × (v ≤ℤ s.upper)) →
    KeepsBetter b best box sides → KeepsBetter b best (slice_set box j t) (slice_set sides j s)
keeps_set b best box sides j s t l w v c k x i m d =
    let a = set_in box j t x l i in
    let h = k x (in_wider (slice_set box j t) box x v i) m d in
    let n : j < length sides = omega (arith, w.long) in
    let r = c (number_at x j) a.0 a.1 (h.lower j n) (h.upper j n) in
    in_set sides j s x n r.0 r.1 h
