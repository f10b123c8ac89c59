-- sums of signed numbers over the items of a list

use Rattle.std.specs.Prelude.{List, ℤ, pos, ◌+ℤ◌}
use Rattle.std.specs.List.{fold}

-- the sum of f over the items of a list
abbrev pub sum_z : {A : Type 0} → (A → ℤ) → List A → ℤ
sum_z f xs = fold (λ sum x. sum +ℤ f x) (pos 0) xs
