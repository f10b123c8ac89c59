-- names are the same by their order exactly where they are by their bytes
use Rattle.std.proofs.Common.{◌≡◌, ℕ, List}
use Rattle.std.specs.Prelude.{nat_eq}
use Rattle.std.specs.Cmp.Lexicographic.{pointwise, slice_cmp, texts_ties}
use Rattle.std.specs.Ordering.{nat_cmp, eq_by_cmp}

-- two names are the same by their bytes exactly where the order of names says so
pub names_alike : (xs ys : List ℕ) → pointwise nat_eq xs ys ≡ eq_by_cmp (slice_cmp nat_cmp) xs ys
names_alike = texts_ties
