-- the lists that an ascent starts with belong together

use Rattle.std.proofs.Common.{arith, ap, sym, subst, ◌∙◌, ◌≡◌, ◌<◌, List, length, ℤ, pos, ◌≤ℤ◌}
use Rattle.std.proofs.lemmas.List.Elements.{All-from_recursion}
use Rattle.std.proofs.lemmas.List.Sorted.{All-permutation}
use Rattle.std.specs.List.{All}
use Rattle.std.specs.List.Sorted.{IsPermutation}
use Rattle.boxed_problem.specs.Sides.{Within}
use Rattle.boxed_problem.specs.declared.parts.Entry.{Entry}
use Rattle.boxed_problem.specs.declared.parts.Limits.{Limits}
use Rattle.boxed_problem.specs.declared.parts.Side.{Side}
use Rattle.row_prices.specs.Ascending.{IsAscent}

pub starts_right : (columns given sides box : List Side) (rows limits : List Limits) (entries cells : List Entry) (line square values prices : List ℤ) → columns ≡ box → sides ≡ given → rows ≡ limits → values ≡ prices →
    length line ≡ length columns → length square ≡ length columns → All (λ q. pos 0 ≤ℤ q) square → length prices ≡ length limits → IsPermutation cells entries → Within given box →
    All (λ (e : Entry). (e.row < length limits) × (e.column < length box)) cells → IsAscent columns sides rows entries line square values
starts_right columns given sides box rows limits entries cells line square values prices c s r v l q convex long p w places = record {
  ends = same;
  lines = l ∙ same;
  squares = q ∙ same;
  prices = omega (arith, ap length v, long, ap length r);
  filled = subst (λ ss. All (λ (side : Side). side.lower ≤ℤ side.upper) ss) (sym s) (All-from_recursion (λ (side : Side). side.lower ≤ℤ side.upper) given w.filled);
  convex = convex;
  places = λ k d m. let e = moved k d m in (omega (arith, e.0, ap length r), omega (arith, e.1, ap length c, same));
}
  where
    same : length columns ≡ length sides
    same = omega (arith, ap length c, ap length s, w.long)

    moved : All (λ (e : Entry). (e.row < length limits) × (e.column < length box)) entries
    moved = All-permutation (λ (e : Entry). (e.row < length limits) × (e.column < length box)) cells entries p places
