-- What the least value of a problem says of its points.

use Rattle.std.proofs.Common.{arith, refl, sym, ap, ◌∙◌, ◌≡◌, ◌≤◌, List, ℤ, unsigned_abs, Option, Some, None}
use Rattle.std.specs.Option.{option_map}
use Rattle.boxed_problem.specs.Data.{Problem}
use Rattle.boxed_problem.specs.BoxedFacts.{value_size}
use Rattle.boxed_problem.specs.Optimum.{Feasible, IsBest, best_of}
use Rattle.boxed_problem.specs.Sides.{Filled}
use Rattle.boxed_problem.specs.declared.parts.Best.{Best}
use Rattle.boxed_problem.proofs.Magnitudes.{objective_abs}
use Rattle.boxed_problem.proofs.Optimal.{best_is}
use Rattle.sp_model.specs.Problems.{least_of}

-- the magnitude of a least value
pub least_abs : (p : Problem) (v : ℤ) → Filled p.columns → least_of p ≡ Some v → unsigned_abs v ≤ value_size p.columns p.constant p.line p.square
least_abs p v filled e = by_best (best_of p) (best_is p (best_of p) filled refl) e
  where
    by_best : (o : Option Best) → IsBest p o → option_map (λ (best : Best). best.value) o ≡ Some v → unsigned_abs v ≤ value_size p.columns p.constant p.line p.square
    by_best None h d = absurd (let y = d in cc)
    by_best (Some best) h d =
        let same : best.value ≡ v = cc in
        omega (arith, ap unsigned_abs (sym same ∙ h.value), objective_abs p best.point h.feasible.inside)

-- where there is a least value, there is a feasible point
pub least_point : (p : Problem) (v : ℤ) → Filled p.columns → least_of p ≡ Some v → (x : List ℤ) × Feasible p x
least_point p v filled e = by_best (best_of p) (best_is p (best_of p) filled refl) e
  where
    by_best : (o : Option Best) → IsBest p o → option_map (λ (best : Best). best.value) o ≡ Some v → (x : List ℤ) × Feasible p x
    by_best None h d = absurd (let y = d in cc)
    by_best (Some best) h d = (best.point, h.feasible)
