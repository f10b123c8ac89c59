-- Points whose lengths were compared one after another.

use Rattle.std.proofs.Common.{arith, refl, sym, subst, ap, ◌∙◌, ◌≡◌, ℕ, ◌+◌, ◌<◌, ◌≤◌, nat_lt, Bool, true, false, length}
use Rattle.plan_calls.specs.PlanTests.{ArePoints}
use Rattle.sp_model.specs.Plans.{point_of}
use Rattle.sp_model.specs.Problems.{scenarios}
use Rattle.sp_model.specs.declared.plan.Plan.{Plan}
use Rattle.sp_model.specs.declared.run.Run.{Run}

pub next_whole : (plan : Plan) (n s : ℕ) → ((t : ℕ) → t < s → length (point_of plan t) ≡ n) → length (point_of plan s) ≡ n → (t : ℕ) → t < s + 1 → length (point_of plan t) ≡ n
next_whole plan n s before here t less = by_test (nat_lt t s) refl
  where
    by_test : (b : Bool) → nat_lt t s ≡ b → length (point_of plan t) ≡ n
    by_test true e = before t (let below : t < s = grind arith in below)
    by_test false e = let same : s ≡ t = grind arith in subst (λ k. length (point_of plan k) ≡ n) same here

pub all_whole : (run : Run) (plan : Plan) (s : ℕ) → length plan.points ≡ scenarios run → length plan.points ≤ s → ((t : ℕ) → t < s → length (point_of plan t) ≡ length run.program.columns) → ArePoints run plan
all_whole run plan s long end whole = record {
  long = long;
  whole = λ t less. whole t (omega (arith, less, long, end));
}
