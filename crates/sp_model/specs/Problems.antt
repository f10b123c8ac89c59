-- The problem of each scenario, and the wait-and-see bound.

use Rattle.std.specs.Prelude.{ℕ, zero, suc, length, map, ℤ, pos, ◌+ℤ◌, ◌*ℤ◌, Option, Some, option_map, option_and_then, slice_index_or, []}
use Rattle.boxed_problem.specs.Data.{Problem}
use Rattle.boxed_problem.specs.Optimum.{best_of}
use Rattle.boxed_problem.specs.declared.parts.Best.{Best}
use Rattle.sp_model.specs.Changes.{Data, data_of, sides}
use Rattle.sp_model.specs.declared.program.Scenario.{Scenario}
use Rattle.sp_model.specs.declared.run.Run.{Run}

-- how many scenarios a run has
abbrev pub scenarios : Run → ℕ
scenarios run = length run.program.scenarios

-- what stands past the end of the scenarios
abbrev pub no_scenario : Scenario
no_scenario = record { weight = pos 0; changes = [] }

abbrev pub scenario_at : Run → ℕ → Scenario
scenario_at run s = slice_index_or run.program.scenarios s no_scenario

-- the data of scenario s
abbrev pub data_at : Run → ℕ → Data
data_at run s = data_of run.program (scenario_at run s)

-- by what the costs of scenario s are multiplied: the scale times its weight
abbrev pub factor_of : Run → ℕ → ℤ
factor_of run s = run.options.scale *ℤ (scenario_at run s).weight

-- the problem of scenario s: the boxes of the program, the scenario's limits and entries, and its
-- costs times scale and weight
abbrev pub problem_in : Run → ℕ → Problem
problem_in run s = record {
  columns = sides run.program;
  rows = (data_at run s).limits;
  entries = (data_at run s).entries;
  constant = factor_of run s *ℤ run.program.constant;
  line = map (λ cost. factor_of run s *ℤ cost) (data_at run s).costs;
  square = map (λ cost. pos 0) (data_at run s).costs;
}

-- the least value of a problem; none where it has no feasible point
abbrev pub least_of : Problem → Option ℤ
least_of problem = option_map (λ (best : Best). best.value) (best_of problem)

-- the sum of f at 0 to n - 1; none where f is none at one of them
abbrev pub sum_some : ℕ → (ℕ → Option ℤ) → Option ℤ
sum_some zero f = Some (pos 0)
sum_some (suc n) f =
    option_and_then (λ sum. option_map (λ least. sum +ℤ least) (f n)) (sum_some n f)

-- the wait-and-see bound: the sum of the least values of all scenarios, each solved by itself; none
-- where one has no feasible point
unfoldable pub wait_and_see_of : Run → Option ℤ
wait_and_see_of run = sum_some (scenarios run) (λ s. least_of (problem_in run s))
