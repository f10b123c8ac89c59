-- What the reach of a program bounds, in the core and in each scenario.

use Rattle.std.proofs.Common.{arith, ap, subst, ◌∙◌, ◌≡◌, ℕ, suc, ◌+◌, ◌*◌, ◌<◌, ◌≤◌, length, get_or, ℤ, unsigned_abs}
use Rattle.std.proofs.lemmas.List.{get_or-map, length-map}
use Rattle.std.proofs.lemmas.List.FromFn.{get_or-range_with_len, length-range_with_len}
use Rattle.std.specs.List.{range_with_len}
use Rattle.base_words.specs.Sums.{number_at}
use Rattle.boxed_problem.specs.BoxedFacts.{row_size}
use Rattle.sp_model.specs.Changes.{Data, all_data, core_data, data_of, sides}
use Rattle.sp_model.specs.Problems.{no_scenario}
use Rattle.sp_model.specs.Reaching.{cost_reach, data_reach, hedge_reach, line_reach, raw_reach, rows_reach, run_reach}
use Rattle.sp_model.specs.declared.program.Options.{Options}
use Rattle.sp_model.specs.declared.program.Program.{Program}
use Rattle.sp_model.proofs.Sizes.{greatest_le}

each_le : (a b c d : ℕ) → (a ≤ a + b + c + d) × (b ≤ a + b + c + d) × (c ≤ a + b + c + d) × (d ≤ a + b + c + d)
each_le a b c d = (omega arith, omega arith, omega arith, omega arith)

-- the parts of the reach
pub parts_within : (p : Program) (o : Options) (total : ℤ) (nonleaf : ℕ) → (2 * line_reach p o total ≤ run_reach p o total nonleaf) × (2 * length p.scenarios * hedge_reach p o total nonleaf ≤ run_reach p o total nonleaf) × (raw_reach p o total nonleaf ≤ run_reach p o total nonleaf) × (rows_reach p ≤ run_reach p o total nonleaf)
unfolding run_reach
parts_within p o total nonleaf = each_le (2 * line_reach p o total) (2 * length p.scenarios * hedge_reach p o total nonleaf) (raw_reach p o total nonleaf) (rows_reach p)

-- the data of each scenario are among all data, behind those of the core
scenario_data : (p : Program) (s : ℕ) (d : Data) → s < length p.scenarios → get_or (all_data p) (suc s) d ≡ data_of p (get_or p.scenarios s no_scenario)
scenario_data p s d lt = get_or-map (data_of p) p.scenarios s no_scenario d lt

all_long : (p : Program) → length (all_data p) ≡ suc (length p.scenarios)
all_long p = ap suc (length-map p.scenarios (data_of p))

-- the cost of a column
pub core_cost_le : (p : Program) (j : ℕ) → unsigned_abs (number_at (core_data p).costs j) ≤ cost_reach p j
core_cost_le p j = greatest_le (λ (d : Data). unsigned_abs (number_at d.costs j)) (all_data p) 0 (core_data p) (omega arith)

pub scenario_cost_le : (p : Program) (s j : ℕ) → s < length p.scenarios → unsigned_abs (number_at (data_of p (get_or p.scenarios s no_scenario)).costs j) ≤ cost_reach p j
scenario_cost_le p s j lt =
    let P : Data → Type 0 = λ d. unsigned_abs (number_at d.costs j) ≤ cost_reach p j in
    subst P (scenario_data p s (core_data p) lt) (greatest_le (λ (d : Data). unsigned_abs (number_at d.costs j)) (all_data p) (suc s) (core_data p) (omega (arith, all_long p, lt)))

-- a row
pub core_rows_le : (p : Program) → data_reach p (core_data p) ≤ rows_reach p
core_rows_le p = greatest_le (data_reach p) (all_data p) 0 (core_data p) (omega arith)

pub scenario_rows_le : (p : Program) (s : ℕ) → s < length p.scenarios → data_reach p (data_of p (get_or p.scenarios s no_scenario)) ≤ rows_reach p
scenario_rows_le p s lt =
    let P : Data → Type 0 = λ d. data_reach p d ≤ rows_reach p in
    subst P (scenario_data p s (core_data p) lt) (greatest_le (data_reach p) (all_data p) (suc s) (core_data p) (omega (arith, all_long p, lt)))

pub row_le : (p : Program) (d : Data) (i : ℕ) → i < length d.limits → row_size (sides p) d.limits d.entries i ≤ data_reach p d
row_le p d i lt =
    let P : ℕ → Type 0 = λ k. row_size (sides p) d.limits d.entries k ≤ data_reach p d in
    let at : get_or (range_with_len 0 (length d.limits)) i 0 ≡ i = get_or-range_with_len 0 (length d.limits) i 0 lt ∙ omega arith in
    subst P at (greatest_le (row_size (sides p) d.limits d.entries) (range_with_len 0 (length d.limits)) i 0 (omega (arith, length-range_with_len 0 (length d.limits), lt)))
