-- The sum of the columns' greatest costs.
use Rattle.std.proofs.Common.{arith, ap, ◌∙◌, ◌≡◌, ℕ, ◌+◌, ◌*◌, List, length, map, slice_index, unsigned_abs}
use Rattle.std.proofs.lemmas.List.FromFn.{length-map-range_with_len}
use Rattle.base_words.specs.Sums.{size_below}
use Rattle.capped_num.specs.Capped.{capped}
use Rattle.sp_model.specs.Changes.{Data, all_data}
use Rattle.sp_model.specs.Reaching.{box_reach, cost_reach, greatest}
use Rattle.sp_model.specs.declared.program.Program.{Program}
use Rattle.reach_core.specs.Greatest.{cost_size, tops_of}
use Rattle.base_words.proofs.Made.{made_at}
use Rattle.base_words.proofs.SumBounds.{size_below-same}

pub tops_long : (p : Program) (ds : List Data) → length (tops_of (length p.columns) ds) ≡ length p.columns
tops_long p ds = length-map-range_with_len (λ j. greatest (map (cost_size j) ds)) 0 (length p.columns)

pub costs_capped : (p : Program) (tops : List ℕ) (constant sum : ℕ) → tops ≡ tops_of (length p.columns) (all_data p) → constant ≡ unsigned_abs p.constant → sum ≡ capped (size_below (length p.columns) (λ j. slice_index tops j * box_reach p j)) → capped (constant + sum) ≡ capped (unsigned_abs p.constant + size_below (length p.columns) (λ j. cost_reach p j * box_reach p j))
costs_capped p tops constant sum is c s =
    let own = size_below (length p.columns) (λ j. slice_index tops j * box_reach p j) in
    let want = size_below (length p.columns) (λ j. cost_reach p j * box_reach p j) in
    let same : own ≡ want = size_below-same (length p.columns) (λ j. slice_index tops j * box_reach p j) (λ j. cost_reach p j * box_reach p j) (λ k lt. ap (λ n. n * box_reach p k) (ap (λ (l : List ℕ). slice_index l k) is ∙ made_at (λ j. greatest (map (cost_size j) (all_data p))) (length p.columns) k 0 lt)) in
    let capped_is : sum ≡ capped want = s ∙ ap capped same in
    omega (arith, c, capped_is)
