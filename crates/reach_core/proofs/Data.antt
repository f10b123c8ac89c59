-- The data of scenarios among all data: their lengths, their entries, and what they add to the greatest numbers.
use Rattle.std.proofs.Common.{arith, refl, sym, ap, ◌∙◌, ◌≡◌, ℕ, ◌+◌, ◌*◌, ◌<◌, ◌==◌, max, Bool, true, false, List, [], ◌∷◌, map, length, get_or, take, slice_index, ℤ, pos, unsigned_abs, if◌then◌else◌}
use Rattle.std.specs.List.{sum_by}
use Rattle.std.proofs.lemmas.List.{get_or-map, length-map}
use Rattle.std.proofs.lemmas.List.FromFn.{length-map-range_with_len}
use Rattle.std.proofs.lemmas.List.Sums.{sum_by_more}
use Rattle.base_words.specs.Sums.{number_at}
use Rattle.boxed_problem.specs.BoxedFacts.{entry_size, limits_at, limits_size, row_size}
use Rattle.boxed_problem.specs.Sides.{reach, side_at}
use Rattle.boxed_problem.specs.declared.parts.Entry.{Entry}
use Rattle.boxed_problem.specs.declared.parts.Limits as boxed
use Rattle.capped_num.specs.Capped.{capped}
use Rattle.sp_model.specs.Changes.{Data, core_data, data_of, limits_of, sides}
use Rattle.sp_model.specs.Reaching.{box_reach, greatest, hedge_reach, line_reach, raw_reach, rows_reach, run_reach}
use Rattle.sp_model.specs.declared.program.Column.{Column}
use Rattle.sp_model.specs.declared.program.Options.{Options}
use Rattle.sp_model.specs.declared.program.Program.{Program}
use Rattle.sp_model.specs.declared.program.Scenario.{Scenario}
use Rattle.sp_model.proofs.Lengths.{costs_kept, limits_kept}
use Rattle.reach_core.specs.Greatest.{cost_size, sums_of, tops_of, with_part}
use Rattle.reach_core.proofs.Capped.{product_by}
use Rattle.base_words.proofs.Made.{changed, is_made, made_at}
use Rattle.capped_num.proofs.Capping.{sum_of_capped}

-- lengths
data_costs : (p : Program) (s : Scenario) → length (data_of p s).costs ≡ length p.columns
unfolding data_of
data_costs p s = costs_kept (core_data p) s.changes ∙ length-map p.columns (λ (c : Column). c.cost)

pub data_limits : (p : Program) (s : Scenario) → length (data_of p s).limits ≡ length p.rows
unfolding data_of
data_limits p s = limits_kept (core_data p) s.changes ∙ length-map p.rows limits_of

-- sums by row, one entry more
sum_at : (p : Program) (i : ℕ) (es : List Entry) (k : ℕ) (e : Entry) → k < length es → e ≡ get_or es k e → sum_by (entry_size (sides p) i) (take (k + 1) es) ≡ sum_by (entry_size (sides p) i) (take k es) + entry_size (sides p) i e
sum_at p i es k e lt at = sum_by_more (entry_size (sides p) i) es k e lt ∙ ap (λ x. sum_by (entry_size (sides p) i) (take k es) + entry_size (sides p) i x) (sym at)

differ : (a b : ℕ) (t : Bool) → (a == b) ≡ t → (b ≡ a → ⊥) → t ≡ false
differ a b true e h = absurd (h (grind arith))
differ a b false e h = refl

pub sums_next : (p : Program) (es : List Entry) (k : ℕ) (e : Entry) (before after : List ℕ) → k < length es → e ≡ get_or es k e → before ≡ sums_of p (take k es) → e.row < length p.rows → after ≡ with_part p before e → after ≡ sums_of p (take (k + 1) es)
sums_next p es k e before after lt at was row step =
    let f : ℕ → ℕ = λ i. capped (sum_by (entry_size (sides p) i) (take k es)) in
    let g : ℕ → ℕ = λ i. capped (sum_by (entry_size (sides p) i) (take (k + 1) es)) in
    let part = unsigned_abs e.value * box_reach p e.column in
    let self : (e.row == e.row) ≡ true = grind arith in
    let own : entry_size (sides p) e.row e ≡ part = ap (λ t. if t then unsigned_abs e.value * reach (side_at (sides p) e.column) else 0) self in
    let y = capped (slice_index (sums_of p (take k es)) e.row + capped part) in
    let there : slice_index (sums_of p (take k es)) e.row ≡ f e.row = made_at f (length p.rows) e.row 0 row in
    let old = sum_by (entry_size (sides p) e.row) (take k es) in
    let at_row : g e.row ≡ y = ap capped (sum_at p e.row es k e lt at ∙ ap (λ n. old + n) own) ∙ sym (sum_of_capped old part (slice_index (sums_of p (take k es)) e.row) (capped part) there refl) in
    step ∙ (ap (λ l. with_part p l e) was ∙ changed f g (length p.rows) e.row y row at_row (λ j other.
    let off : (e.row == j) ≡ false = differ e.row j (e.row == j) refl other in
    let none : entry_size (sides p) j e ≡ 0 = ap (λ t. if t then unsigned_abs e.value * reach (side_at (sides p) e.column) else 0) off in
    let same : sum_by (entry_size (sides p) j) (take (k + 1) es) ≡ sum_by (entry_size (sides p) j) (take k es) = omega (arith, sum_at p j es k e lt at, none) in
    ap capped same))

pub sums_long : (p : Program) (es : List Entry) → length (sums_of p es) ≡ length p.rows
sums_long p es = length-map-range_with_len (λ i. capped (sum_by (entry_size (sides p) i) es)) 0 (length p.rows)

-- a row with its limits
pub row_capped : (p : Program) (limits : List boxed.Limits) (entries : List Entry) (sums : List ℕ) (i : ℕ) → i < length p.rows → sums ≡ sums_of p entries → capped (limits_size (limits_at limits i) + slice_index sums i) ≡ capped (row_size (sides p) limits entries i)
row_capped p limits entries sums i lt is =
    let f : ℕ → ℕ = λ k. capped (sum_by (entry_size (sides p) k) entries) in
    let at : slice_index sums i ≡ f i = ap (λ (l : List ℕ). slice_index l i) is ∙ made_at f (length p.rows) i 0 lt in
    omega (arith, at)

-- the greatest of one number
pub greatest_one : {X : Type 0} (f : X → ℕ) (x : X) → f x ≡ greatest (map f (x ∷ []))
greatest_one f x = omega arith

-- the costs of one datum alone
pub tops_first : (n : ℕ) (d : Data) (tops : List ℕ) → length d.costs ≡ n → tops ≡ map unsigned_abs d.costs → tops ≡ tops_of n (d ∷ [])
tops_first n d tops long is =
    is ∙ is_made (map unsigned_abs d.costs) (λ j. greatest (map (cost_size j) (d ∷ []))) n (length-map d.costs unsigned_abs ∙ long) (λ j e lt.
    get_or-map unsigned_abs d.costs j (pos 0) e (omega (arith, lt, long)) ∙ (let one : unsigned_abs (number_at d.costs j) ≡ max 0 (unsigned_abs (number_at d.costs j)) = omega arith in one))

-- the reach, from capped parts
reach_is : (p : Program) (o : Options) (total : ℤ) (nonleaf : ℕ) → run_reach p o total nonleaf ≡ 2 * line_reach p o total + 2 * length p.scenarios * hedge_reach p o total nonleaf + raw_reach p o total nonleaf + rows_reach p
unfolding run_reach
reach_is p o total nonleaf = refl

pub reach_capped : (p : Program) (o : Options) (total : ℤ) (nonleaf line hedged raw rows front most : ℕ) → line ≡ capped (line_reach p o total) → hedged ≡ capped (2 * length p.scenarios * hedge_reach p o total nonleaf) → raw ≡ capped (raw_reach p o total nonleaf) → rows ≡ capped (rows_reach p) → front ≡ capped (capped (2 * line) + hedged) → most ≡ capped (capped (front + raw) + rows) → most ≡ capped (run_reach p o total nonleaf)
reach_capped p o total nonleaf line hedged raw rows front most l h r w f m =
    let first = 2 * line_reach p o total in
    let second = 2 * length p.scenarios * hedge_reach p o total nonleaf in
    let third = raw_reach p o total nonleaf in
    let first_is : capped (2 * line) ≡ capped first = product_by 2 (line_reach p o total) line l in
    let front_is : front ≡ capped (first + second) = f ∙ sum_of_capped first second (capped (2 * line)) hedged first_is h in
    let both_is : capped (front + raw) ≡ capped (first + second + third) = sum_of_capped (first + second) third front raw front_is r in
    m ∙ (sum_of_capped (first + second + third) (rows_reach p) (capped (front + raw)) rows both_is w ∙ ap capped (sym (reach_is p o total nonleaf)))
