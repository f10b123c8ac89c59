-- The data of a scenario part by part: costs, limits, and the core's entries with those of the changes put over them.

use Rattle.std.proofs.Common.{refl, sym, ap, ◌∙◌, ◌≡◌, ℕ, ◌+◌, ◌<◌, nat_lt, true, List, [], ◌∷◌, ◌++◌, length, get_or, take, ℤ}
use Rattle.std.proofs.lemmas.List.{append_assoc, append-nil, take_more}
use Rattle.std.proofs.Math.ListN.{length-set}
use Rattle.std.specs.List.{fold}
use Rattle.base_words.proofs.Comparisons.{both_left}
use Rattle.boxed_problem.specs.declared.parts.Entry.{Entry}
use Rattle.boxed_problem.specs.declared.parts.Limits.{Limits as BothLimits}
use Rattle.sp_model.specs.Changes.{Data, cell_of, cells_of, put_entries, with_change}
use Rattle.sp_model.specs.Drafts.{has_column, has_row, with_cost, with_limits}
use Rattle.sp_model.specs.RunFacts.{are_limits, is_change}
use Rattle.sp_model.specs.declared.program.Change.{Change}
use Rattle.sp_model.specs.declared.program.Change.TheVariants.{Cost, Cell, Limits}

costs_part : (d : Data) (cs : List Change) → (fold with_change d cs).costs ≡ fold with_cost d.costs cs
costs_part d [] = refl
costs_part d (Cost column value ∷ cs) = costs_part (with_change d (Cost column value)) cs
costs_part d (Cell row column value ∷ cs) = costs_part (with_change d (Cell row column value)) cs
costs_part d (Limits row lower upper ∷ cs) = costs_part (with_change d (Limits row lower upper)) cs

pub limits_part : (d : Data) (cs : List Change) → (fold with_change d cs).limits ≡ fold with_limits d.limits cs
limits_part d [] = refl
limits_part d (Cost column value ∷ cs) = limits_part (with_change d (Cost column value)) cs
limits_part d (Cell row column value ∷ cs) = limits_part (with_change d (Cell row column value)) cs
limits_part d (Limits row lower upper ∷ cs) = limits_part (with_change d (Limits row lower upper)) cs

entries_part : (d : Data) (cs : List Change) → (fold with_change d cs).entries ≡ put_entries d.entries (cells_of cs)
entries_part d [] = refl
entries_part d (Cost column value ∷ cs) = entries_part (with_change d (Cost column value)) cs
entries_part d (Cell row column value ∷ cs) = entries_part (with_change d (Cell row column value)) cs
entries_part d (Limits row lower upper ∷ cs) = entries_part (with_change d (Limits row lower upper)) cs

pub data_parts : (d : Data) (cs : List Change) (costs : List ℤ) (limits : List BothLimits) (entries : List Entry) → costs ≡ fold with_cost d.costs cs → limits ≡ fold with_limits d.limits cs → entries ≡ put_entries d.entries (cells_of cs) → record { costs = costs; limits = limits; entries = entries } ≡ fold with_change d cs
data_parts d cs costs limits entries first second third =
    let one : costs ≡ (fold with_change d cs).costs = first ∙ sym (costs_part d cs) in
    let two : limits ≡ (fold with_change d cs).limits = second ∙ sym (limits_part d cs) in
    let three : entries ≡ (fold with_change d cs).entries = third ∙ sym (entries_part d cs) in
    λ i. record { costs = one i; limits = two i; entries = three i }

-- the costs stay as many
costs_long : (costs : List ℤ) (cs : List Change) → length (fold with_cost costs cs) ≡ length costs
costs_long costs [] = refl
costs_long costs (Cost column value ∷ cs) = costs_long (with_cost costs (Cost column value)) cs ∙ length-set costs column value
costs_long costs (Cell row column value ∷ cs) = costs_long costs cs
costs_long costs (Limits row lower upper ∷ cs) = costs_long costs cs

limits_long : (limits : List BothLimits) (cs : List Change) → length (fold with_limits limits cs) ≡ length limits
limits_long limits [] = refl
limits_long limits (Cost column value ∷ cs) = limits_long limits cs
limits_long limits (Cell row column value ∷ cs) = limits_long limits cs
limits_long limits (Limits row lower upper ∷ cs) = limits_long (with_limits limits (Limits row lower upper)) cs ∙ length-set limits row (record { lower = lower; upper = upper })

-- a change that is there writes a cost that is there
column_there : (rows columns : ℕ) (c : Change) → is_change rows columns c ≡ true → has_column columns c ≡ true
column_there rows columns (Cost column value) h = h
column_there rows columns (Cell row column value) h = refl
column_there rows columns (Limits row lower upper) h = refl

row_there : (rows columns : ℕ) (c : Change) → is_change rows columns c ≡ true → has_row rows c ≡ true
row_there rows columns (Cost column value) h = refl
row_there rows columns (Cell row column value) h = refl
row_there rows columns (Limits row lower upper) h = both_left (nat_lt row rows) (are_limits lower upper) h

cost_there : (rows : ℕ) (costs now : List ℤ) (cs : List Change) (c : Change) → now ≡ fold with_cost costs cs → is_change rows (length costs) c ≡ true → has_column (length now) c ≡ true
cost_there rows costs now cs c is h = ap (λ n. has_column n c) (ap length is ∙ costs_long costs cs) ∙ column_there rows (length costs) c h

limits_there : (columns : ℕ) (limits now : List BothLimits) (cs : List Change) (c : Change) → now ≡ fold with_limits limits cs → is_change (length limits) columns c ≡ true → has_row (length now) c ≡ true
limits_there columns limits now cs c is h = ap (λ n. has_row n c) (ap length is ∙ limits_long limits cs) ∙ row_there (length limits) columns c h

cells_append : (bs cs : List Change) → cells_of (bs ++ cs) ≡ cells_of bs ++ cells_of cs
cells_append [] cs = refl
cells_append (b ∷ bs) cs = ap (λ l. cell_of b ++ l) (cells_append bs cs) ∙ sym (append_assoc (cell_of b) (cells_of bs) (cells_of cs))

-- one more change
pub cells_more : (cs : List Change) (k : ℕ) (c : Change) (before after : List Entry) → k < length cs → c ≡ get_or cs k c → before ≡ cells_of (take k cs) → after ≡ before ++ cell_of c → after ≡ cells_of (take (k + 1) cs)
cells_more cs k c before after lt is so step =
    step
    ∙ ap (λ l. l ++ cell_of c) so
    ∙ ap (λ l. cells_of (take k cs) ++ l) (sym (append-nil (cell_of c)))
    ∙ sym (cells_append (take k cs) (c ∷ []))
    ∙ ap (λ x. cells_of (take k cs ++ x ∷ [])) is
    ∙ sym (ap cells_of (take_more cs k c lt))
