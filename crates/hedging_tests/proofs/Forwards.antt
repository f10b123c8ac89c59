-- The facts of a run stay where each column before the last stage is drawn to the first one.

use Rattle.std.proofs.Common.{arith, refl, sym, ap, subst, ◌∙◌, ◌≡◌, ℕ, zero, suc, ◌+◌, ◌*◌, ◌<◌, ◌≤◌, nat_lt, max, Bool, true, false, List, [], ◌∷◌, length, map, get_or, ◌^◌, ℤ, unsigned_abs, if◌then◌else◌, cond}
use Rattle.std.proofs.lemmas.List.{get_or-map, length-map}
use Rattle.std.proofs.lemmas.List.Elements.{All-map}
use Rattle.std.proofs.lemmas.List.Sums.{sum_by-cons}
use Rattle.std.specs.List.{All, AllPairs, count_by, fold, range_with_len}
use Rattle.base_words.specs.Sums.{number_at, size_below}
use Rattle.boxed_problem.specs.BoxedFacts.{row_size}
use Rattle.boxed_problem.specs.Sides.{reach, side_at}
use Rattle.boxed_problem.specs.declared.parts.Side.{Side}
use Rattle.sp_model.specs.Changes.{Data, data_of, limits_of, side_of, sides, with_change}
use Rattle.sp_model.specs.Reaching.{box_reach, greatest, run_reach}
use Rattle.sp_model.specs.RunFacts.{CountFacts, IdleFacts, IsColumn, IsScenario, RunFacts, StageFacts, change_reach, change_value, is_change}
use Rattle.sp_model.specs.declared.program.Change.{Change}
use Rattle.sp_model.specs.declared.program.Change.TheVariants as change
use Rattle.sp_model.specs.declared.program.Column.{Column}
use Rattle.sp_model.specs.declared.program.Options.{Options}
use Rattle.sp_model.specs.declared.program.Program.{Program}
use Rattle.sp_model.specs.declared.program.Scenario.{Scenario}
use Rattle.sp_model.specs.declared.limits.TheConstants.{MAX_CELLS}
use Rattle.hedging_tests.specs.Forward.{at_first, drawn_forward, forward}

-- the box and the cost of a column stay
side_kept : (b : Bool) (c : Column) → side_of (if b then at_first c else c) ≡ side_of c
side_kept true c = refl
side_kept false c = refl

cost_kept : (b : Bool) (c : Column) → (if b then at_first c else c).cost ≡ c.cost
cost_kept true c = refl
cost_kept false c = refl

sides_kept : (n : ℕ) (cs : List Column) → map side_of (map (drawn_forward n) cs) ≡ map side_of cs
sides_kept n [] = refl
sides_kept n (c ∷ cs) = ap (λ s. s ∷ map side_of (map (drawn_forward n) cs)) (side_kept (nat_lt c.stage n) c) ∙ ap (λ ss. side_of c ∷ ss) (sides_kept n cs)

costs_kept : (n : ℕ) (cs : List Column) → map (λ (c : Column). c.cost) (map (drawn_forward n) cs) ≡ map (λ (c : Column). c.cost) cs
costs_kept n [] = refl
costs_kept n (c ∷ cs) = ap (λ z. z ∷ map (λ (d : Column). d.cost) (map (drawn_forward n) cs)) (cost_kept (nat_lt c.stage n) c) ∙ ap (λ zs. c.cost ∷ zs) (costs_kept n cs)

-- a column of the first stage or of the last
column_kept : (n : ℕ) (b : Bool) (c : Column) → 2 ≤ n → IsColumn n c → IsColumn n (if b then at_first c else c)
column_kept n true c several is = record { early = omega arith; late = omega (arith, several); filled = is.filled; low = is.low; high = is.high }
column_kept n false c several is = is

-- two columns in order
rise_kept : (n : ℕ) (a b : Column) (s t : Bool) → nat_lt a.stage n ≡ s → nat_lt b.stage n ≡ t → 1 ≤ b.stage → a.stage ≤ b.stage → (if s then at_first a else a).stage ≤ (if t then at_first b else b).stage
rise_kept n a b true true es et late rise = omega arith
rise_kept n a b true false es et late rise = late
rise_kept n a b false true es et late rise = absurd (let high : n ≤ a.stage = grind arith in let low : b.stage < n = grind arith in omega (arith, high, low, rise))
rise_kept n a b false false es et late rise = rise

first_kept : (b : Bool) (c : Column) → c.stage ≡ 1 → (if b then at_first c else c).stage ≡ 1
first_kept true c e = refl
first_kept false c e = e

-- a column is of a stage before the last where it was
early_kept : (n : ℕ) (b : Bool) (c : Column) → 2 ≤ n → nat_lt c.stage n ≡ b → nat_lt (if b then at_first c else c).stage n ≡ nat_lt c.stage n
early_kept n true c several e = let test : nat_lt 1 n ≡ true = grind arith in test ∙ sym e
early_kept n false c several e = refl

count_kept : (n : ℕ) (cs : List Column) → 2 ≤ n → count_by (λ (c : Column). nat_lt c.stage n) (map (drawn_forward n) cs) ≡ count_by (λ (c : Column). nat_lt c.stage n) cs
count_kept n [] several = refl
count_kept n (c ∷ cs) several =
    let test : Column → ℕ = λ d. cond (nat_lt d.stage n) 1 0 in
    let head : test (drawn_forward n c) ≡ test c = ap (λ t. cond t 1 0) (early_kept n (nat_lt c.stage n) c several refl) in
    let left = sum_by-cons test (drawn_forward n c) (map (drawn_forward n) cs) in
    let right = sum_by-cons test c cs in
    let tail = count_kept n cs several in
    omega (arith, head, left, right, tail)

-- the reach of a program by the boxes, the costs and the number of its columns
abbrev core_by : Program → List ℤ → Data
core_by p costs = record { costs = costs; limits = map limits_of p.rows; entries = p.entries }

abbrev all_by : Program → List ℤ → List Data
all_by p costs = core_by p costs ∷ map (λ (s : Scenario). fold with_change (core_by p costs) s.changes) p.scenarios

abbrev box_by : List Side → ℕ → ℕ
box_by boxes j = reach (side_at boxes j)

abbrev most_by : Program → Options → ℤ → List Side → ℕ → ℕ
most_by p o total boxes j = (o.iterations + 2) * (2 * unsigned_abs o.rho * unsigned_abs total * box_by boxes j + length p.scenarios)

abbrev reach_by : Program → Options → ℤ → ℕ → List Side → List ℤ → ℕ → ℕ
reach_by p o total nonleaf boxes costs count =
    2 * (unsigned_abs o.scale * unsigned_abs total * (unsigned_abs p.constant + size_below count (λ j. greatest (map (λ (d : Data). unsigned_abs (number_at d.costs j)) (all_by p costs)) * box_by boxes j)))
    + 2 * length p.scenarios * size_below nonleaf (λ j. 2 * most_by p o total boxes j * box_by boxes j + 3 * unsigned_abs o.rho * unsigned_abs total * (box_by boxes j * box_by boxes j) + box_by boxes j)
    + 2 * unsigned_abs o.rho * (unsigned_abs total * unsigned_abs total) * max 1 (greatest (map (box_by boxes) (range_with_len 0 nonleaf)))
    + greatest (map (λ (d : Data). greatest (map (row_size boxes d.limits d.entries) (range_with_len 0 (length d.limits)))) (all_by p costs))

reach_kept : (p : Program) (o : Options) (total : ℤ) (nonleaf : ℕ) → run_reach (forward p) o total nonleaf ≡ run_reach p o total nonleaf
unfolding run_reach data_of
reach_kept p o total nonleaf =
    let cs = map (drawn_forward p.tree.stages) p.columns in
    let costs : Column → ℤ = λ c. c.cost in
    ap (λ bs. reach_by p o total nonleaf bs (map costs cs) (length cs)) (sides_kept p.tree.stages p.columns)
    ∙ (ap (λ zs. reach_by p o total nonleaf (map side_of p.columns) zs (length cs)) (costs_kept p.tree.stages p.columns)
    ∙ ap (reach_by p o total nonleaf (map side_of p.columns) (map costs p.columns)) (length-map p.columns (drawn_forward p.tree.stages)))

box_kept : (p : Program) (j : ℕ) → box_reach (forward p) j ≡ box_reach p j
box_kept p j = ap (λ bs. box_by bs j) (sides_kept p.tree.stages p.columns)

change_kept : (p : Program) (c : Change) → change_reach (forward p) c ≡ change_reach p c
change_kept p (change.Cost column value) = box_kept p column
change_kept p (change.Cell row column value) = box_kept p column
change_kept p (change.Limits row lower upper) = refl

idle_kept : (p : Program) → IdleFacts p → IdleFacts (forward p)
idle_kept p idle =
    let f = drawn_forward p.tree.stages in
    record {
      costs = λ j d lt h.
          let below : j < length p.columns = omega (arith, lt, length-map p.columns f) in
          let c = get_or p.columns j d in
          ap (λ (x : Column). x.cost) (get_or-map f p.columns j d d below) ∙ (cost_kept (nat_lt c.stage p.tree.stages) c ∙ idle.costs j d below (sym (box_kept p j) ∙ h));
      entries = λ k e lt h. idle.entries k e lt (sym (box_kept p (get_or p.entries k e).column) ∙ h);
      changes = λ k s lt i c l h. idle.changes k s lt i c l (sym (change_kept p (get_or (get_or p.scenarios k s).changes i c)) ∙ h);
    }

stages_kept : (p : Program) (nonleaf : ℕ) → StageFacts p nonleaf → StageFacts (forward p) nonleaf
stages_kept p nonleaf is =
    let n = p.tree.stages in
    let f = drawn_forward n in
    let several : 2 ≤ n = is.several in
    let long = length-map p.columns f in
    record {
      several = is.several;
      few = is.few;
      columns = All-map (IsColumn n) f p.columns (λ k d lt. column_kept n (nat_lt (get_or p.columns k d).stage n) (get_or p.columns k d) several (is.columns k d lt));
      rows = is.rows;
      rising = λ i j d before lt.
          let j_below : j < length p.columns = omega (arith, lt, long) in
          let i_below : i < length p.columns = omega (arith, before, j_below) in
          let a = get_or p.columns i d in
          let b = get_or p.columns j d in
          let at_a : get_or (map f p.columns) i d ≡ f a = get_or-map f p.columns i d d i_below in
          let at_b : get_or (map f p.columns) j d ≡ f b = get_or-map f p.columns j d d j_below in
          let rise = rise_kept n a b (nat_lt a.stage n) (nat_lt b.stage n) refl refl (is.columns j d j_below).early (is.rising i j d before j_below) in
          omega (arith, rise, ap (λ (c : Column). c.stage) at_a, ap (λ (c : Column). c.stage) at_b);
      some_columns = let some = is.some_columns in omega (arith, some, long);
      first = λ d.
          let c = get_or p.columns 0 d in
          ap (λ (x : Column). x.stage) (get_or-map f p.columns 0 d d is.some_columns) ∙ first_kept (nat_lt c.stage n) c (is.first d);
      nonleaf_is = is.nonleaf_is ∙ sym (count_kept n p.columns several);
    }

counts_kept : (p : Program) (nonleaf : ℕ) → CountFacts p nonleaf → CountFacts (forward p) nonleaf
counts_kept p nonleaf is =
    let long = length-map p.columns (drawn_forward p.tree.stages) in
    record {
      some_scenarios = is.some_scenarios;
      scenarios = is.scenarios;
      columns = let few = is.columns in omega (arith, few, long);
      rows = is.rows;
      column_cells = subst (λ n. length p.scenarios * n ≤ MAX_CELLS) (sym long) is.column_cells;
      row_cells = is.row_cells;
      changes = is.changes;
      nonleaf_cells = is.nonleaf_cells;
    }

scenario_kept : (p : Program) (s : Scenario) → IsScenario p s → IsScenario (forward p) s
scenario_kept p s is = record {
  positive = is.positive;
  changes = subst (λ n. All (λ c. is_change (length p.rows) n c ≡ true) s.changes) (sym (length-map p.columns (drawn_forward p.tree.stages))) is.changes;
  apart = is.apart;
}

facts_kept : (p : Program) (o : Options) (total : ℤ) (nonleaf : ℕ) → RunFacts p o total nonleaf → RunFacts (forward p) o total nonleaf
facts_kept p o total nonleaf is =
    let long = length-map p.columns (drawn_forward p.tree.stages) in
    record {
      options_fit = is.options_fit;
      ranks = is.ranks;
      tree = is.tree;
      stages = stages_kept p nonleaf is.stages;
      counts = counts_kept p nonleaf is.counts;
      places = λ k e lt. let at = is.places k e lt in let row = at.0 in let column = at.1 in (row, omega (arith, column, long));
      ascending = is.ascending;
      scenarios = λ k s lt. scenario_kept p (get_or p.scenarios k s) (is.scenarios k s lt);
      idle = idle_kept p is.idle;
      scaled = is.scaled;
      sum_is = is.sum_is;
      within = subst (λ n. n ≤ 2 ^ 120) (sym (reach_kept p o total nonleaf)) is.within;
    }

-- the same for columns that are these
pub facts_moved : (p : Program) (o : Options) (total : ℤ) (nonleaf : ℕ) (columns : List Column) → columns ≡ map (drawn_forward p.tree.stages) p.columns → RunFacts p o total nonleaf → RunFacts (record p { columns = columns }) o total nonleaf
facts_moved p o total nonleaf columns e is = subst (λ cs. RunFacts (record p { columns = cs }) o total nonleaf) (sym e) (facts_kept p o total nonleaf is)
