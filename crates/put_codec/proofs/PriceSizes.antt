-- How great the prices of the candidates become that are made of a put.
use Rattle.std.proofs.Common.{arith, refl, sym, ap, subst, ◌≡◌, ℕ, ◌*◌, ◌%◌, ◌^◌, ◌<◌, ◌≤◌, nat_lt, Bool, true, false, List, [], ◌∷◌, ◌++◌, length, map, get_or, ℤ, ◌≤ℤ◌, unsigned_abs, Option, Some, None, if◌then◌else◌}
use Rattle.std.proofs.lemmas.Int.{clamps, ints}
use Rattle.std.proofs.lemmas.List.{length-map}
use Rattle.std.proofs.lemmas.List.Elements.{recursion_from_All}
use Rattle.std.proofs.lemmas.List.FromFn.{length-map-range_with_len}
use Rattle.std.proofs.lemmas.Nat.{mod_below}
use Rattle.std.proofs.Math.Nat.{mul-le-mul}
use Rattle.std.specs.Int.{int_min}
use Rattle.std.specs.List.{AllByRecursion, cons_option, filter_map, fold, range_with_len, reduce}
use Rattle.base_words.specs.Sums.{number_at, size_below}
use Rattle.base_words.proofs.FirstAnswers.{same_some}
use Rattle.base_words.proofs.Made.{made_at}
use Rattle.base_words.proofs.Magnitudes.{abs_between}
use Rattle.base_words.proofs.NumberTests.{less_from_test}
use Rattle.base_words.proofs.SumBounds.{size_below-mono}
use Rattle.boxed_problem.specs.BoxedFacts.{column_size}
use Rattle.boxed_problem.specs.Sides.{Filled, no_side, reach, side_at}
use Rattle.boxed_problem.specs.declared.parts.Side.{Side}
use Rattle.boxed_problem.proofs.Lying.{filled_at}
use Rattle.tree_core.specs.Nodes.{no_node, scenarios_at}
use Rattle.sp_model.specs.Changes.{side_of, sides}
use Rattle.sp_model.specs.Problems.{factor_of, least_of, problem_in, scenarios}
use Rattle.sp_model.specs.declared.run.Run.{Run}
use Rattle.sp_model.proofs.CostSpans.{cost_span, plain_span}
use Rattle.sp_model.proofs.LeastSums.{line_room, sum_span}
use Rattle.sp_model.proofs.LeastValues.{least_abs}
use Rattle.sp_model.proofs.ScenarioPoints.{run_filled}
use Rattle.put_words.specs.NodeSums.{AreInside, node_for}
use Rattle.put_words.proofs.Rises.{node_below}
use Rattle.log_words.specs.Candidates.{Candidate, cut, fixed_in, mean_of, picked, price_of, single}
use Rattle.log_words.specs.Replies.{least_price, tried}

-- a value lies on a side
abbrev pub LiesOn : Side → ℤ → Type 0
LiesOn side v = (side.lower ≤ℤ v) × (v ≤ℤ side.upper)

-- the values of a candidate lie in their columns' boxes
abbrev pub AreLying : Run → Candidate → Type 0
AreLying run c = (s j : ℕ) → s < scenarios run → j < run.nonleaf → LiesOn (side_at (sides run.program) j) (c s j)

picked_lie : (run : Run) (x : List ℤ) (number : ℕ) → AreInside run x → AreLying run (picked run x number)
picked_lie run x number inside s j l h =
    let n = node_for run s j in
    let fact = run.facts.tree.nodes n no_node (node_below run s j l h) in
    let ns = scenarios_at run.program.tree.nodes n in
    let place = number % length ns in
    let own : get_or ns place 0 < scenarios run = fact.there place 0 (mod_below number (length ns) fact.filled) in
    (inside.lower (get_or ns place 0) j own h, inside.upper (get_or ns place 0) j own h)

cut_lies : (side : Side) (v : ℤ) → side.lower ≤ℤ side.upper → LiesOn side (cut side v)
cut_lies side v filled = (omega (arith, ints, clamps, filled), omega (arith, ints, clamps, filled))

mean_lies : (run : Run) (x : List ℤ) → AreLying run (mean_of run x)
mean_lies run x s j l h = cut_lies (side_at (sides run.program) j) _ (filled_at (sides run.program) (run_filled run) j)

-- so do those of all that a spoke tries
picked_all : (run : Run) (x : List ℤ) → AreInside run x → (ns : List ℕ) → AllByRecursion (AreLying run) (map (picked run x) ns)
picked_all run x inside [] = tt
picked_all run x inside (n ∷ ns) = (picked_lie run x n inside, picked_all run x inside ns)

both_all : {A : Type 0} (P : A → Type 0) (xs ys : List A) → AllByRecursion P xs → AllByRecursion P ys → AllByRecursion P (xs ++ ys)
both_all P [] ys h k = k
both_all P (x ∷ xs) ys h k = (h.0, both_all P xs ys h.1 k)

mean_all : (run : Run) (x : List ℤ) (b : Bool) → AllByRecursion (AreLying run) (if b then mean_of run x ∷ [] else [])
mean_all run x true = (mean_lies run x, tt)
mean_all run x false = tt

tried_lie : (run : Run) (x : List ℤ) (m : ℕ) → AreInside run x → AllByRecursion (AreLying run) (tried run x m)
tried_lie run x m inside = both_all (AreLying run) (map (picked run x) (range_with_len (m * run.options.candidates) run.options.candidates)) _ (picked_all run x inside (range_with_len (m * run.options.candidates) run.options.candidates)) (mean_all run x _)

-- a scenario's problem under a candidate whose values lie in their boxes
abbrev pick_side : Side → Side → Bool → Side
pick_side a b t = if t then a else b

abbrev side_in : Run → Candidate → ℕ → ℕ → Side
side_in run c s j = pick_side (single (c s j)) (side_at (sides run.program) j) (nat_lt j run.nonleaf)

module _ (run : Run) (c : Candidate) (s : ℕ) (l : s < scenarios run) (lie : (j : ℕ) → j < run.nonleaf → LiesOn (side_at (sides run.program) j) (c s j)) where
  abbrev box : List Side
  box = map (side_in run c s) (range_with_len 0 (length run.program.columns))

  box_long : length box ≡ length run.program.columns
  box_long = length-map-range_with_len (side_in run c s) 0 (length run.program.columns)

  -- what holds of each column's side and of a value on it holds of the sides under the candidate
  side_is : (P : Side → Type 0) (j : ℕ) → (j < run.nonleaf → P (single (c s j))) → P (side_at (sides run.program) j) → (t : Bool) → nat_lt j run.nonleaf ≡ t → P (pick_side (single (c s j)) (side_at (sides run.program) j) t)
  side_is P j own free true e = own (less_from_test j run.nonleaf e)
  side_is P j own free false e = free

  each_filled : (k : ℕ) (d : Side) → k < length box → (get_or box k d).lower ≤ℤ (get_or box k d).upper
  each_filled k d h =
      let there : k < length run.program.columns = omega (arith, h, box_long) in
      subst (λ (z : Side). z.lower ≤ℤ z.upper) (sym (made_at (side_in run c s) (length run.program.columns) k d there))
      (side_is (λ (z : Side). z.lower ≤ℤ z.upper) k (λ early. omega (arith, ints)) (filled_at (sides run.program) (run_filled run) k) (nat_lt k run.nonleaf) refl)

  box_filled : Filled box
  box_filled = recursion_from_All (λ (z : Side). z.lower ≤ℤ z.upper) box each_filled

  single_reach : (side : Side) (v : ℤ) → LiesOn side v → reach (single v) ≤ reach side
  single_reach side v on = omega (arith, abs_between side.lower side.upper v on.0 on.1)

  box_reach : (j : ℕ) → j < length run.program.columns → reach (side_at box j) ≤ reach (side_at (sides run.program) j)
  box_reach j h =
      let whole = side_at (sides run.program) j in
      let same : reach whole ≤ reach whole = omega arith in
      subst (λ (z : Side). reach z ≤ reach whole) (sym (made_at (side_in run c s) (length run.program.columns) j no_side h))
      (side_is (λ (z : Side). reach z ≤ reach whole) j (λ early. single_reach whole (c s j) (lie j early)) same (nat_lt j run.nonleaf) refl)

  column_le : (line square : List ℤ) (j : ℕ) → j < length run.program.columns → column_size box line square j ≤ column_size (sides run.program) line square j
  column_le line square j h =
      let r = box_reach j h in
      let a : unsigned_abs (number_at line j) ≤ unsigned_abs (number_at line j) = omega arith in
      let b : unsigned_abs (number_at square j) ≤ unsigned_abs (number_at square j) = omega arith in
      omega (arith, mul-le-mul a r, mul-le-mul b (mul-le-mul r r))

  least_small : (v : ℤ) → least_of (fixed_in run c s) ≡ Some v → unsigned_abs v ≤ unsigned_abs (factor_of run s) * cost_span run.program
  least_small v e =
      let p = problem_in run s in
      let n = length run.program.columns in
      let part = column_size box p.line p.square in
      let whole = column_size (sides run.program) p.line p.square in
      let each = size_below-mono n part whole (column_le p.line p.square) in
      let inner = ap (λ k. size_below k part) box_long in
      let outer = ap (λ k. size_below k whole) (length-map run.program.columns side_of) in
      omega (arith, least_abs (fixed_in run c s) v box_filled e, plain_span run s l, each, inner, outer)

-- a price
price_small : (run : Run) (c : Candidate) (v : ℤ) → AreLying run c → price_of run c ≡ Some v → unsigned_abs v ≤ 2 ^ 119
unfolding price_of
price_small run c v lie e =
    let n = scenarios run in
    let all : n ≤ n = omega arith in
    let bound = sum_span (λ s. least_of (fixed_in run c s)) (λ s. unsigned_abs (factor_of run s)) (cost_span run.program) 0 n v (λ s u l d. omega (arith, least_small run c s l (λ j h. lie s j l h) u d)) e in
    omega (arith, bound, line_room run n all)

abbrev IsSmall : ℤ → Type 0
IsSmall v = unsigned_abs v ≤ 2 ^ 119

one_more : (o : Option ℤ) (vs : List ℤ) → ((v : ℤ) → o ≡ Some v → IsSmall v) → AllByRecursion IsSmall vs → AllByRecursion IsSmall (cons_option o vs)
one_more None vs own rest = rest
one_more (Some v) vs own rest = (own v refl, rest)

prices_small : (run : Run) (cs : List Candidate) → AllByRecursion (AreLying run) cs → AllByRecursion IsSmall (filter_map (price_of run) cs)
prices_small run [] h = tt
prices_small run (c ∷ cs) h = one_more (price_of run c) (filter_map (price_of run) cs) (λ v e. price_small run c v h.0 e) (prices_small run cs h.1)

fold_small : (a : ℤ) (vs : List ℤ) → IsSmall a → AllByRecursion IsSmall vs → IsSmall (fold int_min a vs)
fold_small a [] own rest = own
fold_small a (v ∷ vs) own rest = let next = rest.0 in fold_small (int_min a v) vs (omega (arith, ints, clamps, own, next)) rest.1

least_in : (vs : List ℤ) (v : ℤ) → AllByRecursion IsSmall vs → reduce int_min vs ≡ Some v → IsSmall v
least_in [] v h e = absurd (let x = e in cc)
least_in (u ∷ us) v h e = subst IsSmall (same_some e) (fold_small u us h.0 h.1)

-- the least price of what a spoke tries
pub least_price_small : (run : Run) (x : List ℤ) (m : ℕ) (v : ℤ) → AreInside run x → least_price run (tried run x m) ≡ Some v → unsigned_abs v ≤ 2 ^ 119
least_price_small run x m v inside e = least_in (filter_map (price_of run) (tried run x m)) v (prices_small run (tried run x m) (tried_lie run x m inside)) e
