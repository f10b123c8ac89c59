-- What a search does at a box, and what it leaves to be opened.
use Rattle.std.proofs.Common.{arith, refl, ap, sym, subst, ◌∙◌, ◌≡◌, ℕ, ◌+◌, Bool, true, false, not, ◌||◌, List, length, ℤ, ◌≤ℤ◌, ◌<ℤ◌, Option, Some, None}
use Rattle.std.proofs.lemmas.Int.{ints}
use Rattle.boxed_problem.specs.Data.{Problem}
use Rattle.branch_bound.specs.Halves.{Halves, halves}
use Rattle.safe_bound.specs.Leasts.{least_value}
use Rattle.boxed_problem.specs.Objective.{value_of}
use Rattle.boxed_problem.specs.Optimum.{improves, priced}
use Rattle.branch_bound.specs.PlainSearch.{Progress, is_pruned, search, with_opened}
use Rattle.propagate.specs.Ranges.{misses_one}
use Rattle.boxed_problem.specs.Sides.{Within, corner}
use Rattle.boxed_problem.specs.declared.parts.Best.{Best}
use Rattle.boxed_problem.specs.declared.parts.Side.{Side}
use Rattle.base_words.proofs.Comparisons.{above_from_test, below_from_test, not_not, test_from_below}
use Rattle.base_words.proofs.Booleans.{or_left, or_right}
use Rattle.boxed_problem.proofs.Lying.{Single}
use Rattle.safe_bound.proofs.LeastLaws.{single_least}
use Rattle.boxed_problem.proofs.Listing.{corner_on, in_on}
use Rattle.boxed_problem.proofs.Lying.{corner_in, on_lies, within_trans}
use Rattle.propagate.proofs.RangeLaws.{rows_not_missed, single_met}
use Rattle.boxed_problem.proofs.RowTests.{feasible_from}
use Rattle.safe_bound.proofs.LeastLaws.{least_holds}
use Rattle.branch_bound.proofs.SearchLaws.{search_on}
use Rattle.branch_bound.specs.Narrowing.{Descends, Falls, IsFound, KeepsBetter, NoneBelow, NotPast}
use Rattle.branch_bound.specs.Frames.{IsOpen, Node}
use Rattle.branch_bound.proofs.Descending.{descends_holds, descends_past, descends_within, keeps_within, not_pruned_wider}

-- a box that the plain search leaves holds nothing that is below the best
pub pruned_none : (b : Problem) (best : Option Best) (box : List Side) → is_pruned b box best ≡ true → NoneBelow b best box
pruned_none b best box h x i m =
    let lies = on_lies box x (in_on box x i) in
    by_tests (misses_one (length b.rows) b.rows b.entries box) (improves (least_value b box) best) (improves (value_of b x) best) refl refl refl h (rows_not_missed (length b.rows) b.rows b.entries box x lies m) (least_holds b box x lies)
  where
    less : (best : Option Best) (a v : ℤ) → a ≤ℤ v → improves a best ≡ false → improves v best ≡ true → ⊥
    less None a v l e d = absurd cc
    less (Some r) a v l e d =
        let k = above_from_test a r.value e in
        let n = below_from_test v r.value d in
        absurd (omega (arith, ints))

    by_tests : (n i v : Bool) → misses_one (length b.rows) b.rows b.entries box ≡ n → improves (least_value b box) best ≡ i → improves (value_of b x) best ≡ v → (n || not i) ≡ true → misses_one (length b.rows) b.rows b.entries box ≡ false →
        least_value b box ≤ℤ value_of b x → v ≡ false
    by_tests true i v e f g t r l = absurd (let q : true ≡ false = sym e ∙ r in cc)
    by_tests false true v e f g t r l = absurd cc
    by_tests false false true e f g t r l = absurd (less best (least_value b box) (value_of b x) l f g)
    by_tests false false false e f g t r l = refl

-- what the sides of a box don't hold, the box doesn't
pub none_kept : (b : Problem) (best : Option Best) (box sides : List Side) → KeepsBetter b best box sides → NoneBelow b best sides → NoneBelow b best box
none_kept b best box sides k n x i m = by_test (improves (value_of b x) best) refl
  where
    by_test : (t : Bool) → improves (value_of b x) best ≡ t → t ≡ false
    by_test true e = sym e ∙ n x (k x i m e) m
    by_test false e = refl

pub keeps_trans : (b : Problem) (best : Option Best) (box sides narrow : List Side) → KeepsBetter b best box sides → KeepsBetter b best sides narrow → KeepsBetter b best box narrow
keeps_trans b best box sides narrow k l x i m d = l x (k x i m d) m d

-- the point of a single box that isn't pruned is below the best
pub point_falls : (b : Problem) (best : Option Best) (box : List Side) → Single box → is_pruned b box best ≡ false → Falls best (Some (priced b (corner box)))
point_falls b best box s e v d =
    let low = not_not (improves (least_value b box) best) (or_right (misses_one (length b.rows) b.rows b.entries box) (not (improves (least_value b box) best)) e) in
    lower best v (value_of b (corner box)) (below_from_test v (value_of b (corner box)) d) (ap (λ z. improves z best) (sym (single_least b box s)) ∙ low)
  where
    lower : (best : Option Best) (v w : ℤ) → v <ℤ w → improves w best ≡ true → improves v best ≡ true
    lower None v w l h = refl
    lower (Some r) v w l h = let k = below_from_test w r.value h in test_from_below v r.value (omega (arith, ints))

-- taking the point of the single box to which the sides lead
pub take_point : (b : Problem) (best : Option Best) (node : Node) (to : List Side) (n : ℕ) → IsOpen b best node → Descends node.sides node.whole to → halves to ≡ None → is_pruned b node.sides best ≡ false →
    NotPast (record { best = Some (priced b (corner to)); opened = n + 1 }) (search b node.whole (record { best = best; opened = n }))
take_point b best node to n o d none l =
    let p : Progress = record { best = best; opened = n } in
    let past = descends_past d b p o.inside.filled o.sides o.keeps l in
    let stays = not_pruned_wider b node.sides to best (descends_holds d o.sides) l in
    let step : search b to p ≡ record { best = Some (priced b (corner to)); opened = n + 1 } = search_on b to p None stays none in
    subst (λ q. NotPast q (search b node.whole p)) step past

-- halving the box to which the sides lead
pub halve_on : (b : Problem) (best : Option Best) (node : Node) (to : List Side) (h : Halves) (n : ℕ) → IsOpen b best node → Descends node.sides node.whole to → halves to ≡ Some h → is_pruned b node.sides best ≡ false →
    NotPast (search b h.high (search b h.low (record { best = best; opened = n + 1 }))) (search b node.whole (record { best = best; opened = n }))
halve_on b best node to h n o d some l =
    let p : Progress = record { best = best; opened = n } in
    let past = descends_past d b p o.inside.filled o.sides o.keeps l in
    let stays = not_pruned_wider b node.sides to best (descends_holds d o.sides) l in
    let step : search b to p ≡ search b h.high (search b h.low (with_opened p)) = search_on b to p (Some h) stays some in
    subst (λ q. NotPast q (search b node.whole p)) step past

-- going down keeps a node open
pub open_down : (b : Problem) (best : Option Best) (node : Node) (to : List Side) → IsOpen b best node → Descends node.sides node.whole to → IsOpen b best (record { whole = to; sides = node.sides })
open_down b best node to o d =
    let w = descends_within d o.inside.filled in
    record {
      inside = within_trans to node.whole b.columns w o.inside;
      sides = descends_holds d o.sides;
      keeps = keeps_within b best to node.whole node.sides w o.keeps;
    }

-- so does narrowing its sides
pub open_narrowed : (b : Problem) (best : Option Best) (node : Node) (sides : List Side) → IsOpen b best node → Within sides node.sides → KeepsBetter b best node.sides sides → IsOpen b best (record { whole = node.whole; sides = sides })
open_narrowed b best node sides o w k = record {
  inside = o.inside;
  sides = within_trans sides node.sides node.whole w o.sides;
  keeps = keeps_trans b best node.whole node.sides sides o.keeps k;
}

-- the point of a single box that isn't pruned is feasible
pub found_point : (b : Problem) (best : Option Best) (box : List Side) → Within box b.columns → Single box → is_pruned b box best ≡ false → IsFound b (Some (priced b (corner box)))
found_point b best box w s l =
    let lies = on_lies box (corner box) (corner_on box w.filled) in
    (feasible_from b (corner box) (corner_in box b.columns w) (single_met (length b.rows) b.rows b.entries box (corner box) s lies (or_left (misses_one (length b.rows) b.rows b.entries box) (not (improves (least_value b box) best)) l)), refl)
