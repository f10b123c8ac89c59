-- A search that begins with something to beat, beside the plain one.
use Rattle.std.proofs.Common.{arith, refl, ap, sym, ◌∙◌, ◌≡◌, ℕ, zero, suc, ◌<◌, ◌≤◌, Bool, true, false, not, ◌&&◌, ◌||◌, length, List, [], ◌∷◌, ◌++◌, ℤ, Option, Some, None, if◌then◌else◌, int_lt, ◌<ℤ◌, ◌≤ℤ◌}
use Rattle.std.proofs.lemmas.Bool.{and_left, and_right}
use Rattle.std.proofs.lemmas.Int.{ints}
use Rattle.std.specs.List.{AllByRecursion, filter}
use Rattle.boxed_problem.specs.Data.{Problem}
use Rattle.branch_bound.specs.Halves.{Halves, halves}
use Rattle.safe_bound.specs.Leasts.{least_value}
use Rattle.boxed_problem.specs.Objective.{value_of}
use Rattle.boxed_problem.specs.Odometer.{OnSides}
use Rattle.boxed_problem.specs.Optimum.{IsBest, best_of, first_least, improves, lower_of, meets_all, priced}
use Rattle.branch_bound.specs.PlainSearch.{Progress, go_on, is_pruned, nothing_yet, ref_count, search, search_all, width, with_opened}
use Rattle.boxed_problem.specs.Points.{box_points}
use Rattle.propagate.specs.Ranges.{misses_one}
use Rattle.boxed_problem.specs.Sides.{Filled}
use Rattle.boxed_problem.specs.declared.parts.Best.{Best}
use Rattle.boxed_problem.specs.declared.parts.Side.{Side}
use Rattle.base_words.proofs.Comparisons.{above_from_test, below_from_test, test_from_below, test_from_above}
use Rattle.branch_bound.proofs.HalfLaws.{cut_of, filled_cut, narrower}
use Rattle.boxed_problem.proofs.Least.{best_after, best_after-is, merged, merged_none}
use Rattle.boxed_problem.proofs.Listing.{on_in}
use Rattle.boxed_problem.proofs.Members.{listed_on}
use Rattle.boxed_problem.proofs.Optimal.{best_is}
use Rattle.branch_bound.proofs.SearchLaws.{search_all-opens, search_all-push, search_best, search_finds, search_pruned, search_on, search_opens_one}
use Rattle.branch_bound.specs.Narrowing.{IsBar, NoneBelow, NotPast}

-- beside a search that began with nothing, one that began with something to beat: its best is the other's where that is below
-- what it began with, and else still that; and it has opened at most as many boxes
pub record Ahead (start : Option Best) (p q : Progress) : Type 0 where
  pub best : p.best ≡ merged start q.best
  pub opened : p.opened ≤ q.opened

lower_three : (a p r : Best) → lower_of (lower_of a (Some p)) (Some r) ≡ lower_of a (Some (lower_of p (Some r)))
lower_three a p r = by_tests (int_lt p.value a.value) (int_lt r.value p.value) (int_lt r.value a.value) refl refl refl
  where
    by_tests : (t u w : Bool) → int_lt p.value a.value ≡ t → int_lt r.value p.value ≡ u → int_lt r.value a.value ≡ w →
        lower_of (if t then p else a) (Some r) ≡ lower_of a (Some (if u then r else p))
    by_tests true true true e f g = ap (λ q. if q then r else p) f ∙ sym (ap (λ q. if q then r else a) g)
    by_tests true true false e f g = absurd (grind (arith, ints))
    by_tests true false w e f g = ap (λ q. if q then r else p) f ∙ sym (ap (λ q. if q then p else a) e)
    by_tests false true w e f g = refl
    by_tests false false true e f g = absurd (grind (arith, ints))
    by_tests false false false e f g = ap (λ q. if q then r else a) g ∙ sym (ap (λ q. if q then p else a) e)

merged_merged : (a o f : Option Best) → merged (merged a o) f ≡ merged a (merged o f)
merged_merged None None None = refl
merged_merged None None (Some r) = refl
merged_merged None (Some p) None = refl
merged_merged None (Some p) (Some r) = refl
merged_merged (Some a) None None = refl
merged_merged (Some a) None (Some r) = refl
merged_merged (Some a) (Some p) None = refl
merged_merged (Some a) (Some p) (Some r) = ap (λ z. Some z) (lower_three a p r)

-- what there was to beat at the start may be put in at the end
after_merged : (b : Problem) (start best : Option Best) (xs : List (List ℤ)) → best_after b (merged start best) xs ≡ merged start (best_after b best xs)
after_merged b start best xs =
    best_after-is b (merged start best) xs
    ∙ (merged_merged start best (first_least b (filter (meets_all b) xs)) ∙ ap (λ o. merged start o) (sym (best_after-is b best xs)))

-- what is below the lower of two is below each
below_later : (v : ℤ) (a o : Option Best) → improves v (merged a o) ≡ true → improves v o ≡ true
below_later v a None h = refl
below_later v None (Some r) h = h
below_later v (Some a) (Some r) h = by_test (int_lt r.value a.value) refl h
  where
    by_test : (t : Bool) → int_lt r.value a.value ≡ t → int_lt v (if t then r else a).value ≡ true → int_lt v r.value ≡ true
    by_test true e k = k
    by_test false e k =
        let l = above_from_test r.value a.value e in
        let m = below_from_test v a.value k in
        test_from_below v r.value (omega (arith, ints))

below_earlier : (v : ℤ) (a o : Option Best) → improves v (merged a o) ≡ true → improves v a ≡ true
below_earlier v None o h = refl
below_earlier v (Some a) None h = h
below_earlier v (Some a) (Some r) h = by_test (int_lt r.value a.value) refl h
  where
    by_test : (t : Bool) → int_lt r.value a.value ≡ t → int_lt v (if t then r else a).value ≡ true → int_lt v a.value ≡ true
    by_test true e k =
        let l = below_from_test r.value a.value e in
        let m = below_from_test v r.value k in
        test_from_below v a.value (omega (arith, ints))
    by_test false e k = k

-- a best so far only falls
pub below_after : (b : Problem) (best : Option Best) (xs : List (List ℤ)) (v : ℤ) → improves v (best_after b best xs) ≡ true → improves v best ≡ true
below_after b best xs v h = below_earlier v best (first_least b (filter (meets_all b) xs)) (ap (λ o. improves v o) (sym (best_after-is b best xs)) ∙ h)

-- a box that isn't pruned where there is more to beat isn't pruned
not_pruned_later : (b : Problem) (box : List Side) (start best : Option Best) → is_pruned b box (merged start best) ≡ false → is_pruned b box best ≡ false
not_pruned_later b box start best h =
    by_tests (misses_one (length b.rows) b.rows b.entries box) (improves (least_value b box) (merged start best)) (improves (least_value b box) best) h (below_later (least_value b box) start best)
  where
    by_tests : (m i j : Bool) → (m || not i) ≡ false → (i ≡ true → j ≡ true) → (m || not j) ≡ false
    by_tests true i j h k = absurd cc
    by_tests false false j h k = absurd cc
    by_tests false true true h k = refl
    by_tests false true false h k = absurd (let e = k refl in cc)

ahead_best : (b : Problem) (start : Option Best) (box : List Side) (p q : Progress) → Filled box → p.best ≡ merged start q.best → (search b box p).best ≡ merged start (search b box q).best
ahead_best b start box p q f e =
    search_best b box p f
    ∙ (ap (λ o. best_after b o (box_points box)) e
    ∙ (after_merged b start q.best (box_points box) ∙ ap (λ o. merged start o) (sym (search_best b box q f))))

fewer : (n : ℕ) (b : Problem) (start : Option Best) (box : List Side) (p q : Progress) → Filled box → width box < n → Ahead start p q → (search b box p).opened ≤ (search b box q).opened
fewer zero b start box p q f w a = absurd (omega arith)
fewer (suc n) b start box p q f w a = by_test (is_pruned b box p.best) refl
    (λ h e s t k. let cut = cut_of box h e in let g = filled_cut cut f in let m = narrower cut in
    let first = fewer n b start h.low s t g.0 (omega (arith, m.0)) k in
    fewer n b start h.high (search b h.low s) (search b h.low t) g.1 (omega (arith, m.1)) (record { best = ahead_best b start h.low s t g.0 k.best; opened = first }))
  where
    by_halves : (o : Option Halves) → halves box ≡ o → ((h : Halves) → halves box ≡ Some h → (s t : Progress) → Ahead start s t → (search b h.high (search b h.low s)).opened ≤ (search b h.high (search b h.low t)).opened) →
        (go_on (search b) b box o (with_opened p)).opened ≤ (go_on (search b) b box o (with_opened q)).opened
    by_halves None e r = omega (arith, a.opened)
    by_halves (Some h) e r = r h e (with_opened p) (with_opened q) (record { best = a.best; opened = omega (arith, a.opened) })

    by_test : (t : Bool) → is_pruned b box p.best ≡ t → ((h : Halves) → halves box ≡ Some h → (s t : Progress) → Ahead start s t → (search b h.high (search b h.low s)).opened ≤ (search b h.high (search b h.low t)).opened) →
        (search b box p).opened ≤ (search b box q).opened
    by_test true e r =
        let left = ap (λ (s : Progress). s.opened) (search_pruned b box p e) in
        let one = search_opens_one b box q in
        omega (arith, left, one, a.opened)
    by_test false e r =
        let stays = not_pruned_later b box start q.best (ap (λ o. is_pruned b box o) (sym a.best) ∙ e) in
        let one = ap (λ (s : Progress). s.opened) (search_on b box p (halves box) e refl) in
        let two = ap (λ (s : Progress). s.opened) (search_on b box q (halves box) stays refl) in
        omega (arith, one, two, by_halves (halves box) refl r)

-- the plain search of a box keeps one search ahead of another
ahead_search : (b : Problem) (start : Option Best) (box : List Side) (p q : Progress) → Filled box → Ahead start p q → Ahead start (search b box p) (search b box q)
ahead_search b start box p q f a = record { best = ahead_best b start box p q f a.best; opened = fewer (suc (width box)) b start box p q f (omega arith) a }

-- the search of the whole box from something to beat
pub ahead_start : (b : Problem) (start : Option Best) → Filled b.columns → Ahead start (search b b.columns (record { best = start; opened = 0 })) (search b b.columns nothing_yet)
ahead_start b start f = ahead_search b start b.columns (record { best = start; opened = 0 }) nothing_yet f (record { best = refl; opened = omega arith })

pub not_past-ahead : (p q r : Progress) (start : Option Best) → NotPast p q → Ahead start q r → Ahead start p r
not_past-ahead p q r start h a = record { best = h.best ∙ a.best; opened = omega (arith, h.opened, a.opened) }

pub not_past-trans : (p q r : Progress) → NotPast p q → NotPast q r → NotPast p r
not_past-trans p q r h k = record { best = h.best ∙ k.best; opened = omega (arith, h.opened, k.opened) }

-- the plain search keeps a search not past another
pub not_past-search : (b : Problem) (box : List Side) (p q : Progress) → Filled box → NotPast p q → NotPast (search b box p) (search b box q)
not_past-search b box p q f h =
    let a = ahead_search b None box p q f (record { best = h.best ∙ sym (merged_none q.best); opened = h.opened }) in
    record { best = a.best ∙ merged_none (search b box q).best; opened = a.opened }

pub not_past-all : (b : Problem) (boxes : List (List Side)) (p q : Progress) → AllByRecursion Filled boxes → NotPast p q → NotPast (search_all b boxes p) (search_all b boxes q)
not_past-all b [] p q f h = h
not_past-all b (box ∷ boxes) p q f h = not_past-search b box (search_all b boxes p) (search_all b boxes q) f.0 (not_past-all b boxes p q f.1 h)

-- where no point of a box is below the best, none is taken
none_taken : (b : Problem) (box : List Side) (best : Option Best) (xs : List (List ℤ)) → AllByRecursion (OnSides box) xs → NoneBelow b best box → best_after b best xs ≡ best
none_taken b box best [] a h = refl
none_taken b box best (x ∷ xs) a h = ap (λ o. best_after b o xs) (ap (λ t. if t then Some (priced b x) else best) (by_test (meets_all b x) refl)) ∙ none_taken b box best xs a.1 h
  where
    by_test : (t : Bool) → meets_all b x ≡ t → (meets_all b x && improves (value_of b x) best) ≡ false
    by_test true e = and_right (meets_all b x) (improves (value_of b x) best) (h x (on_in box x a.0) e)
    by_test false e = and_left (meets_all b x) (improves (value_of b x) best) e

-- a box without a point below the best is opened for nothing
pub none_past : (b : Problem) (box : List Side) (p : Progress) → Filled box → NoneBelow b p.best box → NotPast (with_opened p) (search b box p)
none_past b box p f h = record {
  best = sym (search_best b box p f ∙ none_taken b box p.best (box_points box) (listed_on box f) h);
  opened = omega (arith, search_opens_one b box p);
}

-- where a box is still to be opened, the plain search opens more
pub ahead_spent : (b : Problem) (start : Option Best) (boxes : List (List Side)) (box : List Side) (best : Option Best) (n : ℕ) →
    Ahead start (search_all b (boxes ++ box ∷ []) (record { best = best; opened = n })) (search b b.columns nothing_yet) → n < ref_count b
ahead_spent b start boxes box best n a =
    let p = ap (λ (q : Progress). q.opened) (search_all-push b boxes box (record { best = best; opened = n })) in
    let q = search_opens_one b box (record { best = best; opened = n }) in
    let r = search_all-opens b boxes (search b box (record { best = best; opened = n })) in
    omega (arith, p, q, r, a.opened)

-- where no box is left to open, the best so far is the best of all
pub ahead_done : (b : Problem) (start best : Option Best) (n : ℕ) → Filled b.columns → IsBar b start → Ahead start (record { best = best; opened = n }) (search b b.columns nothing_yet) → best_of b ≡ best
ahead_done b start best n f k a = sym (a.best ∙ (ap (λ o. merged start o) (search_finds b f) ∙ beaten start (best_of b) k (best_is b (best_of b) f refl)))
  where
    beaten : (start o : Option Best) → IsBar b start → IsBest b o → merged start o ≡ o
    beaten None o k h = merged_none o
    beaten (Some bar) None k h = absurd (h k.0 k.1)
    beaten (Some bar) (Some r) k h =
        let least = h.least k.0 k.1 in
        ap (λ t. Some (if t then r else bar)) (test_from_below r.value bar.value (omega (arith, ints, k.2)))

-- where the other search's best is below what this one began with, it is this one's
best_below : (bar r : Best) (p q : Progress) → Ahead (Some bar) p q → q.best ≡ Some r → r.value <ℤ bar.value → p.best ≡ Some r
best_below bar r p q a e l = a.best ∙ (ap (λ o. merged (Some bar) o) e ∙ ap (λ t. Some (if t then r else bar)) (test_from_below r.value bar.value l))

-- else this one has none but what it began with
best_not_below : (bar r : Best) (p q : Progress) → Ahead (Some bar) p q → q.best ≡ Some r → bar.value ≤ℤ r.value → p.best ≡ Some bar
best_not_below bar r p q a e l = a.best ∙ (ap (λ o. merged (Some bar) o) e ∙ ap (λ t. Some (if t then r else bar)) (test_from_above r.value bar.value l))

best_none : (bar : Best) (p q : Progress) → Ahead (Some bar) p q → q.best ≡ None → p.best ≡ Some bar
best_none bar p q a e = a.best ∙ ap (λ o. merged (Some bar) o) e
