-- The plain search step by step, and that no depth cuts it short.
use Rattle.std.proofs.Common.{arith, refl, ap, sym, ◌∙◌, ◌≡◌, ℕ, zero, suc, ◌+◌, ◌<◌, ◌≤◌, Bool, true, false, not, ◌&&◌, ◌||◌, List, [], ◌∷◌, ◌++◌, length, ℤ, ◌≤ℤ◌, Option, Some, None, if◌then◌else◌}
use Rattle.std.proofs.lemmas.Bool.{and_left, and_right}
use Rattle.std.proofs.lemmas.Int.{ints}
use Rattle.std.proofs.lemmas.List.Sums.{fold-append}
use Rattle.std.specs.List.{AllByRecursion}
use Rattle.branch_bound.specs.Halves.{Halves, halves}
use Rattle.safe_bound.specs.Leasts.{least_value}
use Rattle.boxed_problem.specs.Objective.{value_of}
use Rattle.boxed_problem.specs.Odometer.{OnSides}
use Rattle.boxed_problem.specs.Optimum.{best_of, better, improves, meets_all, priced}
use Rattle.branch_bound.specs.PlainSearch.{Progress, go_on, is_pruned, nothing_yet, search, search_all, search_within, width, with_opened}
use Rattle.boxed_problem.specs.Points.{box_points}
use Rattle.propagate.specs.Ranges.{misses_one}
use Rattle.boxed_problem.specs.Sides.{Filled, corner}
use Rattle.boxed_problem.specs.declared.parts.Best.{Best}
use Rattle.boxed_problem.specs.declared.parts.Side.{Side}
use Rattle.boxed_problem.specs.Data.{Problem}
use Rattle.boxed_problem.proofs.Lying.{Single}
use Rattle.branch_bound.proofs.HalfLaws.{cut_of, filled_cut, narrower, points_cut, points_single, single_of}
use Rattle.boxed_problem.proofs.Least.{best_after, best_of-is}
use Rattle.safe_bound.proofs.LeastLaws.{least_holds, single_least}
use Rattle.boxed_problem.proofs.Listing.{corner_on}
use Rattle.boxed_problem.proofs.Lying.{Lies, on_lies}
use Rattle.boxed_problem.proofs.Members.{listed_on}
use Rattle.propagate.proofs.RangeLaws.{rows_not_missed, single_met}
use Rattle.base_words.proofs.Comparisons.{above_from_test, not_not, test_from_above}
use Rattle.base_words.proofs.Booleans.{or_left, or_right}

-- two searches that agree on the halves go on alike
go_on-same : (f g : List Side → Progress → Progress) (b : Problem) (box : List Side) (o : Option Halves) (p : Progress) →
    ((h : Halves) → o ≡ Some h → ((q : Progress) → f h.low q ≡ g h.low q) × ((q : Progress) → f h.high q ≡ g h.high q)) → go_on f b box o p ≡ go_on g b box o p
go_on-same f g b box None p h = refl
go_on-same f g b box (Some c) p h =
    let r = h c refl in
    ap (λ q. f c.high q) (r.0 p) ∙ r.1 (g c.low p)

-- a depth above the width is enough
depth_enough : (m n : ℕ) (b : Problem) (box : List Side) (p : Progress) → width box < m → width box < n → search_within m b box p ≡ search_within n b box p
unfolding search_within
depth_enough zero n b box p h k = absurd (omega arith)
depth_enough (suc m) zero b box p h k = absurd (omega arith)
depth_enough (suc m) (suc n) b box p h k =
    ap (λ q. if is_pruned b box p.best then with_opened p else q)
    (go_on-same (λ half q. search_within m b half q) (λ half q. search_within n b half q) b box (halves box) (with_opened p)
    (λ c e. let w = narrower (cut_of box c e) in (
      λ q. depth_enough m n b c.low q (omega (arith, w.0)) (omega (arith, w.0)),
      λ q. depth_enough m n b c.high q (omega (arith, w.1)) (omega (arith, w.1)),
    )))

-- the search of a box, by what it does first
pub search_step : (b : Problem) (box : List Side) (p : Progress) → search b box p ≡ (if is_pruned b box p.best then with_opened p else go_on (search b) b box (halves box) (with_opened p))
unfolding search search_within
search_step b box p =
    ap (λ q. if is_pruned b box p.best then with_opened p else q)
    (go_on-same (λ half q. search_within (width box) b half q) (search b) b box (halves box) (with_opened p)
    (λ c e. let w = narrower (cut_of box c e) in (
      λ q. depth_enough (width box) (suc (width c.low)) b c.low q w.0 (omega arith),
      λ q. depth_enough (width box) (suc (width c.high)) b c.high q w.1 (omega arith),
    )))

-- a box that is pruned is opened for nothing
pub search_pruned : (b : Problem) (box : List Side) (p : Progress) → is_pruned b box p.best ≡ true → search b box p ≡ with_opened p
search_pruned b box p e = search_step b box p ∙ ap (λ t. if t then with_opened p else go_on (search b) b box (halves box) (with_opened p)) e

-- a box that isn't pruned is halved, or gives its point
pub search_on : (b : Problem) (box : List Side) (p : Progress) (o : Option Halves) → is_pruned b box p.best ≡ false → halves box ≡ o → search b box p ≡ go_on (search b) b box o (with_opened p)
search_on b box p o e d =
    search_step b box p
    ∙ (ap (λ t. if t then with_opened p else go_on (search b) b box (halves box) (with_opened p)) e ∙ ap (λ h. go_on (search b) b box h (with_opened p)) d)

-- where a least isn't below the best value, no point's value is
pub improves_less : (best : Option Best) (a v : ℤ) → a ≤ℤ v → improves a best ≡ false → improves v best ≡ false
improves_less None a v h e = absurd cc
improves_less (Some r) a v h e = let k = above_from_test a r.value e in test_from_above v r.value (omega (arith, ints))

-- the best so far stays at each point of a box that is pruned
pruned_stays : (b : Problem) (box : List Side) (best : Option Best) (x : List ℤ) → Lies box x → is_pruned b box best ≡ true → better b best x ≡ best
pruned_stays b box best x h e = ap (λ t. if t then Some (priced b x) else best) (not_taken (misses_one (length b.rows) b.rows b.entries box) (improves (least_value b box) best) refl refl e)
  where
    not_met : (t : Bool) → meets_all b x ≡ t → misses_one (length b.rows) b.rows b.entries box ≡ true → t ≡ false
    not_met true d m = sym m ∙ rows_not_missed (length b.rows) b.rows b.entries box x h d
    not_met false d m = refl

    not_taken : (m i : Bool) → misses_one (length b.rows) b.rows b.entries box ≡ m → improves (least_value b box) best ≡ i → (m || not i) ≡ true → (meets_all b x && improves (value_of b x) best) ≡ false
    not_taken true i d k f = and_left (meets_all b x) (improves (value_of b x) best) (not_met (meets_all b x) refl d)
    not_taken false true d k f = absurd cc
    not_taken false false d k f = and_right (meets_all b x) (improves (value_of b x) best) (improves_less best (least_value b box) (value_of b x) (least_holds b box x h) k)

stays : (b : Problem) (box : List Side) (best : Option Best) (xs : List (List ℤ)) → AllByRecursion (OnSides box) xs → is_pruned b box best ≡ true → best_after b best xs ≡ best
stays b box best [] a e = refl
stays b box best (x ∷ xs) a e = ap (λ o. best_after b o xs) (pruned_stays b box best x (on_lies box x a.0) e) ∙ stays b box best xs a.1 e

-- a box may be left
pruned_sound : (b : Problem) (box : List Side) (best : Option Best) → Filled box → is_pruned b box best ≡ true → best_after b best (box_points box) ≡ best
pruned_sound b box best f e = stays b box best (box_points box) (listed_on box f) e

-- the point of a box of single columns that isn't pruned is a new best one
single_taken : (b : Problem) (box : List Side) (best : Option Best) → Filled box → Single box → is_pruned b box best ≡ false → best_after b best (box_points box) ≡ Some (priced b (corner box))
single_taken b box best f s e =
    let lies = on_lies box (corner box) (corner_on box f) in
    let met = single_met (length b.rows) b.rows b.entries box (corner box) s lies (or_left (misses_one (length b.rows) b.rows b.entries box) (not (improves (least_value b box) best)) e) in
    let low = not_not (improves (least_value b box) best) (or_right (misses_one (length b.rows) b.rows b.entries box) (not (improves (least_value b box) best)) e) in
    let value = ap (λ v. improves v best) (sym (single_least b box s)) ∙ low in
    ap (λ ps. best_after b best ps) (points_single box s) ∙ (ap (λ t. if t && improves (value_of b (corner box)) best then Some (priced b (corner box)) else best) met ∙ ap (λ t. if t then Some (priced b (corner box)) else best) value)

-- the search of a box goes on to the best after all its points
go_on-best : (g : List Side → Progress → Progress) (b : Problem) (box : List Side) (o : Option Halves) (p : Progress) → halves box ≡ o → Filled box → is_pruned b box p.best ≡ false →
    ((h : Halves) → o ≡ Some h → ((q : Progress) → (g h.low q).best ≡ best_after b q.best (box_points h.low)) × ((q : Progress) → (g h.high q).best ≡ best_after b q.best (box_points h.high))) →
    (go_on g b box o (with_opened p)).best ≡ best_after b p.best (box_points box)
go_on-best g b box None p e f l h = sym (single_taken b box p.best f (single_of box f e) l)
go_on-best g b box (Some c) p e f l h =
    let r = h c refl in
    let cut = points_cut (cut_of box c e) f in
    r.1 (g c.low (with_opened p))
    ∙ (ap (λ o. best_after b o (box_points c.high)) (r.0 (with_opened p))
    ∙ (sym (fold-append (better b) p.best (box_points c.low) (box_points c.high)) ∙ sym (ap (λ ps. best_after b p.best ps) cut)))

within_best : (n : ℕ) (b : Problem) (box : List Side) (p : Progress) → Filled box → width box < n → (search_within n b box p).best ≡ best_after b p.best (box_points box)
unfolding search_within
within_best zero b box p f w = absurd (omega arith)
within_best (suc n) b box p f w = by_test (is_pruned b box p.best) refl
    (λ l. go_on-best (λ half q. search_within n b half q) b box (halves box) p refl f l
    (λ c e. let cut = cut_of box c e in let k = narrower cut in let g = filled_cut cut f in (
      λ q. within_best n b c.low q g.0 (omega (arith, k.0)),
      λ q. within_best n b c.high q g.1 (omega (arith, k.1)),
    )))
  where
    by_test : (t : Bool) → is_pruned b box p.best ≡ t → (is_pruned b box p.best ≡ false → (go_on (λ half q. search_within n b half q) b box (halves box) (with_opened p)).best ≡ best_after b p.best (box_points box)) →
        (if t then with_opened p else go_on (λ half q. search_within n b half q) b box (halves box) (with_opened p)).best ≡ best_after b p.best (box_points box)
    by_test true e r = sym (pruned_sound b box p.best f e)
    by_test false e r = r e

-- the search of a box finds the best of its points
pub search_best : (b : Problem) (box : List Side) (p : Progress) → Filled box → (search b box p).best ≡ best_after b p.best (box_points box)
unfolding search
search_best b box p f = within_best (suc (width box)) b box p f (omega arith)

-- the search of the whole box finds the best
pub search_finds : (b : Problem) → Filled b.columns → (search b b.columns nothing_yet).best ≡ best_of b
search_finds b filled = search_best b b.columns nothing_yet filled ∙ best_of-is b

go_on-opens : (g : List Side → Progress → Progress) → ((box : List Side) (p : Progress) → p.opened ≤ (g box p).opened) → (b : Problem) (box : List Side) (o : Option Halves) (p : Progress) → p.opened ≤ (go_on g b box o p).opened
go_on-opens g h b box None p = omega arith
go_on-opens g h b box (Some c) p = omega (arith, h c.low p, h c.high (g c.low p))

within_opens : (n : ℕ) (b : Problem) (box : List Side) (p : Progress) → p.opened ≤ (search_within n b box p).opened
unfolding search_within
within_opens zero b box p = omega arith
within_opens (suc n) b box p =
    by_test (is_pruned b box p.best) (go_on-opens (λ half q. search_within n b half q) (λ half q. within_opens n b half q) b box (halves box) (with_opened p))
  where
    by_test : (t : Bool) → p.opened + 1 ≤ (go_on (λ half q. search_within n b half q) b box (halves box) (with_opened p)).opened →
        p.opened ≤ (if t then with_opened p else go_on (λ half q. search_within n b half q) b box (halves box) (with_opened p)).opened
    by_test true h = omega arith
    by_test false h = omega (arith, h)

-- the count of opened boxes never falls
search_opens : (b : Problem) (box : List Side) (p : Progress) → p.opened ≤ (search b box p).opened
unfolding search
search_opens b box p = within_opens (suc (width box)) b box p

-- the search of a box opens at least this one
pub search_opens_one : (b : Problem) (box : List Side) (p : Progress) → p.opened < (search b box p).opened
search_opens_one b box p = omega (arith, ap (λ (q : Progress). q.opened) (search_step b box p), by_test (is_pruned b box p.best))
  where
    by_test : (t : Bool) → p.opened < (if t then with_opened p else go_on (search b) b box (halves box) (with_opened p)).opened
    by_test true = omega arith
    by_test false = omega (arith, go_on-opens (search b) (λ half q. search_opens b half q) b box (halves box) (with_opened p))

pub search_all-push : (b : Problem) (boxes : List (List Side)) (box : List Side) (p : Progress) → search_all b (boxes ++ box ∷ []) p ≡ search_all b boxes (search b box p)
search_all-push b [] box p = refl
search_all-push b (c ∷ boxes) box p = ap (λ q. search b c q) (search_all-push b boxes box p)

pub search_all-opens : (b : Problem) (boxes : List (List Side)) (p : Progress) → p.opened ≤ (search_all b boxes p).opened
search_all-opens b [] p = omega arith
search_all-opens b (box ∷ boxes) p = omega (arith, search_all-opens b boxes p, search_opens b box (search_all b boxes p))
