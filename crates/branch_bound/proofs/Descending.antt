-- Down the halving tree to a box that holds the sides.
use Rattle.std.proofs.Common.{arith, refl, ap, sym, subst, ◌∙◌, ◌≡◌, ℕ, zero, suc, Bool, true, false, not, ◌&&◌, length, List, [], ◌∷◌, ℤ, ◌≤ℤ◌, Option, Some}
use Rattle.std.proofs.lemmas.Bool.{and_from, or_from}
use Rattle.std.proofs.lemmas.Int.{ints}
use Rattle.boxed_problem.specs.Data.{Problem}
use Rattle.boxed_problem.specs.BoxedFacts.{limits_at}
use Rattle.branch_bound.specs.Halves.{Halves, halves}
use Rattle.safe_bound.specs.Leasts.{least_part, least_value}
use Rattle.boxed_problem.specs.Objective.{value_of}
use Rattle.boxed_problem.specs.Odometer.{OnSides}
use Rattle.boxed_problem.specs.Optimum.{improves}
use Rattle.branch_bound.specs.PlainSearch.{Progress, is_pruned, search, with_opened}
use Rattle.boxed_problem.specs.Points.{InBox, box_points}
use Rattle.propagate.specs.Ranges.{high_activity, low_activity, misses, misses_one}
use Rattle.boxed_problem.specs.Rows.{is_above, is_below}
use Rattle.boxed_problem.specs.Sides.{Filled, Within, side_at}
use Rattle.base_words.specs.Sums.{number_at}
use Rattle.boxed_problem.specs.declared.parts.Best.{Best}
use Rattle.boxed_problem.specs.declared.parts.Entry.{Entry}
use Rattle.boxed_problem.specs.declared.parts.Limits.{Limits}
use Rattle.boxed_problem.specs.declared.parts.Side.{Side}
use Rattle.base_words.proofs.Comparisons.{both_left, both_right, not_not}
use Rattle.branch_bound.proofs.HalfLaws.{Cut, after, cut_of, filled_cut, here}
use Rattle.boxed_problem.proofs.Least.{best_after}
use Rattle.safe_bound.proofs.LeastLaws.{least_on-holds, least_on-le}
use Rattle.base_words.proofs.SumBounds.{sum_below-mono}
use Rattle.boxed_problem.proofs.Listing.{in_on}
use Rattle.branch_bound.proofs.HalfLaws.{cut_within}
use Rattle.boxed_problem.proofs.Lying.{filled_at, within_at, within_self, within_trans}
use Rattle.base_words.proofs.Booleans.{or_left, or_right}
use Rattle.propagate.proofs.RangeLaws.{above_more, below_less}
use Rattle.propagate.proofs.Widening.{high_falls, low_rises}
use Rattle.branch_bound.proofs.SearchLaws.{improves_less, search_best, search_on}
use Rattle.branch_bound.specs.Narrowing.{Descends, KeepsBetter, NoneBelow, NotPast}
use Rattle.branch_bound.proofs.Ahead.{below_after, none_past, not_past-search, not_past-trans}

-- a point on narrower sides lies in the box
pub in_wider : (inner outer : List Side) (x : List ℤ) → Within inner outer → InBox inner x → InBox outer x
in_wider inner outer x w h = record {
  long = h.long ∙ w.long;
  lower = λ j l. let p = w.lower j l in let q = h.lower j (omega (arith, w.long)) in omega (arith, ints);
  upper = λ j l. let p = w.upper j l in let q = h.upper j (omega (arith, w.long)) in omega (arith, ints);
}

-- no point lies in both halves
on_apart : {box low high : List Side} → Cut box low high → (x : List ℤ) → OnSides low x → OnSides high x → ⊥
on_apart (here s ss l) [] h k = h
on_apart (here s ss l) (v ∷ x) h k = absurd (omega (arith, ints, h.0.1, k.0.0))
on_apart (after s q c) [] h k = h
on_apart (after s q c) (v ∷ x) h k = on_apart c x h.1 k.1

pub apart : (box : List Side) (h : Halves) (x : List ℤ) → halves box ≡ Some h → InBox h.low x → InBox h.high x → ⊥
apart box h x e k l = on_apart (cut_of box h e) x (in_on h.low x k) (in_on h.high x l)

misses_wider : (limits : Limits) (low high down up : ℤ) → down ≤ℤ low → high ≤ℤ up → misses limits low high ≡ false → misses limits down up ≡ false
misses_wider limits low high down up h k e =
    let t = not_not (is_above limits.lower high && is_below limits.upper low) e in
    ap not (and_from (is_above limits.lower up) (is_below limits.upper down)
    (above_more limits.lower high up k (both_left (is_above limits.lower high) (is_below limits.upper low) t))
    (below_less limits.upper down low h (both_right (is_above limits.lower high) (is_below limits.upper low) t)))

none_missed_wider : (n : ℕ) (rows : List Limits) (entries : List Entry) (inner outer : List Side) → Within inner outer → misses_one n rows entries inner ≡ false → misses_one n rows entries outer ≡ false
none_missed_wider zero rows entries inner outer w e = refl
none_missed_wider (suc n) rows entries inner outer w e =
    or_from (misses_one n rows entries outer) (misses (limits_at rows n) (low_activity entries outer n) (high_activity entries outer n))
    (none_missed_wider n rows entries inner outer w (or_left (misses_one n rows entries inner) (misses (limits_at rows n) (low_activity entries inner n) (high_activity entries inner n)) e))
    (misses_wider (limits_at rows n) (low_activity entries inner n) (high_activity entries inner n) (low_activity entries outer n) (high_activity entries outer n)
    (low_rises entries inner outer n w)
    (high_falls entries inner outer n w)
    (or_right (misses_one n rows entries inner) (misses (limits_at rows n) (low_activity entries inner n) (high_activity entries inner n)) e))

-- a wider box has no greater least
least_wider : (b : Problem) (inner outer : List Side) → Within inner outer → least_value b outer ≤ℤ least_value b inner
least_wider b inner outer w =
    let s = sum_below-mono (length b.columns) (least_part b.line b.square outer) (least_part b.line b.square inner)
    (λ j m. let a = within_at inner outer w j in
    least_on-holds (λ v. least_part b.line b.square outer j ≤ℤ v) (number_at b.line j) (number_at b.square j) (side_at inner j) (filled_at inner w.filled j)
    (λ x l u. least_on-le (number_at b.line j) (number_at b.square j) (side_at outer j) x (omega (arith, ints, a.0)) (omega (arith, ints, a.1)))) in
    omega (arith, ints, s)

-- where the plain search wouldn't leave the sides, it doesn't leave a box that holds them
pub not_pruned_wider : (b : Problem) (inner outer : List Side) (best : Option Best) → Within inner outer → is_pruned b inner best ≡ false → is_pruned b outer best ≡ false
not_pruned_wider b inner outer best w e =
    or_from (misses_one (length b.rows) b.rows b.entries outer) (not (improves (least_value b outer) best))
    (none_missed_wider (length b.rows) b.rows b.entries inner outer w (or_left (misses_one (length b.rows) b.rows b.entries inner) (not (improves (least_value b inner) best)) e))
    (by_test (improves (least_value b outer) best) refl (not_not (improves (least_value b inner) best) (or_right (misses_one (length b.rows) b.rows b.entries inner) (not (improves (least_value b inner) best)) e)))
  where
    by_test : (t : Bool) → improves (least_value b outer) best ≡ t → improves (least_value b inner) best ≡ true → not t ≡ false
    by_test true d k = refl
    by_test false d k =
        let f = improves_less best (least_value b outer) (least_value b inner) (least_wider b inner outer w) d in
        absurd (let g : true ≡ false = sym k ∙ f in cc)

-- what holds of no point of a box below an earlier best holds below a later one
none_later : (b : Problem) (best : Option Best) (box : List Side) (xs : List (List ℤ)) → NoneBelow b best box → NoneBelow b (best_after b best xs) box
none_later b best box xs h x i m = by_test (improves (value_of b x) (best_after b best xs)) refl
  where
    by_test : (t : Bool) → improves (value_of b x) (best_after b best xs) ≡ t → t ≡ false
    by_test true e = sym (below_after b best xs (value_of b x) e) ∙ h x i m
    by_test false e = refl

-- where nothing of the high half is below the best, the search of the low half is not past that of the box
low_past : (b : Problem) (box : List Side) (h : Halves) (p : Progress) → halves box ≡ Some h → Filled box → is_pruned b box p.best ≡ false → NoneBelow b p.best h.high → NotPast (search b h.low p) (search b box p)
low_past b box h p e f l none =
    let g = filled_cut (cut_of box h e) f in
    let t = search b h.low (with_opened p) in
    let step : search b box p ≡ search b h.high t = search_on b box p (Some h) l e in
    let first = not_past-search b h.low p (with_opened p) g.0 (record { best = refl; opened = omega arith }) in
    let rest : NoneBelow b t.best h.high = subst (λ o. NoneBelow b o h.high) (sym (search_best b h.low (with_opened p) g.0)) (none_later b p.best h.high (box_points h.low) none) in
    let past = none_past b h.high t g.1 rest in
    let second : NotPast t (search b h.high t) = record { best = past.best; opened = omega (arith, past.opened) } in
    subst (λ u. NotPast (search b h.low p) u) (sym step) (not_past-trans (search b h.low p) t (search b h.high t) first second)

-- the same where nothing of the low half is
high_past : (b : Problem) (box : List Side) (h : Halves) (p : Progress) → halves box ≡ Some h → Filled box → is_pruned b box p.best ≡ false → NoneBelow b p.best h.low → NotPast (search b h.high p) (search b box p)
high_past b box h p e f l none =
    let g = filled_cut (cut_of box h e) f in
    let step : search b box p ≡ search b h.high (search b h.low (with_opened p)) = search_on b box p (Some h) l e in
    let past = none_past b h.low (with_opened p) g.0 none in
    let first : NotPast p (search b h.low (with_opened p)) = record { best = past.best; opened = omega (arith, past.opened) } in
    subst (λ u. NotPast (search b h.high p) u) (sym step) (not_past-search b h.high p (search b h.low (with_opened p)) g.1 first)

-- the half that doesn't hold the sides holds nothing below the best
low_none : (b : Problem) (best : Option Best) (box sides : List Side) (h : Halves) → halves box ≡ Some h → Filled box → Within sides h.high → KeepsBetter b best box sides → NoneBelow b best h.low
low_none b best box sides h e f w k x i m = by_test (improves (value_of b x) best) refl
  where
    by_test : (t : Bool) → improves (value_of b x) best ≡ t → t ≡ false
    by_test true d =
        let c = cut_within (cut_of box h e) f in
        absurd (apart box h x e i (in_wider sides h.high x w (k x (in_wider h.low box x c.0 i) m d)))
    by_test false d = refl

high_none : (b : Problem) (best : Option Best) (box sides : List Side) (h : Halves) → halves box ≡ Some h → Filled box → Within sides h.low → KeepsBetter b best box sides → NoneBelow b best h.high
high_none b best box sides h e f w k x i m = by_test (improves (value_of b x) best) refl
  where
    by_test : (t : Bool) → improves (value_of b x) best ≡ t → t ≡ false
    by_test true d =
        let c = cut_within (cut_of box h e) f in
        absurd (apart box h x e (in_wider sides h.low x w (k x (in_wider h.high box x c.1 i) m d)) i)
    by_test false d = refl

-- a box further down lies in the one above
pub descends_within : {sides box to : List Side} → Descends sides box to → Filled box → Within to box
descends_within (Descends.here box) f = within_self box f
descends_within (Descends.low {box = box} {mid = mid} h d e w) f =
    let v = descends_within d f in
    within_trans h.low mid box (cut_within (cut_of mid h e) v.filled).0 v
descends_within (Descends.high {box = box} {mid = mid} h d e w) f =
    let v = descends_within d f in
    within_trans h.high mid box (cut_within (cut_of mid h e) v.filled).1 v

-- it holds the sides
pub descends_holds : {sides box to : List Side} → Descends sides box to → Within sides box → Within sides to
descends_holds (Descends.here box) v = v
descends_holds (Descends.low h d e w) v = w
descends_holds (Descends.high h d e w) v = w

-- and the sides keep what is better in it
pub keeps_within : (b : Problem) (best : Option Best) (to box sides : List Side) → Within to box → KeepsBetter b best box sides → KeepsBetter b best to sides
keeps_within b best to box sides w k x i m d = k x (in_wider to box x w i) m d

-- the search of a box further down is not past that of the one above
pub descends_past : {sides box to : List Side} → Descends sides box to → (b : Problem) (p : Progress) → Filled box → Within sides box → KeepsBetter b p.best box sides → is_pruned b sides p.best ≡ false →
    NotPast (search b to p) (search b box p)
descends_past (Descends.here box) b p f w k l = record { best = refl; opened = omega arith }
descends_past {sides = sides} (Descends.low {box = box} {mid = mid} h d e v) b p f w k l =
    let m = descends_within d f in
    let s = descends_holds d w in
    let none = high_none b p.best mid sides h e m.filled v (keeps_within b p.best mid box sides m k) in
    not_past-trans (search b h.low p) (search b mid p) (search b box p)
    (low_past b mid h p e m.filled (not_pruned_wider b sides mid p.best s l) none) (descends_past d b p f w k l)
descends_past {sides = sides} (Descends.high {box = box} {mid = mid} h d e v) b p f w k l =
    let m = descends_within d f in
    let s = descends_holds d w in
    let none = low_none b p.best mid sides h e m.filled v (keeps_within b p.best mid box sides m k) in
    not_past-trans (search b h.high p) (search b mid p) (search b box p)
    (high_past b mid h p e m.filled (not_pruned_wider b sides mid p.best s l) none) (descends_past d b p f w k l)
