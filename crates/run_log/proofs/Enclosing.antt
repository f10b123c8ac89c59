-- The pairs of a run's log enclose the least cost of a plan, and what the last ones come with proves them.
use Rattle.std.proofs.Common.{arith, ◌≡◌, ◌<◌, ◌∙◌, ◌⊎◌, inl, inr, ℕ, zero, suc, ◌+◌, ◌*◌, ℤ, pos, ◌≤ℤ◌, List, [], ◌∷◌, ◌++◌, take, replicate, get_or, Option, Some, None, Bool, true, false, nat_lt, refl, sym, ap, subst}
use Rattle.std.specs.Prelude.{IfSome, option_map, if◌then◌else◌}
use Rattle.std.specs.Int.{int_max, int_min}
use Rattle.std.specs.List.{All, AllByRecursion, Contains, filter_map, fold}
use Rattle.std.specs.Ordering.{int_eq}
use Rattle.std.proofs.lemmas.Bool.Decides.{Decides-int_eq}
use Rattle.std.proofs.lemmas.Int.{fold-int_max_reached, fold-int_min_reached}
use Rattle.std.proofs.lemmas.List.Elements.{All-contains, All-from_recursion, recursion_from_All}
use Rattle.std.proofs.lemmas.Option.{IfSome_then, slice_get-get_or}
use Rattle.base_words.specs.Sums.{number_at}
use Rattle.base_words.proofs.ListSums.{sum_z-same, sum_z-zero}
use Rattle.bound_ledger.specs.Pairs.{least, lower_of, pair_after, upper_of}
use Rattle.bound_ledger.specs.declared.ledger.Bound.{Bound}
use Rattle.bound_ledger.specs.declared.ledger.Bound.TheVariants as bound
use Rattle.bound_ledger.specs.declared.ledger.Pair.{Pair}
use Rattle.lagrangian_spoke.specs.Answering.{IsAnswer, IsPut}
use Rattle.log_words.specs.Replies.{reply_of}
use Rattle.log_words.specs.declared.log.Answer.TheVariants.{Reply}
use Rattle.put_words.proofs.Following.{nothing_sized}
use Rattle.put_words.proofs.Rises.{put_sized}
use Rattle.put_words.proofs.Unpriced.{dual_of_nothing}
use Rattle.put_words.specs.NextMultipliers.{no_multipliers}
use Rattle.run_log.specs.Enclosing.{IsLowerBound, IsPlanned, IsUpperBound, Proves, TellsBounds, pair_reached}
use Rattle.run_log.specs.Events.{bound_from, bounds_of, HasPair, pair_in, present}
use Rattle.run_log.specs.Runs.{IsFirstPut, IsRun, multipliers_of, plan_of, upper_at}
use Rattle.run_log.specs.declared.log.Event.{Event}
use Rattle.run_log.specs.declared.log.Event.TheVariants.{Put, Take}
use Rattle.run_log.specs.declared.log.Log.{Log}
use Rattle.run_log.specs.declared.log.Upper.{Upper}
use Rattle.run_log.proofs.SoundBounds.{IsCostAt, IsSound, IsSoundIn, PutsAreBalanced, PutsAreThere, append_sound, events_sound, reply_dual}
use Rattle.sp_model.proofs.Duality.{dual_below, wait_and_see_below}
use Rattle.sp_model.specs.Plans.{AreBalanced, IsOptimum, multiplier_of}
use Rattle.sp_model.specs.Problems.{scenarios, wait_and_see_of}
use Rattle.sp_model.specs.declared.plan.Multipliers.{Multipliers}
use Rattle.sp_model.specs.declared.run.Run.{Run}

-- a greatest and a least number is one of those that it is of
greatest_held : (P : ℤ → Type 0) (first : ℤ) (values : List ℤ) → P first → AllByRecursion P values → P (fold int_max first values)
greatest_held P first values h all = by_place (fold-int_max_reached first values (fold int_max first values) refl)
  where
    by_place : (fold int_max first values ≡ first) ⊎ Contains values (fold int_max first values) → P (fold int_max first values)
    by_place (inl e) = subst P (sym e) h
    by_place (inr has) = All-contains P values (fold int_max first values) (All-from_recursion P values all) has

least_held : (P : ℤ → Type 0) (values : List ℤ) → AllByRecursion P values → IfSome (least values) P
least_held P [] all = tt
least_held P (v ∷ vs) (one, all) = by_place (fold-int_min_reached v vs (fold int_min v vs) refl)
  where
    by_place : (fold int_min v vs ≡ v) ⊎ Contains vs (fold int_min v vs) → P (fold int_min v vs)
    by_place (inl e) = subst P (sym e) one
    by_place (inr has) = All-contains P vs (fold int_min v vs) (All-from_recursion P vs all) has

lowers_sound : (run : Run) (p : ℕ) (bounds : List Bound) → AllByRecursion (IsSound run p) bounds → AllByRecursion (IsLowerBound run) (filter_map lower_of bounds)
lowers_sound run p [] all = tt
lowers_sound run p (bound.Lower v ∷ bounds) (one, all) = (one, lowers_sound run p bounds all)
lowers_sound run p (bound.Upper v ∷ bounds) (one, all) = lowers_sound run p bounds all
lowers_sound run p (bound.Nothing ∷ bounds) (one, all) = lowers_sound run p bounds all

uppers_sound : (run : Run) (p : ℕ) (bounds : List Bound) → AllByRecursion (IsSound run p) bounds → AllByRecursion (IsCostAt run p) (filter_map upper_of bounds)
uppers_sound run p [] all = tt
uppers_sound run p (bound.Lower v ∷ bounds) (one, all) = uppers_sound run p bounds all
uppers_sound run p (bound.Upper v ∷ bounds) (one, all) = (one, uppers_sound run p bounds all)
uppers_sound run p (bound.Nothing ∷ bounds) (one, all) = uppers_sound run p bounds all

bounds_sound : (run : Run) (p : ℕ) (events : List Event) → AllByRecursion (IsSoundIn run p) events → AllByRecursion (IsSound run p) (bounds_of events)
bounds_sound run p [] all = tt
bounds_sound run p (Put k ∷ events) (one, all) = bounds_sound run p events all
bounds_sound run p (Take source k value lower upper ∷ events) (one, all) = (one, bounds_sound run p events all)

take_sound : {X : Type 0} (P : X → Type 0) (n : ℕ) (xs : List X) → AllByRecursion P xs → AllByRecursion P (take n xs)
take_sound P zero xs all = tt
take_sound P (suc n) [] all = tt
take_sound P (suc n) (x ∷ xs) (one, all) = (one, take_sound P n xs all)

-- a pair whose upper bound is the cost of put p's points
record IsPairAt (run : Run) (p : ℕ) (pair : Pair) : Type 0 where
  pub lower : IsLowerBound run pair.lower
  pub upper : IfSome pair.upper (IsCostAt run p)

pair_sound : (run : Run) (p : ℕ) (first : ℤ) (bounds : List Bound) → IsLowerBound run first → AllByRecursion (IsSound run p) bounds → IsPairAt run p (pair_after first bounds)
pair_sound run p first bounds h all = record {
  lower = greatest_held (IsLowerBound run) first (filter_map lower_of bounds) h (lowers_sound run p bounds all);
  upper = least_held (IsCostAt run p) (filter_map upper_of bounds) (uppers_sound run p bounds all);
}

first_below : (run : Run) (first : ℤ) → wait_and_see_of run ≡ Some first → IsLowerBound run first
first_below run first e = λ plan is. wait_and_see_below run first plan e is

some_cost : (run : Run) (p : ℕ) (upper : Option ℤ) → IfSome upper (IsCostAt run p) → IfSome upper (IsUpperBound run)
some_cost run p upper h = IfSome_then upper h (λ v is. (plan_of run p, is.0, is.1))

-- what a take tells is the pair of the bounds up to it
told_sound : (run : Run) (p : ℕ) (first : ℤ) (before : List Event) (event : Event) → IsLowerBound run first → AllByRecursion (IsSound run p) (bounds_of before) → IsSoundIn run p event → HasPair first before event → TellsBounds run event
told_sound run p first before (Put k) h all one told = tt
told_sound run p first before (Take source k value lower upper) h all one told =
    let pair : Pair = record { lower = lower; upper = upper } in
    let whole = append_sound (IsSound run p) (bounds_of before) (bound_from source value ∷ []) all (one, tt) in
    let is : IsPairAt run p pair = subst (IsPairAt run p) (sym told) (pair_sound run p first (bounds_of before ++ bound_from source value ∷ []) h whole) in
    (is.lower, some_cost run p upper is.upper)

-- an upper bound and its plan
with_plan : (run : Run) (p : ℕ) (upper : Option ℤ) → IfSome upper (IsCostAt run p) → IfSome (option_map (upper_at run p) upper) (IsPlanned run)
with_plan run p None h = tt
with_plan run p (Some v) h = h

-- multipliers of 0 are balanced
zero_at : (n i : ℕ) → number_at (replicate n (pos 0)) i ≡ pos 0
zero_at zero i = refl
zero_at (suc n) zero = refl
zero_at (suc n) (suc i) = zero_at n i

nothing_at : (run : Run) (s j : ℕ) → multiplier_of run (no_multipliers run) s j ≡ pos 0
nothing_at run s j = by_test (nat_lt j run.nonleaf)
  where
    by_test : (b : Bool) → (if b then number_at (no_multipliers run).values (s * run.nonleaf + j) else pos 0) ≡ pos 0
    by_test true = zero_at (scenarios run * run.nonleaf) (s * run.nonleaf + j)
    by_test false = refl

nothing_balanced : (run : Run) → AreBalanced run (no_multipliers run)
nothing_balanced run i d l j h e =
    let members = (get_or run.program.tree.nodes i d).scenarios in
    sum_z-same (λ s. multiplier_of run (no_multipliers run) s j) (λ s. pos 0) members (recursion_from_All (λ s. multiplier_of run (no_multipliers run) s j ≡ pos 0) members (λ k e2 m. nothing_at run (get_or members k e2) j)) ∙ sum_z-zero members

-- what proves the wait-and-see bound, and a reply to put k
nothing_proves : (run : Run) (first : ℤ) → wait_and_see_of run ≡ Some first → Proves run (no_multipliers run) first
nothing_proves run first e = record { sized = nothing_sized run; balanced = nothing_balanced run; dual = dual_of_nothing run ∙ e }

put_proves : PutsAreBalanced → (run : Run) (i k : ℕ) (v : ℤ) → i < run.options.lagrangian → IsPut run k → reply_of run i k ≡ Some v → Proves run (multipliers_of run k) v
put_proves balanced run i k v l put e =
    let found = reply_dual run i k v l e in
    let made = found.0 in
    let same : multipliers_of run k ≡ made.put.multipliers = let x = found.1 in cc in
    subst (λ m. Proves run m v) (sym same)
    (record { sized = put_sized run k made put.last found.1; balanced = balanced run k made found.1; dual = found.2 })

module _ (puts : PutsAreThere) (balanced : PutsAreBalanced) (run : Run) (log : Log) (is : IsRun run log) where
  start : IsLowerBound run log.first
  start = first_below run log.first is.first

  sound : AllByRecursion (IsSoundIn run (present is.polled)) log.events
  sound = events_sound puts balanced run log is

  sound_to : (n : ℕ) → AllByRecursion (IsSound run (present is.polled)) (bounds_of (take n log.events))
  sound_to n = bounds_sound run (present is.polled) (take n log.events) (take_sound (IsSoundIn run (present is.polled)) n log.events sound)

  pair_is : (n : ℕ) → IsPairAt run (present is.polled) (pair_reached log n)
  pair_is n = pair_sound run (present is.polled) log.first (bounds_of (take n log.events)) start (sound_to n)

  pub lower_is : (n : ℕ) → IsLowerBound run (pair_reached log n).lower
  lower_is n = (pair_is n).lower

  pub upper_is : (n : ℕ) → IfSome (pair_reached log n).upper (IsUpperBound run)
  upper_is n = some_cost run (present is.polled) (pair_reached log n).upper (pair_is n).upper

  pub told_is : All (TellsBounds run) log.events
  told_is n d l =
      let event = get_or log.events n d in
      let one = All-from_recursion (IsSoundIn run (present is.polled)) log.events sound n d l in
      told_sound run (present is.polled) log.first (take n log.events) event start (sound_to n) one (is.pairs n event (slice_get-get_or log.events n d l))

  pub plan_is : IfSome log.upper (IsPlanned run)
  plan_is =
      let pair = pair_sound run (present is.polled) log.first (bounds_of log.events) start (bounds_sound run (present is.polled) log.events sound) in
      subst (λ told. IfSome told (IsPlanned run)) (sym is.upper) (with_plan run (present is.polled) (pair_in log.first log.events).upper pair.upper)

  reply_proves : (k : ℕ) → IsFirstPut log.spokes log.lower k → Proves run (multipliers_of run k) log.lower
  reply_proves k found =
      let there = found.there in
      let spoke = is.spokes there.0 there.1 (slice_get-get_or log.spokes there.0 there.1 there.2 ∙ ap Some there.3) in
      let answer = All-contains (IsAnswer run there.0) there.1.answers (Reply k (Some log.lower)) spoke.answers.right there.4 in
      put_proves balanced run there.0 k log.lower (omega (arith, there.2, is.many)) answer.0 (sym answer.1)

  pub multipliers_prove : Proves run log.multipliers log.lower
  multipliers_prove = by_first (int_eq log.lower log.first) refl
    where
      by_first : (b : Bool) → int_eq log.lower log.first ≡ b → Proves run log.multipliers log.lower
      by_first true e =
          let same = (Decides-int_eq log.lower log.first).0 e in
          subst (λ (z : Multipliers × ℤ). Proves run z.0 z.1) (λ i. (sym (is.multipliers.at_first same) i, sym same i)) (nothing_proves run log.first is.first)
      by_first false e =
          let other : log.lower ≡ log.first → ⊥ = λ f. let t = sym ((Decides-int_eq log.lower log.first).1 f) ∙ e in let x = t in cc in
          let found = is.multipliers.later other in
          subst (λ m. Proves run m log.lower) (sym found.2) (reply_proves found.0 found.1)

  pub last_is : IsLowerBound run log.lower
  last_is plan is_plan =
      dual_below run log.multipliers log.lower plan multipliers_prove.balanced multipliers_prove.dual is_plan

  pub optimum_is : (cost : ℤ) → IsOptimum run (Some cost) → (log.lower ≤ℤ cost) × IfSome log.upper (λ (upper : Upper). cost ≤ℤ upper.value)
  optimum_is cost (plan, best) = (
    subst (λ c. log.lower ≤ℤ c) best.cost_is (last_is plan best.plan_is),
    IfSome_then log.upper plan_is (λ upper planned. subst (λ c. cost ≤ℤ c) planned.1 (best.least upper.plan planned.0)),
  )
