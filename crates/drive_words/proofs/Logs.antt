-- A log that is closed behind the last world of a schedule is the one that the schedule gives.

use Rattle.std.proofs.Common.{arith, refl, sym, ap, subst, ◌∙◌, ◌≡◌, ◌≢◌, ◌⊎◌, inl, inr, ℕ, ◌≤◌, min, Bool, true, false, List, [], ◌∷◌, ◌++◌, length, get_or, map, drop, ℤ, Option, Some, None, if◌then◌else◌, slice_get, option_map}
use Rattle.std.specs.List.{AllByRecursion, Contains, cons_option, filter_map, flat_map, fold, reduce}
use Rattle.std.specs.Option.{unwrap_or}
use Rattle.std.specs.Ordering.{int_eq}
use Rattle.std.proofs.lemmas.Int.{ints}
use Rattle.std.proofs.lemmas.List.{append-nil, append_assoc, length-append}
use Rattle.std.proofs.lemmas.List.Elements.{Contains-append_cases, Contains-append_left, Contains-append_right, recursion_from_All}
use Rattle.std.proofs.lemmas.List.Concat.{flat_map-cons}
use Rattle.std.proofs.lemmas.List.Sums.{fold-append}
use Rattle.std.proofs.lemmas.Option.{slice_get-get_or}
use Rattle.std.proofs.Math.Seq.{get_or-append_seam, take-append_seam}
use Rattle.base_words.proofs.FirstAnswers.{same_some}
use Rattle.bound_ledger.specs.declared.ledger.Pair.{Pair}
use Rattle.log_words.specs.declared.log.Answer.{Answer}
use Rattle.log_words.specs.declared.log.Answer.TheVariants.{Reply, Skip}
use Rattle.log_words.specs.declared.log.SpokeLog.{SpokeLog}
use Rattle.sp_model.specs.declared.run.Run.{Run}
use Rattle.sp_model.specs.declared.plan.Multipliers.{Multipliers}
use Rattle.put_words.specs.NextMultipliers.{no_multipliers}
use Rattle.schedule_lines.specs.declared.schedule.Turn.{Turn}
use Rattle.run_log.specs.Events.{EachBehind, HasPair, pair_in, present, present_with}
use Rattle.run_log.specs.Runs.{BacksLower, Claim, IsFirstPut, IsNoEarlier, IsRun, claim_of, left_from, multipliers_of, own_claims, upper_at}
use Rattle.run_log.specs.declared.log.End.{End}
use Rattle.run_log.specs.declared.log.End.TheVariants.{Iterations}
use Rattle.run_log.specs.declared.log.Event.{Event}
use Rattle.run_log.specs.declared.log.Event.TheVariants.{Put, Take}
use Rattle.run_log.specs.declared.log.Log.{Log}
use Rattle.drive_words.specs.Worlds.{World, put_at}
use Rattle.drive_words.specs.Steps.{take_with}
use Rattle.drive_words.specs.Driving.{Cuts, IsDriven, backing_of, claimed, closed, cuts_of, first_put, last_world, log_closed, log_of, logs_in, put_with}

-- THE CLOSING TAKES

some_claim : {X : Type 0} (k : ℕ) (c : Claim) → claim_of (Put k) ≡ Some c → X
some_claim k c e = absurd cc

module _ (first : ℤ) where
  one_closes : (old : List Event) (event : Event) (c : Claim) → claim_of event ≡ Some c → HasPair first old event → old ++ event ∷ [] ≡ claimed first old c
  one_closes old (Put k) c e pair = some_claim k c e
  one_closes old (Take source k value lower upper) c e pair =
      ap (λ (p : Pair). old ++ take_with source k value p ∷ []) pair
      ∙ ap (claimed first old) (same_some e)

  pub closes : (claims : List Claim) (old closing : List Event) → map claim_of closing ≡ map Some claims → EachBehind (HasPair first) (old ++ closing) → old ++ closing ≡ fold (claimed first) old claims
  closes [] old [] e pairs = append-nil old
  closes [] old (event ∷ closing) e pairs = absurd (let n = ap length e in cc)
  closes (c ∷ claims) old [] e pairs = absurd (let n = ap length e in cc)
  closes (c ∷ claims) old (event ∷ closing) e pairs =
      let head : claim_of event ≡ Some c = ap (λ (xs : List (Option Claim)). get_or xs 0 None) e in
      let rest : map claim_of closing ≡ map Some claims = ap (λ (xs : List (Option Claim)). drop 1 xs) e in
      let all = old ++ event ∷ closing in
      let n = length-append old (event ∷ closing) in
      let here : slice_get all (length old) ≡ Some event = slice_get-get_or all (length old) event (omega (arith, n)) ∙ ap Some (get_or-append_seam old event closing event) in
      let pair : HasPair first old event = subst (λ (xs : List Event). HasPair first xs event) (take-append_seam old (event ∷ closing)) (pairs (length old) event here) in
      let one = one_closes old event c head pair in
      let turn : old ++ event ∷ closing ≡ (old ++ event ∷ []) ++ closing = sym (append_assoc old (event ∷ []) closing) in
      turn ∙ (closes claims (old ++ event ∷ []) closing rest (subst (EachBehind (HasPair first)) turn pairs) ∙ ap (λ (xs : List Event). fold (claimed first) xs claims) one)

-- takes leave the present put
takes_present : (claims : List Claim) (closing : List Event) (n : ℕ) → map claim_of closing ≡ map Some claims → fold present_with n closing ≡ n
takes_present [] [] n e = refl
takes_present [] (event ∷ closing) n e = absurd (let m = ap length e in cc)
takes_present (c ∷ claims) [] n e = refl
takes_present (c ∷ claims) (Put k ∷ closing) n e = some_claim k c (ap (λ (xs : List (Option Claim)). get_or xs 0 None) e)
takes_present (c ∷ claims) (Take source k value lower upper ∷ closing) n e = takes_present claims closing n (ap (λ (xs : List (Option Claim)). drop 1 xs) e)

pub same_present : (claims : List Claim) (old closing : List Event) → map claim_of closing ≡ map Some claims → present (old ++ closing) ≡ present old
same_present claims old closing e = fold-append present_with 0 old closing ∙ takes_present claims closing (present old) e

-- THE FIRST PUT OF A BOUND

head_or_rest : {X : Type 0} (a : X) (xs : List X) (x : X) → Contains (a ∷ xs) x → (a ≡ x) ⊎ Contains xs x
head_or_rest a xs x c = split (Contains-append_cases (a ∷ []) xs x c) where
  split : Contains (a ∷ []) x ⊎ Contains xs x → (a ≡ x) ⊎ Contains xs x
  split (inl one) = inl (let l = one.1 in let at : one.0 ≡ 0 = omega (arith, l) in ap (λ n. get_or (a ∷ []) n x) (sym at) ∙ one.2)
  split (inr rest) = inr rest

fold_min : (xs : List ℕ) (x k : ℕ) → k ≤ x → AllByRecursion (λ y. k ≤ y) xs → (x ≡ k) ⊎ Contains xs k → fold min x xs ≡ k
fold_min [] x k l all (inl e) = e
fold_min [] x k l all (inr c) = absurd (let n = c.1 in omega (arith, n))
fold_min (y ∷ ys) x k l all (inl e) = let low = all.0 in fold_min ys (min x y) k (omega (arith, l, low)) all.1 (inl (omega (arith, e, low)))
fold_min (y ∷ ys) x k l all (inr c) = let low = all.0 in fold_min ys (min x y) k (omega (arith, l, low)) all.1 (next (head_or_rest y ys k c)) where
  next : (y ≡ k) ⊎ Contains ys k → (min x y ≡ k) ⊎ Contains ys k
  next (inl e) = inl (omega (arith, e, l))
  next (inr rest) = inr rest

reduce_min : (xs : List ℕ) (k : ℕ) → AllByRecursion (λ y. k ≤ y) xs → Contains xs k → unwrap_or (reduce min xs) 0 ≡ k
reduce_min [] k all c = absurd (let n = c.1 in omega (arith, n))
reduce_min (x ∷ xs) k all c = fold_min xs x k all.0 all.1 (head_or_rest x xs k c)

-- what some items give is among what all give, and so is what holds of it
cons_has : {Y : Type 0} (o : Option Y) (ys : List Y) (y : Y) → o ≡ Some y → Contains (cons_option o ys) y
cons_has None ys y e = absurd cc
cons_has (Some v) ys y e = (0, omega arith, same_some e)

cons_keeps : {Y : Type 0} (o : Option Y) (ys : List Y) (y : Y) → Contains ys y → Contains (cons_option o ys) y
cons_keeps None ys y c = c
cons_keeps (Some v) ys y c = Contains-append_right (v ∷ []) ys y c

filter_has : {X Y : Type 0} (h : X → Option Y) (xs : List X) (x : X) (y : Y) → h x ≡ Some y → Contains xs x → Contains (filter_map h xs) y
filter_has h [] x y e c = absurd (let n = c.1 in omega (arith, n))
filter_has h (a ∷ xs) x y e c = has_by (head_or_rest a xs x c) (λ rest. filter_has h xs x y e rest) where
  has_by : (a ≡ x) ⊎ Contains xs x → (Contains xs x → Contains (filter_map h xs) y) → Contains (cons_option (h a) (filter_map h xs)) y
  has_by (inl same) rest = cons_has (h a) (filter_map h xs) y (ap h same ∙ e)
  has_by (inr c) rest = cons_keeps (h a) (filter_map h xs) y (rest c)

cons_all : {Y : Type 0} (Q : Y → Type 0) (o : Option Y) (ys : List Y) → ((y : Y) → o ≡ Some y → Q y) → AllByRecursion Q ys → AllByRecursion Q (cons_option o ys)
cons_all Q None ys one all = all
cons_all Q (Some v) ys one all = (one v refl, all)

filter_all : {X Y : Type 0} (h : X → Option Y) (Q : Y → Type 0) (xs : List X) → AllByRecursion (λ x. (y : Y) → h x ≡ Some y → Q y) xs → AllByRecursion Q (filter_map h xs)
filter_all h Q [] all = tt
filter_all h Q (x ∷ xs) all = cons_all Q (h x) (filter_map h xs) all.0 (filter_all h Q xs all.1)

both_all : {Y : Type 0} (Q : Y → Type 0) (xs ys : List Y) → AllByRecursion Q xs → AllByRecursion Q ys → AllByRecursion Q (xs ++ ys)
both_all Q [] ys a b = b
both_all Q (x ∷ xs) ys a b = (a.0, both_all Q xs ys a.1 b)

flat_all : {X Y : Type 0} (f : X → List Y) (Q : Y → Type 0) (xs : List X) → AllByRecursion (λ x. AllByRecursion Q (f x)) xs → AllByRecursion Q (flat_map f xs)
flat_all f Q [] all = tt
flat_all f Q (x ∷ xs) all = subst (AllByRecursion Q) (sym (flat_map-cons f x xs)) (both_all Q (f x) (flat_map f xs) all.0 (flat_all f Q xs all.1))

flat_has : {X Y : Type 0} (f : X → List Y) (xs : List X) (x : X) (y : Y) → Contains (f x) y → Contains xs x → Contains (flat_map f xs) y
flat_has f [] x y has c = absurd (let n = c.1 in omega (arith, n))
flat_has f (a ∷ xs) x y has c = subst (λ ys. Contains ys y) (sym (flat_map-cons f a xs)) (has_by (head_or_rest a xs x c) (λ rest. flat_has f xs x y has rest)) where
  has_by : (a ≡ x) ⊎ Contains xs x → (Contains xs x → Contains (flat_map f xs) y) → Contains (f a ++ flat_map f xs) y
  has_by (inl same) rest = Contains-append_left (f a) (flat_map f xs) y (subst (λ z. Contains (f z) y) (sym same) has)
  has_by (inr c) rest = Contains-append_right (f a) (flat_map f xs) y (rest c)

int_same : (v : ℤ) → int_eq v v ≡ true
int_same v = grind (arith, ints)

same_int : (a b : ℤ) → int_eq a b ≡ true → a ≡ b
same_int a b e = grind (arith, ints)

other_int : (a b : ℤ) → int_eq a b ≡ false → a ≢ b
other_int a b e = λ same. let x = ap (λ z. int_eq z b) same ∙ int_same b in let y = sym e ∙ x in cc

module _ (logs : List SpokeLog) (value : ℤ) (k : ℕ) (is : IsFirstPut logs value k) where
  abbrev puts_in : SpokeLog → List ℕ
  puts_in log = filter_map (put_with value) log.answers

  given : put_with value (Reply k (Some value)) ≡ Some k
  given = ap (λ t. if t then Some k else None) (int_same value)

  late_if : (m : ℕ) (other : ℤ) (t : Bool) → int_eq other value ≡ t → (Some other ≡ Some value → k ≤ m) → (y : ℕ) → (if t then Some m else None) ≡ Some y → k ≤ y
  late_if m other true e late y said = subst (λ n. k ≤ n) (same_some said) (late (ap Some (same_int other value e)))
  late_if m other false e late y said = absurd cc

  late_one : (a : Answer) → IsNoEarlier k value a → (y : ℕ) → put_with value a ≡ Some y → k ≤ y
  late_one (Reply m None) late y said = absurd cc
  late_one (Reply m (Some other)) late y said = late_if m other (int_eq other value) refl late y said
  late_one (Skip m s opened) late y said = absurd cc

  late_all : AllByRecursion (λ m. k ≤ m) (flat_map puts_in logs)
  late_all = flat_all puts_in (λ m. k ≤ m) logs (recursion_from_All (λ (log : SpokeLog). AllByRecursion (λ m. k ≤ m) (puts_in log)) logs
      (λ i d l. filter_all (put_with value) (λ m. k ≤ m) (get_or logs i d).answers (recursion_from_All (λ (a : Answer). (y : ℕ) → put_with value a ≡ Some y → k ≤ y) (get_or logs i d).answers
      (λ j e m. late_one (get_or (get_or logs i d).answers j e) (is.none_earlier i d l j e m)))))

  there_is : Contains (flat_map puts_in logs) k
  there_is =
      let at = is.there in
      flat_has puts_in logs at.1 k (filter_has (put_with value) at.1.answers (Reply k (Some value)) k given at.4) (at.0, at.2, at.3)

  pub first_is : first_put logs value ≡ k
  first_is = reduce_min (flat_map puts_in logs) k late_all there_is

pub backing_is : (run : Run) (logs : List SpokeLog) (first lower : ℤ) (multipliers : Multipliers) → BacksLower run logs first lower multipliers → multipliers ≡ backing_of run first logs lower
backing_is run logs first lower multipliers b = by_test (int_eq lower first) refl where
  by_test : (t : Bool) → int_eq lower first ≡ t → multipliers ≡ (if t then no_multipliers run else multipliers_of run (first_put logs lower))
  by_test true e = b.at_first (same_int lower first e)
  by_test false e = let l = b.later (other_int lower first e) in l.2 ∙ ap (multipliers_of run) (sym (first_is logs lower l.0 l.1))

-- THE LOG

pub log_is_driven : (run : Run) (turns : List Turn) (w : World) (log : Log) (closing : List Event)
    → last_world run log.first turns (cuts_of log) ≡ w
    → log.spokes ≡ logs_in run (cuts_of log) w
    → w.hub.why ≡ Some log.end
    → log.events ≡ w.hub.events ++ closing
    → map claim_of closing ≡ map Some (own_claims run (put_at w) log.end ++ left_from w.hub.events 0 log.spokes)
    → IsRun run log → IsDriven run turns log
log_is_driven run turns w log closing last spokes why events claims is =
    let cuts : Cuts = cuts_of log in
    let p : ℕ = put_at w in
    let all : List Claim = own_claims run p log.end ++ left_from w.hub.events 0 log.spokes in
    let takes : log.events ≡ closed run log.first p log.end w.hub.events log.spokes
    = events ∙ closes log.first all w.hub.events closing claims (subst (EachBehind (HasPair log.first)) events is.pairs) in
    let same_put : present is.polled ≡ p
    = sym (same_present (own_claims run (present is.polled) log.end ++ left_from is.polled 0 log.spokes) is.polled is.closing is.rest)
    ∙ (ap present (sym is.events) ∙ (ap present events ∙ same_present all w.hub.events closing claims)) in
    let pair : pair_in log.first log.events ≡ pair_in log.first (closed run log.first p log.end w.hub.events log.spokes) = ap (pair_in log.first) takes in
    let lower : log.lower ≡ (pair_in log.first (closed run log.first p log.end w.hub.events log.spokes)).lower = is.lower ∙ ap (λ (q : Pair). q.lower) pair in
    let backs : log.multipliers ≡ backing_of run log.first log.spokes (pair_in log.first (closed run log.first p log.end w.hub.events log.spokes)).lower
    = backing_is run log.spokes log.first log.lower log.multipliers is.multipliers ∙ ap (backing_of run log.first log.spokes) lower in
    let upper : log.upper ≡ option_map (upper_at run p) (pair_in log.first (closed run log.first p log.end w.hub.events log.spokes)).upper
    = is.upper ∙ (ap (λ n. option_map (upper_at run n) (pair_in log.first log.events).upper) same_put ∙ ap (λ (q : Pair). option_map (upper_at run p) q.upper) pair) in
    let parts : log ≡ log_closed run log.first p log.end w.hub.events log.spokes
    = λ i. record {
      first = log.first;
      events = takes i;
      end = log.end;
      spokes = log.spokes;
      lower = lower i;
      multipliers = backs i;
      upper = upper i;
    } in
    let end : log.end ≡ unwrap_or w.hub.why Iterations = sym (ap (λ (o : Option End). unwrap_or o Iterations) why) in
    parts
    ∙ (ap (λ (e : End). log_closed run log.first p e w.hub.events log.spokes) end
    ∙ (ap (log_closed run log.first p (unwrap_or w.hub.why Iterations) w.hub.events) spokes
    ∙ ap (log_of run log.first cuts) (sym last)))
