-- The last lower bound is at least each reply, and is a reply or the first bound.

use Rattle.std.proofs.Common.{arith, refl, sym, ap, subst, ⊎_elim, ◌∙◌, ◌≡◌, ◌≢◌, ℕ, zero, suc, ◌+◌, ◌<◌, nat_eq, Bool, true, false, List, [], ◌∷◌, ◌++◌, length, map, slice_get, get_or, ℤ, ◌≤ℤ◌, Option, Some, None, All, IsSomeAnd, if◌then◌else◌}
use Rattle.std.proofs.lemmas.Int.{fold-int_max_bounds, fold-int_max_reached}
use Rattle.std.proofs.lemmas.List.Elements.{All-contains, Contains-append_cases, Contains-append_left, Contains-append_right}
use Rattle.std.proofs.lemmas.List.Folds.{Any-from_list_any}
use Rattle.std.proofs.lemmas.Option.{get_or_from_slice_get, slice_get-get_or, slice_get_within}
use Rattle.std.specs.List.{Contains, filter_map}
use Rattle.base_words.proofs.Comparisons.{both_parts}
use Rattle.base_words.proofs.FirstAnswers.{same_some}
use Rattle.base_words.proofs.NumberTests.{same_from_test}
use Rattle.bound_ledger.specs.Pairs.{lower_of}
use Rattle.bound_ledger.specs.declared.ledger.Bound.{Bound}
use Rattle.bound_ledger.specs.declared.ledger.Bound.TheVariants.{Lower, Upper, Nothing}
use Rattle.log_words.specs.Replies.{reply_of}
use Rattle.log_words.specs.declared.log.Answer.{Answer}
use Rattle.log_words.specs.declared.log.Answer.TheVariants.{Reply, Skip}
use Rattle.log_words.specs.declared.log.SpokeLog.{SpokeLog}
use Rattle.sp_model.specs.declared.run.Run.{Run}
use Rattle.lagrangian_spoke.specs.Answering.{AreAnswers, IsAnswer}
use Rattle.run_log.specs.Events.{EachBehind, bound_in, bounds_of, is_taken, pair_in, takes}
use Rattle.run_log.specs.Runs.{Claim, IsAnswered, MayFollow, claim_of, left_from, left_in, own_claims}
use Rattle.run_log.specs.declared.log.End.{End}
use Rattle.run_log.specs.declared.log.End.TheVariants.{Agreed, Gap, Iterations, Spent}
use Rattle.run_log.specs.declared.log.Event.{Event}
use Rattle.run_log.specs.declared.log.Event.TheVariants.{Put, Take}
use Rattle.run_log.specs.declared.log.Source.TheVariants.{Hub, Spoke}
use Rattle.log_closing.proofs.Members.{given_from, given_there, seen_from, seen_there}

-- an item stands at a place
abbrev pub Stands : {X : Type 0} → List X → ℕ → X → Type 0
Stands xs j x = (j < length xs) × (get_or xs j x ≡ x)

-- a reply that is left is taken behind the last polling
left_there : (events : List Event) (i : ℕ) (logs : List SpokeLog) (j : ℕ) (log : SpokeLog) (a : Answer) (c : Claim) → Stands logs j log → Contains log.answers a → left_in events (i + j) a ≡ Some c → Contains (left_from events i logs) c
left_there events i [] j log a c (l, is) has e = absurd (omega arith)
left_there events i (x ∷ logs) zero log a c (l, is) has e =
    let at : i ≡ i + 0 = omega arith in
    Contains-append_left (filter_map (left_in events i) x.answers) (left_from events (i + 1) logs) c
    (given_there (left_in events i) x.answers a c (subst (λ (y : SpokeLog). Contains y.answers a) (sym is) has) (ap (λ n. left_in events n a) at ∙ e))
left_there events i (x ∷ logs) (suc j) log a c (l, is) has e =
    let at : i + 1 + j ≡ i + suc j = omega arith in
    Contains-append_right (filter_map (left_in events i) x.answers) (left_from events (i + 1) logs) c
    (left_there events (i + 1) logs j log a c (omega arith, is) has (ap (λ n. left_in events n a) at ∙ e))

-- whose it is
pub record LeftOf (events : List Event) (i : ℕ) (logs : List SpokeLog) (c : Claim) : Type 0 where
  pub j : ℕ
  pub log : SpokeLog
  pub answer : Answer
  pub stands : Stands logs j log
  pub has : Contains log.answers answer
  pub left : left_in events (i + j) answer ≡ Some c

left_from_one : (events : List Event) (i : ℕ) (logs : List SpokeLog) (c : Claim) → Contains (left_from events i logs) c → LeftOf events i logs c
left_from_one events i [] c (k, l, e) = absurd (omega arith)
left_from_one events i (x ∷ logs) c has = ⊎_elim own (λ h. behind (left_from_one events (i + 1) logs c h)) (Contains-append_cases (filter_map (left_in events i) x.answers) (left_from events (i + 1) logs) c has)
  where
    own : Contains (filter_map (left_in events i) x.answers) c → LeftOf events i (x ∷ logs) c
    own h =
        let r = given_from (left_in events i) x.answers c h in
        record { j = 0; log = x; answer = r.0; stands = (omega arith, refl); has = r.1; left = ap (λ n. left_in events n r.0) (let at : i + 0 ≡ i = omega arith in at) ∙ r.2 }

    behind : LeftOf events (i + 1) logs c → LeftOf events i (x ∷ logs) c
    behind r =
        record { j = suc r.j; log = r.log; answer = r.answer; stands = (let l = r.stands.0 in omega arith, r.stands.1); has = r.has; left = ap (λ n. left_in events n r.answer) (let at : i + suc r.j ≡ i + 1 + r.j = omega arith in at) ∙ r.left }

-- an event is the take of spoke i's reply to put k
pub record IsTakeOf (i k : ℕ) (e : Event) : Type 0 where
  pub value : Option ℤ
  pub lower : ℤ
  pub upper : Option ℤ
  pub is : e ≡ Take (Spoke i) k value lower upper

take_of : (i k : ℕ) (e : Event) → takes i k e ≡ true → IsTakeOf i k e
take_of i k (Put m) t = absurd (let x = t in cc)
take_of i k (Take Hub m value lower upper) t = absurd (let x = t in cc)
take_of i k (Take (Spoke j) m value lower upper) t =
    let both = both_parts (nat_eq j i) (nat_eq m k) t in
    record { value = value; lower = lower; upper = upper; is = ap (λ (p : ℕ × ℕ). Take (Spoke p.0) p.1 value lower upper) (λ n. (same_from_test j i both.0 n, same_from_test m k both.1 n)) }

-- the take of a claim
claimed : (c : Claim) (e : Event) → claim_of e ≡ Some c → (lower : ℤ) × (upper : Option ℤ) × (e ≡ Take c.source c.put c.value lower upper)
claimed c (Put k) h = absurd (let x = h in cc)
claimed c (Take source k value lower upper) h = (lower, upper, ap (λ (d : Claim). Take d.source d.put d.value lower upper) (same_some h))

abbrev no_claim : Claim
no_claim = record { source = Hub; put = 0; value = None }

module _ (run : Run) (first : ℤ) (p : ℕ) (end : End) (events closing : List Event) (logs : List SpokeLog) (follow : EachBehind (MayFollow run first) events) (answered : All (IsAnswered logs) events) (rest : map claim_of closing ≡ map Some (own_claims run p end ++ left_from events 0 logs)) (right : (i : ℕ) (log : SpokeLog) → Stands logs i log → AreAnswers run i log.answers) where
  abbrev all : List Event
  all = events ++ closing

  abbrev lowers : List ℤ
  lowers = filter_map lower_of (bounds_of all)

  abbrev last : ℤ
  last = (pair_in first all).lower

  -- a taken reply is at most the last lower bound
  take_most : (i k : ℕ) (v lower : ℤ) (upper : Option ℤ) → Contains all (Take (Spoke i) k (Some v) lower upper) → v ≤ℤ last
  take_most i k v lower upper has =
      let e = Take (Spoke i) k (Some v) lower upper in
      let bound = given_there bound_in all e (Lower v) has refl in
      let there = given_there lower_of (bounds_of all) (Lower v) v bound refl in
      All-contains (λ w. w ≤ℤ last) lowers v (fold-int_max_bounds first lowers last refl).1 there

  -- the reply of a take in a polling is the defined one
  value_is : (i k n : ℕ) (value : Option ℤ) (lower : ℤ) (upper : Option ℤ) (d : Event) → n < length events → get_or events n d ≡ Take (Spoke i) k value lower upper → value ≡ reply_of run i k
  value_is i k n value lower upper d l is = (follow n (Take (Spoke i) k value lower upper) (slice_get-get_or events n d l ∙ ap Some is)).1

  pub reply_most : (i k : ℕ) (v : ℤ) (log : SpokeLog) → Stands logs i log → Contains log.answers (Reply k (Some v)) → v ≤ℤ last
  reply_most i k v log stands has = by_taken (is_taken events i k) refl
    where
      by_taken : (b : Bool) → is_taken events i k ≡ b → v ≤ℤ last
      by_taken true t =
          let found = Any-from_list_any (takes i k) events t in
          let take = take_of i k found.1 found.4 in
          let defined : Some v ≡ reply_of run i k = (All-contains (IsAnswer run i) log.answers (Reply k (Some v)) (right i log stands).right has).1 in
          let is = value_is i k found.0 take.value take.lower take.upper found.1 found.2 (found.3 ∙ take.is) in
          let whole : found.1 ≡ Take (Spoke i) k (Some v) take.lower take.upper = take.is ∙ ap (λ o. Take (Spoke i) k o take.lower take.upper) (is ∙ sym defined) in
          take_most i k v take.lower take.upper (Contains-append_left events closing (Take (Spoke i) k (Some v) take.lower take.upper) (subst (λ e. Contains events e) whole (found.0, found.2, found.3)))
      by_taken false t =
          let claim : Claim = record { source = Spoke i; put = k; value = Some v } in
          let left : left_in events (0 + i) (Reply k (Some v)) ≡ Some claim = ap (λ n. left_in events n (Reply k (Some v))) (let at : 0 + i ≡ i = omega arith in at) ∙ ap (λ b. if b then None else Some claim) t in
          let there = Contains-append_right (own_claims run p end) (left_from events 0 logs) claim (left_there events 0 logs i log (Reply k (Some v)) claim stands has left) in
          let seen = seen_there claim_of closing (own_claims run p end ++ left_from events 0 logs) rest (Put 0) claim there in
          let take = claimed claim seen.0 seen.2 in
          take_most i k v take.0 take.1 (Contains-append_right events closing (Take (Spoke i) k (Some v) take.0 take.1) (subst (λ e. Contains closing e) take.2 seen.1))

  -- a reply of this value
  pub record HasReply (v : ℤ) : Type 0 where
    pub spoke : ℕ
    pub log : SpokeLog
    pub put : ℕ
    pub stands : Stands logs spoke log
    pub has : Contains log.answers (Reply put (Some v))

  bound_lower : (b : Bound) (v : ℤ) → lower_of b ≡ Some v → b ≡ Lower v
  bound_lower (Lower w) v e = ap Lower (same_some e)
  bound_lower (Upper w) v e = absurd (let x = e in cc)
  bound_lower Nothing v e = absurd (let x = e in cc)

  from_answer : (i k : ℕ) (v : ℤ) (o : Option SpokeLog) → slice_get logs i ≡ o → IsSomeAnd o (λ (log : SpokeLog). Contains log.answers (Reply k (Some v))) → HasReply v
  from_answer i k v None e h = absurd h
  from_answer i k v (Some log) e h = record { spoke = i; log = log; put = k; stands = (slice_get_within logs i log e, get_or_from_slice_get logs i log log e); has = h }

  left_reply : (n : ℕ) (a : Answer) (i k : ℕ) (v : ℤ) (c : Claim) → left_in events n a ≡ Some c → c.put ≡ k → c.value ≡ Some v → a ≡ Reply k (Some v)
  left_reply n (Skip m s opened) i k v c e put value = absurd (let x = e in cc)
  left_reply n (Reply m w) i k v c e put value = by_taken (is_taken events n m) e
    where
      by_taken : (b : Bool) → (if b then None else Some (record { source = Spoke n; put = m; value = w })) ≡ Some c → Reply m w ≡ Reply k (Some v)
      by_taken true f = absurd (let x = f in cc)
      by_taken false f =
          let same = same_some f in
          ap (λ (q : ℕ × Option ℤ). Reply q.0 q.1) (λ j. ((ap (λ (d : Claim). d.put) same ∙ put) j, (ap (λ (d : Claim). d.value) same ∙ value) j))

  own_not : (why : End) (i : ℕ) (c : Claim) → Contains (own_claims run p why) c → c.source ≡ Spoke i → ⊥
  own_not Agreed i c (zero, l, e) s = absurd (let x = ap (λ (d : Claim). d.source) e ∙ s in cc)
  own_not Agreed i c (suc k, l, e) s = absurd (omega arith)
  own_not Gap i c (k, l, e) s = absurd (omega arith)
  own_not Iterations i c (k, l, e) s = absurd (omega arith)
  own_not (Spent t) i c (k, l, e) s = absurd (omega arith)

  from_closing : (i k : ℕ) (v lower : ℤ) (upper : Option ℤ) → Contains closing (Take (Spoke i) k (Some v) lower upper) → HasReply v
  from_closing i k v lower upper within =
      let seen = seen_from claim_of closing (own_claims run p end ++ left_from events 0 logs) rest no_claim (Take (Spoke i) k (Some v) lower upper) within in
      let same = same_some seen.2 in
      ⊎_elim
      (λ own. absurd (own_not end i seen.0 own (sym (ap (λ (d : Claim). d.source) same))))
      (λ left.
      let r = left_from_one events 0 logs seen.0 left in
      let a = left_reply (0 + r.j) r.answer i k v seen.0 r.left (sym (ap (λ (d : Claim). d.put) same)) (sym (ap (λ (d : Claim). d.value) same)) in
      record { spoke = r.j; log = r.log; put = k; stands = r.stands; has = subst (λ b. Contains r.log.answers b) a r.has })
      (Contains-append_cases (own_claims run p end) (left_from events 0 logs) seen.0 seen.1)

  from_event : (e : Event) (v : ℤ) → Contains all e → bound_in e ≡ Some (Lower v) → HasReply v
  from_event (Put k) v has e = absurd (let x = e in cc)
  from_event (Take Hub k None lower upper) v has e = absurd (let x = same_some e in cc)
  from_event (Take Hub k (Some w) lower upper) v has e = absurd (let x = same_some e in cc)
  from_event (Take (Spoke i) k None lower upper) v has e = absurd (let x = same_some e in cc)
  from_event (Take (Spoke i) k (Some w) lower upper) v has e =
      let same : w ≡ v = lower_same w v (same_some e) in
      let has' : Contains all (Take (Spoke i) k (Some v) lower upper) = subst (λ z. Contains all (Take (Spoke i) k (Some z) lower upper)) same has in
      ⊎_elim
      (λ early. from_answer i k v (slice_get logs i) refl (All-contains (IsAnswered logs) events (Take (Spoke i) k (Some v) lower upper) answered early))
      (λ late. from_closing i k v lower upper late)
      (Contains-append_cases events closing (Take (Spoke i) k (Some v) lower upper) has')
    where
      lower_same : (a b : ℤ) → Lower a ≡ Lower b → a ≡ b
      lower_same a b h = same_some (ap lower_of h)

  -- the last lower bound is the first one or a reply
  pub last_is : last ≢ first → HasReply last
  last_is other = ⊎_elim (λ e. absurd (other e)) (λ has.
      let bound = given_from lower_of (bounds_of all) last has in
      let event = given_from bound_in all bound.0 bound.1 in
      from_event event.0 last event.1 (event.2 ∙ ap Some (bound_lower bound.0 last bound.2)))
      (fold-int_max_reached first lowers last refl)
