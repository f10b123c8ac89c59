-- In each round the hub or a rank has a step, until the hub has stopped.

use Rattle.std.proofs.Common.{arith, refl, sym, ap, subst, ◌∙◌, ◌≡◌, ◌≢◌, ◌⊎◌, inl, inr, ℕ, zero, suc, ◌+◌, ◌<◌, ◌≤◌, nat_lt, Bool, true, false, not, ◌&&◌, ◌||◌, List, [], ◌∷◌, length, get_or, map, ℤ, Option, Some, None, if◌then◌else◌}
use Rattle.std.specs.List.{fold, list_any, range_with_len}
use Rattle.std.proofs.lemmas.List.{length-set}
use Rattle.std.proofs.lemmas.List.Folds.{list_any-append, list_any_at}
use Rattle.std.proofs.lemmas.List.FromFn.{get_or-map-range_with_len, length-map-range_with_len}
use Rattle.base_words.proofs.Booleans.{not_both}
use Rattle.base_words.proofs.Comparisons.{both_left, both_right}
use Rattle.base_words.proofs.NumberTests.{less_from_test, test_from_less}
use Rattle.rank_writer.specs.Writers.{written}
use Rattle.sp_model.specs.declared.run.Run.{Run}
use Rattle.run_log.specs.declared.log.End.{End}
use Rattle.schedule_lines.specs.declared.schedule.Actor.{Actor}
use Rattle.schedule_lines.specs.declared.schedule.Actor.TheVariants.{Hub, Rank, Spoke}
use Rattle.drive_words.specs.Worlds.{World, has_closed, is_written, no_rank, put_at, rank_at, spoke_at, spoke_stamp, with_hub, with_rank}
use Rattle.drive_words.specs.Steps.{alone_decided, hub_step_by, may_poll, may_write, polled, rank_step, step}
use Rattle.drive_words.specs.Driving.{Cuts, actors_of, round, rounds, spent_in, step_of}
use Rattle.drive_words.proofs.Fronts.{Front, IsFront, closed_off, ended_left, first_off, front, hub_left, now, stop_left, unwritten, work}
use Rattle.drive_words.proofs.HubMoves.{polls_front, polls_work, ranks_of}
use Rattle.drive_words.proofs.Outcomes.{Polls, polled_leads}
use Rattle.drive_words.proofs.RankMoves.{rank_lowers, rank_spokes}

-- a world between two steps
pub record IsWorld (run : Run) (w : World) : Type 0 where
  pub crew : length w.spokes ≡ run.options.lagrangian
  pub front_is : IsFront run (front w)

-- whether the hub has a step
abbrev pub hub_works : Run → Front → Option End → Bool
hub_works run f None = is_written f.ranks (now f) && nat_lt f.hub.asks run.options.lagrangian
hub_works run f (Some why) = not f.hub.stopped

-- whether the hub or a rank has a step; spokes are left out
abbrev pub rank_works : Front → ℕ → Bool
rank_works f i = nat_lt i (length f.ranks) && nat_lt (rank_at f.ranks i).last (now f)

abbrev pub has_work : Run → Front → Actor → Bool
has_work run f Hub = hub_works run f f.hub.why
has_work run f (Rank i) = rank_works f i
has_work run f (Spoke i) = false

-- an actor is no spoke
abbrev pub IsNoSpoke : Actor → Type 0
IsNoSpoke Hub = Unit {0}
IsNoSpoke (Rank i) = Unit {0}
IsNoSpoke (Spoke i) = ⊥

-- what a step does: where there is work it lowers what is left, and else ranks and hub stay
pub record Stepped (run : Run) (w w' : World) (works : Bool) : Type 0 where
  pub world : IsWorld run w'
  pub moves : works ≡ true → work run (front w') < work run (front w)
  pub still : works ≡ false → front w' ≡ front w

not_off : (b : Bool) → not b ≡ true → b ≡ false
not_off true e = absurd cc
not_off false e = refl

not_on : (b : Bool) → not b ≡ false → b ≡ true
not_on true e = refl
not_on false e = absurd cc

module _ (run : Run) (first : ℤ) (w : World) (is : IsWorld run w) (spent : Option ℕ) where
  abbrev f : IsFront run (front w)
  f = is.front_is

  abbrev stop : World
  stop = with_hub w (record w.hub { stopped = true })

  stopping : (why : End) → w.hub.why ≡ Some why → Stepped run w stop (not w.hub.stopped)
  stopping why e =
      let off : w.hub.why ≢ None = λ none. let x = sym e ∙ none in cc in
      record {
        world = record {
          crew = is.crew;
          front_is = record {
            many = f.many;
            most = f.most;
            within = f.within;
            below = f.below;
            asks = f.asks;
            alone = f.alone;
            ended = f.ended;
            going = λ none. absurd (off none);
          };
        };
        moves = λ on.
            let old : hub_left run.options.lagrangian w.hub ≡ stop_left w.hub.stopped = ended_left run.options.lagrangian w.hub off in
            let new : hub_left run.options.lagrangian stop.hub ≡ 0 = ended_left run.options.lagrangian stop.hub off in
            let one : stop_left w.hub.stopped ≡ 1 = ap stop_left (not_off w.hub.stopped on) in
            omega (arith, old, new, one);
        still = λ on. λ i. record { ranks = w.ranks; hub = record w.hub { stopped = sym (not_on w.hub.stopped on) i } };
      }

  abbrev poll : World
  poll = with_hub w (polled run first (length w.spokes) w.hub spent (spoke_stamp (spoke_at w w.hub.asks)) w.hub.reading)

  polling_on : w.hub.why ≡ None → may_poll w ≡ true → Stepped run w poll true
  polling_on none on =
      let written = both_left (is_written w.ranks (put_at w)) (nat_lt w.hub.asks (length w.spokes)) on in
      let asks = less_from_test w.hub.asks (length w.spokes) (both_right (is_written w.ranks (put_at w)) (nat_lt w.hub.asks (length w.spokes)) on) in
      let crew = is.crew in
      let few : w.hub.asks < run.options.lagrangian = omega (arith, asks, crew) in
      let hub' = polled run first (length w.spokes) w.hub spent (spoke_stamp (spoke_at w w.hub.asks)) w.hub.reading in
      let leads = polled_leads run first (length w.spokes) w.hub spent f.within (spoke_stamp (spoke_at w w.hub.asks)) w.hub.reading refl in
      let leads_p = subst (λ (n : ℕ). Polls run.options.iterations n w.hub hub') crew leads in
      record {
        world = record { crew = crew; front_is = polls_front run w.ranks w.hub hub' (ranks_of run (front w) f) f.within none (f.going none) written few leads_p };
        moves = λ e. polls_work run w.ranks w.hub hub' (ranks_of run (front w) f) f.within none (f.going none) written few leads_p;
        still = λ e. absurd cc;
      }

  polling_by : w.hub.why ≡ None → (t : Bool) → may_poll w ≡ t → Stepped run w (if t then poll else w) t
  polling_by none true on = polling_on none on
  polling_by none false off = record { world = is; moves = λ e. absurd cc; still = λ e. refl }

  may_same : may_poll w ≡ hub_works run (front w) None
  may_same = ap (λ n. is_written w.ranks (put_at w) && nat_lt w.hub.asks n) is.crew

  hub_by : (o : Option End) → w.hub.why ≡ o → Stepped run w (hub_step_by run first w spent o) (hub_works run (front w) o)
  hub_by None e = subst (Stepped run w (hub_step_by run first w spent None)) may_same (polling_by e (may_poll w) refl)
  hub_by (Some why) e = stopping why e

  rank_by : (i : ℕ) (t : Bool) → may_write w i ≡ t → Stepped run w (rank_step run first w spent i) t
  rank_by i true on = let l = rank_lowers run first w spent i f is.crew on in record {
    world = record { crew = ap length (rank_spokes run first w spent i f is.crew on) ∙ is.crew; front_is = l.front_is };
    moves = λ e. l.lower;
    still = λ e. absurd cc;
  }
  rank_by i false off =
      let same : rank_step run first w spent i ≡ w = ap (λ t. if t then alone_decided run first (with_rank w i (written (rank_at w.ranks i) (put_at w))) spent else w) off in
      record { world = subst (IsWorld run) (sym same) is; moves = λ e. absurd cc; still = λ e. ap front same }

  pub stepped : (actor : Actor) → Stepped run w (step run first w spent actor) (has_work run (front w) actor)
  stepped Hub = hub_by w.hub.why refl
  stepped (Rank i) = rank_by i (may_write w i) refl
  stepped (Spoke i) = record {
    world = record { crew = length-set w.spokes i _ ∙ is.crew; front_is = f };
    moves = λ e. absurd cc;
    still = λ e. refl;
  }

-- one of two tests
any_left : (a b : Bool) → a ≡ true → (a || b) ≡ true
any_left true b e = refl
any_left false b e = absurd cc

-- a number is 0 or not
some_or_none : (n : ℕ) → (n ≡ 0) ⊎ (0 < n)
some_or_none zero = inl refl
some_or_none (suc n) = inr (omega arith)

both_on : (a b : Bool) → a ≡ true → b ≡ true → (a && b) ≡ true
both_on true b on e = e
both_on false b on e = absurd cc

-- until the hub has stopped, it or a rank has a step
module _ (run : Run) (f : Front) (is : IsFront run f) (going : f.hub.stopped ≡ false) where
  abbrev works : Actor → Bool
  works actor = has_work run f actor

  abbrev front_actors : List Actor
  front_actors = Hub ∷ map Rank (range_with_len 0 run.options.ranks)

  hub_first : works Hub ≡ true → list_any works front_actors ≡ true
  hub_first on = list_any_at works front_actors 0 Hub (let n = length-map-range_with_len Rank 0 run.options.ranks in omega (arith, n)) on

  rank_next : (i : ℕ) → i < length f.ranks → (rank_at f.ranks i).last < now f → list_any works front_actors ≡ true
  rank_next i l late =
      let many = is.many in
      let n = length-map-range_with_len Rank 0 run.options.ranks in
      let at : get_or front_actors (suc i) Hub ≡ Rank i = get_or-map-range_with_len Rank 0 run.options.ranks i i Hub (omega (arith, l, many)) (omega arith) in
      let on : works (Rank i) ≡ true = both_on (nat_lt i (length f.ranks)) (nat_lt (rank_at f.ranks i).last (now f)) (test_from_less i (length f.ranks) l) (test_from_less (rank_at f.ranks i).last (now f) late) in
      list_any_at works front_actors (suc i) Hub (omega (arith, n, l, many)) (ap works at ∙ on)

  waiting : f.hub.why ≡ None → (t : Bool) → is_written f.ranks (now f) ≡ t → list_any works front_actors ≡ true
  waiting none false off = let r = first_off (has_closed (now f)) no_rank f.ranks off in rank_next r.0 r.1 (closed_off (now f) (get_or f.ranks r.0 no_rank) r.2)
  waiting none true on = some_spokes (some_or_none run.options.lagrangian) where
    some_spokes : (run.options.lagrangian ≡ 0) ⊎ (0 < run.options.lagrangian) → list_any works front_actors ≡ true
    some_spokes (inl zero_spokes) = absurd (not_both (is_written f.ranks (now f)) on (is.alone none zero_spokes))
    some_spokes (inr some) = hub_first (ap (hub_works run f) none ∙ both_on (is_written f.ranks (now f)) (nat_lt f.hub.asks run.options.lagrangian) on (test_from_less f.hub.asks run.options.lagrangian (is.asks none some)))

  front_works : (o : Option End) → f.hub.why ≡ o → list_any works front_actors ≡ true
  front_works None e = waiting e (is_written f.ranks (now f)) refl
  front_works (Some why) e = hub_first (ap (hub_works run f) e ∙ ap not going)

  pub one_works : list_any works (actors_of run) ≡ true
  one_works = list_any-append works front_actors (map Spoke (range_with_len 0 run.options.lagrangian)) ∙ any_left (list_any works front_actors) (list_any works (map Spoke (range_with_len 0 run.options.lagrangian))) (front_works f.hub.why refl)

module _ (run : Run) (first : ℤ) (cuts : Cuts) where
  abbrev after : World → Actor → World
  after w actor = step_of run first cuts w actor

  stepped_of : (w : World) → IsWorld run w → (actor : Actor) → Stepped run w (after w actor) (has_work run (front w) actor)
  stepped_of w is actor = stepped run first w is (spent_in cuts w actor) actor

  pub step_world : (w : World) → IsWorld run w → (actor : Actor) → IsWorld run (after w actor)
  step_world w is actor = (stepped_of w is actor).world

  least_by : (w w' : World) (t : Bool) → Stepped run w w' t → work run (front w') ≤ work run (front w)
  least_by w w' true s = let l = s.moves refl in omega (arith, l)
  least_by w w' false s = let e = ap (work run) (s.still refl) in omega (arith, e)

  pub step_least : (w : World) → IsWorld run w → (actor : Actor) → work run (front (after w actor)) ≤ work run (front w)
  step_least w is actor = least_by w (after w actor) (has_work run (front w) actor) (stepped_of w is actor)

  pub fold_world : (actors : List Actor) (w : World) → IsWorld run w → IsWorld run (fold after w actors)
  fold_world [] w is = is
  fold_world (actor ∷ actors) w is = fold_world actors (after w actor) (step_world w is actor)

  pub fold_least : (actors : List Actor) (w : World) → IsWorld run w → work run (front (fold after w actors)) ≤ work run (front w)
  fold_least [] w is = omega arith
  fold_least (actor ∷ actors) w is =
      let rest = fold_least actors (after w actor) (step_world w is actor) in
      let one = step_least w is actor in
      omega (arith, rest, one)

  lower_by : (actor : Actor) (actors : List Actor) (w : World) → IsWorld run w → (t : Bool) → has_work run (front w) actor ≡ t → (t || list_any (has_work run (front w)) actors) ≡ true → ((w' : World) → IsWorld run w' → list_any (has_work run (front w')) actors ≡ true → work run (front (fold after w' actors)) < work run (front w')) → work run (front (fold after (after w actor) actors)) < work run (front w)
  lower_by actor actors w is true e on rest =
      let l = (stepped_of w is actor).moves e in
      let m = fold_least actors (after w actor) (step_world w is actor) in
      omega (arith, l, m)
  lower_by actor actors w is false e on rest =
      let same = (stepped_of w is actor).still e in
      let l = rest (after w actor) (step_world w is actor) (ap (λ g. list_any (has_work run g) actors) same ∙ on) in
      let n = ap (work run) same in
      omega (arith, l, n)

  pub fold_lower : (actors : List Actor) (w : World) → IsWorld run w → list_any (has_work run (front w)) actors ≡ true → work run (front (fold after w actors)) < work run (front w)
  fold_lower [] w is on = absurd cc
  fold_lower (actor ∷ actors) w is on = lower_by actor actors w is (has_work run (front w) actor) refl on (λ w' is' on'. fold_lower actors w' is' on')

  pub round_lower : (w : World) → IsWorld run w → w.hub.stopped ≡ false → work run (front (round run first cuts w)) < work run (front w)
  round_lower w is going = fold_lower (actors_of run) w is (one_works run (front w) is.front_is going)

  -- where the hub has stopped, neither it nor a rank has a step
  module _ (w : World) (is : IsWorld run w) (stopped : w.hub.stopped ≡ true) where
    off_why : (o : Option End) → w.hub.why ≡ o → w.hub.why ≢ None
    off_why None e = absurd (not_both w.hub.stopped stopped (is.front_is.going e))
    off_why (Some why) e = λ none. let x = sym e ∙ none in cc

    pub has_ended : w.hub.why ≢ None
    has_ended = off_why w.hub.why refl

    pub all_written : is_written w.ranks (put_at w) ≡ true
    all_written = is.front_is.ended has_ended

    hub_rests : (o : Option End) → w.hub.why ≡ o → hub_works run (front w) o ≡ false
    hub_rests None e = absurd (has_ended e)
    hub_rests (Some why) e = ap not stopped

    rank_rests : (i : ℕ) (t : Bool) → rank_works (front w) i ≡ t → t ≡ false
    rank_rests i false e = refl
    rank_rests i true e = absurd (not_both (is_written w.ranks (put_at w)) all_written (unwritten w.ranks (put_at w) i
        (less_from_test i (length w.ranks) (both_left (nat_lt i (length w.ranks)) (nat_lt (rank_at w.ranks i).last (put_at w)) e))
        (less_from_test (rank_at w.ranks i).last (put_at w) (both_right (nat_lt i (length w.ranks)) (nat_lt (rank_at w.ranks i).last (put_at w)) e))))

    pub none_works : (actor : Actor) → has_work run (front w) actor ≡ false
    none_works Hub = hub_rests w.hub.why refl
    none_works (Rank i) = rank_rests i (rank_works (front w) i) refl
    none_works (Spoke i) = refl

    -- so all stays the same at their turns
    hub_whole : (o : Option End) → w.hub.why ≡ o → (spent : Option ℕ) → hub_step_by run first w spent o ≡ w
    hub_whole None e spent = absurd (has_ended e)
    hub_whole (Some why) e spent = λ i. record { ranks = w.ranks; spokes = w.spokes; hub = record w.hub { stopped = sym stopped i } }

    rank_whole : (i : ℕ) (spent : Option ℕ) → rank_step run first w spent i ≡ w
    rank_whole i spent = ap (λ t. if t then alone_decided run first (with_rank w i (written (rank_at w.ranks i) (put_at w))) spent else w) (rank_rests i (rank_works (front w) i) refl)

    pub whole_still : (actor : Actor) → IsNoSpoke actor → after w actor ≡ w
    whole_still Hub is' = hub_whole w.hub.why refl (spent_in cuts w Hub)
    whole_still (Rank i) is' = rank_whole i (spent_in cuts w (Rank i))
    whole_still (Spoke i) is' = absurd is'

    pub step_still : (actor : Actor) → front (after w actor) ≡ front w
    step_still actor = (stepped_of w is actor).still (none_works actor)

  pub step_stopped : (w : World) → IsWorld run w → w.hub.stopped ≡ true → (actor : Actor) → (after w actor).hub.stopped ≡ true
  step_stopped w is stopped actor = ap (λ (g : Front). g.hub.stopped) (step_still w is stopped actor) ∙ stopped

  pub fold_stopped : (actors : List Actor) (w : World) → IsWorld run w → w.hub.stopped ≡ true → (fold after w actors).hub.stopped ≡ true
  fold_stopped [] w is stopped = stopped
  fold_stopped (actor ∷ actors) w is stopped = fold_stopped actors (after w actor) (step_world w is actor) (step_stopped w is stopped actor)

  -- rounds
  pub rounds_world : (n : ℕ) (w : World) → IsWorld run w → IsWorld run (rounds run first cuts n w)
  rounds_world zero w is = is
  rounds_world (suc n) w is = fold_world (actors_of run) (rounds run first cuts n w) (rounds_world n w is)

  pub rounds_stopped : (n : ℕ) (w : World) → IsWorld run w → w.hub.stopped ≡ true → (rounds run first cuts n w).hub.stopped ≡ true
  rounds_stopped zero w is stopped = stopped
  rounds_stopped (suc n) w is stopped = fold_stopped (actors_of run) (rounds run first cuts n w) (rounds_world n w is) (rounds_stopped n w is stopped)

  next_round : (n : ℕ) (w w' : World) → IsWorld run w' → (w'.hub.stopped ≡ true) ⊎ (work run (front w') + n ≤ work run (front w)) → (t : Bool) → w'.hub.stopped ≡ t → ((round run first cuts w').hub.stopped ≡ true) ⊎ (work run (front (round run first cuts w')) + suc n ≤ work run (front w))
  next_round n w w' is so true e = inl (fold_stopped (actors_of run) w' is e)
  next_round n w w' is (inl on) false e = absurd (not_both w'.hub.stopped on e)
  next_round n w w' is (inr l) false e = let m = round_lower w' is e in inr (omega (arith, l, m))

  rounds_lower : (n : ℕ) (w : World) → IsWorld run w → ((rounds run first cuts n w).hub.stopped ≡ true) ⊎ (work run (front (rounds run first cuts n w)) + n ≤ work run (front w))
  rounds_lower zero w is = inr (omega arith)
  rounds_lower (suc n) w is = next_round n w (rounds run first cuts n w) (rounds_world n w is) (rounds_lower n w is) (rounds run first cuts n w).hub.stopped refl

  -- behind as many rounds as there is work, the hub has stopped
  some_left : (w : World) → w.hub.stopped ≡ false → 1 ≤ work run (front w)
  some_left w going = let e = ap stop_left going in omega (arith, e)

  reached_by : (n : ℕ) (w w' : World) → work run (front w) ≤ n → (w'.hub.stopped ≡ true) ⊎ (work run (front w') + n ≤ work run (front w)) → (t : Bool) → w'.hub.stopped ≡ t → t ≡ true
  reached_by n w w' low so true e = refl
  reached_by n w w' low (inl on) false e = sym e ∙ on
  reached_by n w w' low (inr l) false e = absurd (let m = some_left w' e in omega (arith, l, m, low))

  pub has_stopped : (n : ℕ) (w : World) → IsWorld run w → work run (front w) ≤ n → (rounds run first cuts n w).hub.stopped ≡ true
  has_stopped n w is low = reached_by n w (rounds run first cuts n w) low (rounds_lower n w is) (rounds run first cuts n w).hub.stopped refl
