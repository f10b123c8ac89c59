-- The number of rounds is enough, and at rest no actor has a step.

use Rattle.std.proofs.Common.{arith, refl, sym, ap, subst, ◌∙◌, ◌≡◌, ℕ, zero, suc, ◌+◌, ◌-◌, ◌*◌, ◌≤◌, nat_lt, Bool, true, false, List, [], ◌∷◌, length, set, map, ℤ, Option, Some, None, if◌then◌else◌}
use Rattle.std.specs.List.{All, fold, range_with_len, sum_by}
use Rattle.std.proofs.Math.Nat.{suc-mul}
use Rattle.std.proofs.lemmas.List.{get_or_past, set-get_or}
use Rattle.std.proofs.lemmas.List.Elements.{All-from_get_or, All-map}
use Rattle.std.proofs.lemmas.List.FromFn.{length-map-range_with_len}
use Rattle.std.proofs.lemmas.List.Sums.{sum_by-cons}
use Rattle.base_words.proofs.Booleans.{not_both}
use Rattle.base_words.proofs.Comparisons.{both_left, both_right}
use Rattle.base_words.proofs.NumberTests.{less_from_test, not_less_from_test}
use Rattle.lagrangian_spoke.specs.declared.spoke.Phase.TheVariants.{Ended}
use Rattle.rank_writer.specs.declared.writer.RankWriter.{RankWriter}
use Rattle.rank_writer.specs.Writers.{written}
use Rattle.sp_model.specs.declared.run.Run.{Run}
use Rattle.run_log.specs.declared.log.End.{End}
use Rattle.schedule_lines.specs.declared.schedule.Actor.{Actor}
use Rattle.schedule_lines.specs.declared.schedule.Actor.TheVariants.{Hub, Rank, Spoke}
use Rattle.schedule_lines.specs.declared.schedule.Turn.{Turn}
use Rattle.drive_words.specs.Worlds.{SpokeAt, World, first_world, is_written, new_rank, new_spoke, no_spoke, put_at, rank_at, spoke_at, with_rank}
use Rattle.drive_words.specs.Steps.{alone_decided, hub_step_by, may_write, rank_step, spoke_next, spoke_step, step}
use Rattle.drive_words.specs.Driving.{Cuts, asked_times, last_world, round, rounds, rounds_of, step_of, steps_of_puts, turned, turned_world}
use Rattle.drive_words.specs.Resting.{IsAtRest}
use Rattle.drive_words.proofs.Fronts.{front, left_most, new_unwritten, put_steps, rank_most, some_ranks, unwritten, work}
use Rattle.drive_words.proofs.RoundWork.{IsWorld, all_written, has_ended, has_stopped, rounds_stopped, rounds_world, step_least, step_world}
use Rattle.drive_words.proofs.SpokeWork.{ends}

sum_map : {X Y : Type 0} (f : Y → ℕ) (g : X → Y) (xs : List X) → sum_by f (map g xs) ≡ sum_by (λ x. f (g x)) xs
sum_map f g [] = refl
sum_map f g (x ∷ xs) = sum_by-cons f (g x) (map g xs) ∙ (ap (λ n. f (g x) + n) (sum_map f g xs) ∙ sym (sum_by-cons (λ y. f (g y)) x xs))

-- where all actors stand at first
module _ (run : Run) where
  abbrev new_ranks : List RankWriter
  new_ranks = map (new_rank run) (range_with_len 0 run.options.ranks)

  none_closed : (k : ℕ) → All (λ (r : RankWriter). r.last ≤ k) new_ranks
  none_closed k = All-map (λ (r : RankWriter). r.last ≤ k) (new_rank run) (range_with_len 0 run.options.ranks) (All-from_get_or (λ (i : ℕ). 0 ≤ k) (range_with_len 0 run.options.ranks) 0 (λ i l. omega arith))

  many_ranks : length new_ranks ≡ run.options.ranks
  many_ranks = length-map-range_with_len (new_rank run) 0 run.options.ranks

  most_ranks : sum_by rank_most new_ranks ≡ steps_of_puts run
  most_ranks = sum_map rank_most (new_rank run) (range_with_len 0 run.options.ranks)

  pub first_is : IsWorld run (first_world run)
  first_is = record {
    crew = length-map-range_with_len new_spoke 0 run.options.lagrangian;
    front_is = record {
      many = many_ranks;
      most = most_ranks;
      within = omega arith;
      below = none_closed 1;
      asks = λ none some. some;
      alone = λ none zero_spokes. new_unwritten new_ranks 0 (let some = some_ranks run in let many = many_ranks in omega (arith, some, many)) (none_closed 0);
      ended = λ off. absurd (off refl);
      going = λ none. refl;
    };
  }

  one_more : (k a : ℕ) → (k + 1) * a ≡ k * a + a
  one_more k a = ap (λ n. n * a) (let e : k + 1 ≡ suc k = omega arith in e) ∙ suc-mul k a

  pub first_work : work run (front (first_world run)) ≤ (run.options.iterations + 1) * put_steps run + 1
  first_work =
      let left = left_most 1 new_ranks in
      let most = most_ranks in
      let more = one_more run.options.iterations (put_steps run) in
      let same : (run.options.iterations + 1 - 1) * put_steps run ≡ run.options.iterations * put_steps run = ap (λ n. n * put_steps run) (let e : run.options.iterations + 1 - 1 ≡ run.options.iterations = omega arith in e) in
      omega (arith, left, most, more, same)

  -- the rounds are as many as the steps before the stop and those behind it
  two_more : (k a : ℕ) → (k + 2) * a ≡ ((k + 1) * a) + a
  two_more k a = ap (λ n. n * a) (let e : k + 2 ≡ suc (k + 1) = omega arith in e) ∙ suc-mul (k + 1) a

  wider : (k a b : ℕ) → a ≤ b → k * a ≤ k * b
  wider zero a b l = omega arith
  wider (suc k) a b l = let rest = wider k a b l in let x = suc-mul k a in let y = suc-mul k b in omega (arith, rest, x, y, l)

  enough_rounds : ((run.options.iterations + 1) * put_steps run + 1) + (steps_of_puts run + 6) ≤ rounds_of run
  enough_rounds =
      let two = two_more run.options.iterations (put_steps run + 6) in
      let one = one_more run.options.iterations (put_steps run + 6) in
      let low = one_more run.options.iterations (put_steps run) in
      let wide = wider run.options.iterations (put_steps run) (put_steps run + 6) (omega arith) in
      let is : rounds_of run ≡ (run.options.iterations + 2) * (put_steps run + 6) = refl in
      omega (arith, two, one, low, wide, is)

module _ (run : Run) (first : ℤ) (cuts : Cuts) where
  -- through a schedule the work doesn't grow
  asked_world : (actor : Actor) (n : ℕ) (w : World) → IsWorld run w → IsWorld run (asked_times run first cuts actor n w)
  asked_world actor zero w is = is
  asked_world actor (suc n) w is = asked_world actor n (step_of run first cuts w actor) (step_world run first cuts w is actor)

  asked_least : (actor : Actor) (n : ℕ) (w : World) → IsWorld run w → work run (front (asked_times run first cuts actor n w)) ≤ work run (front w)
  asked_least actor zero w is = omega arith
  asked_least actor (suc n) w is =
      let rest = asked_least actor n (step_of run first cuts w actor) (step_world run first cuts w is actor) in
      let one = step_least run first cuts w is actor in
      omega (arith, rest, one)

  pub turns_world : (turns : List Turn) (w : World) → IsWorld run w → IsWorld run (fold (turned run first cuts) w turns)
  turns_world [] w is = is
  turns_world (turn ∷ turns) w is = turns_world turns (turned run first cuts w turn) (asked_world turn.actor turn.count w is)

  turns_least : (turns : List Turn) (w : World) → IsWorld run w → work run (front (fold (turned run first cuts) w turns)) ≤ work run (front w)
  turns_least [] w is = omega arith
  turns_least (turn ∷ turns) w is =
      let rest = turns_least turns (turned run first cuts w turn) (asked_world turn.actor turn.count w is) in
      let one = asked_least turn.actor turn.count w is in
      omega (arith, rest, one)

  -- rounds behind rounds
  rounds_add : (n m : ℕ) (w : World) → rounds run first cuts (n + m) w ≡ rounds run first cuts n (rounds run first cuts m w)
  rounds_add zero m w = ap (λ k. rounds run first cuts k w) (let e : zero + m ≡ m = omega arith in e)
  rounds_add (suc n) m w = ap (λ k. rounds run first cuts k w) (let e : suc n + m ≡ suc (n + m) = omega arith in e) ∙ ap (round run first cuts) (rounds_add n m w)

  module _ (turns : List Turn) where
    abbrev start : World
    start = turned_world run first turns cuts

    start_is : IsWorld run start
    start_is = turns_world turns (first_world run) (first_is run)

    abbrev before : ℕ
    before = (run.options.iterations + 1) * put_steps run + 1

    abbrev behind : ℕ
    behind = rounds_of run - before

    abbrev stopped_world : World
    stopped_world = rounds run first cuts before start

    stopped_is : IsWorld run stopped_world
    stopped_is = rounds_world run first cuts before start start_is

    low : work run (front start) ≤ before
    low = let a = turns_least turns (first_world run) (first_is run) in let b = first_work run in omega (arith, a, b)

    stopped : stopped_world.hub.stopped ≡ true
    stopped = has_stopped run first cuts before start start_is low

    whole : last_world run first turns cuts ≡ rounds run first cuts behind stopped_world
    whole =
        let many = enough_rounds run in
        let n : rounds_of run ≡ behind + before = omega (arith, many) in
        ap (λ m. rounds run first cuts m start) n ∙ rounds_add behind before start

    rest_is : IsWorld run (rounds run first cuts behind stopped_world)
    rest_is = rounds_world run first cuts behind stopped_world stopped_is

    rest_stopped : (rounds run first cuts behind stopped_world).hub.stopped ≡ true
    rest_stopped = rounds_stopped run first cuts behind stopped_world stopped_is stopped

    many_behind : steps_of_puts run + 6 ≤ behind
    many_behind = let many = enough_rounds run in omega (arith, many)

    at_rest : IsAtRest (rounds run first cuts behind stopped_world)
    at_rest = record {
      why = has_ended run first cuts (rounds run first cuts behind stopped_world) rest_is rest_stopped;
      stopped = rest_stopped;
      written = all_written run first cuts (rounds run first cuts behind stopped_world) rest_is rest_stopped;
      spokes = λ i l. ends run first cuts i (let crew = rest_is.crew in omega (arith, l, crew)) behind stopped_world stopped_is stopped many_behind;
    }

    pub rounds_enough : IsAtRest (last_world run first turns cuts)
    rounds_enough = subst IsAtRest (sym whole) at_rest

    pub last_is : IsWorld run (last_world run first turns cuts)
    last_is = rounds_world run first cuts (rounds_of run) start start_is

-- at rest no actor has a step
module _ (run : Run) (first : ℤ) (w : World) (rest : IsAtRest w) (spent : Option ℕ) where
  hub_rests : (o : Option End) → w.hub.why ≡ o → hub_step_by run first w spent o ≡ w
  hub_rests None e = absurd (rest.why e)
  hub_rests (Some why) e = λ i. record { ranks = w.ranks; spokes = w.spokes; hub = record w.hub { stopped = sym rest.stopped i } }

  rank_off : (i : ℕ) (t : Bool) → may_write w i ≡ t → t ≡ false
  rank_off i false e = refl
  rank_off i true e = absurd (not_both (is_written w.ranks (put_at w)) rest.written (unwritten w.ranks (put_at w) i
      (less_from_test i (length w.ranks) (both_left (nat_lt i (length w.ranks)) (nat_lt (rank_at w.ranks i).last (put_at w)) e))
      (less_from_test (rank_at w.ranks i).last (put_at w) (both_right (nat_lt i (length w.ranks)) (nat_lt (rank_at w.ranks i).last (put_at w)) e))))

  rank_rests : (i : ℕ) → rank_step run first w spent i ≡ w
  rank_rests i = ap (λ t. if t then alone_decided run first (with_rank w i (written (rank_at w.ranks i) (put_at w))) spent else w) (rank_off i (may_write w i) refl)

  spoke_phase : (i : ℕ) (t : Bool) → nat_lt i (length w.spokes) ≡ t → (spoke_at w i).phase ≡ Ended
  spoke_phase i true e = rest.spokes i (less_from_test i (length w.spokes) e)
  spoke_phase i false e = ap (λ (s : SpokeAt). s.phase) (get_or_past w.spokes i no_spoke (not_less_from_test i (length w.spokes) e))

  spoke_rests : (i : ℕ) → spoke_step run w spent i ≡ w
  spoke_rests i =
      let next : spoke_next run w spent i (spoke_at w i) (spoke_at w i).phase ≡ spoke_at w i = ap (spoke_next run w spent i (spoke_at w i)) (spoke_phase i (nat_lt i (length w.spokes)) refl) in
      ap (λ (s : SpokeAt). record w { spokes = set w.spokes i s }) next ∙ ap (λ (ss : List SpokeAt). record w { spokes = ss }) (set-get_or w.spokes i no_spoke)

  pub step_rests : (actor : Actor) → step run first w spent actor ≡ w
  step_rests Hub = hub_rests w.hub.why refl
  step_rests (Rank i) = rank_rests i
  step_rests (Spoke i) = spoke_rests i
