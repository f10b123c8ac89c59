-- Where the hub has stopped, each spoke has ended behind so many rounds.

use Rattle.std.proofs.Common.{arith, refl, sym, ap, subst, ◌∙◌, ◌≡◌, ◌≢◌, ℕ, zero, suc, ◌+◌, ◌-◌, ◌/◌, ◌<◌, ◌≤◌, min, nat_eq, nat_lt, Bool, true, false, ◌||◌, List, [], ◌∷◌, ◌++◌, length, get_or, drop, map, ℤ, Option, Some, None, if◌then◌else◌, get_or-set_other, get_or-set_same}
use mathlib.Core.Logic.{dite}
use native.Mathlib.Decide.{ℕ_discrete}
use Rattle.std.specs.List.{fold, list_any, range_with_len, sum_by}
use Rattle.std.proofs.Math.ListN.{drop_of_length-le}
use Rattle.std.proofs.lemmas.List.{get_or_past}
use Rattle.std.proofs.lemmas.List.Folds.{list_any-append, list_any_at}
use Rattle.std.proofs.lemmas.List.FromFn.{get_or-map-range_with_len, length-map-range_with_len}
use Rattle.std.proofs.lemmas.List.Sums.{get_or-le-sum_by, sum_by-drop_more, sum_by-take-drop}
use Rattle.base_words.proofs.NumberTests.{less_from_test, not_less_from_test}
use Rattle.lagrangian_spoke.specs.declared.spoke.Phase.{Phase}
use Rattle.lagrangian_spoke.specs.declared.spoke.Phase.TheVariants.{Asks, Reads, Opens, Writes, Ended}
use Rattle.log_words.specs.Replies.{reply_of}
use Rattle.log_words.specs.declared.log.Answer.TheVariants.{Reply}
use Rattle.rank_writer.specs.declared.writer.RankWriter.{RankWriter}
use Rattle.sp_model.specs.declared.run.Run.{Run}
use Rattle.schedule_lines.specs.declared.schedule.Actor.{Actor}
use Rattle.schedule_lines.specs.declared.schedule.Actor.TheVariants.{Hub, Rank, Spoke}
use Rattle.drive_words.specs.Worlds.{ReadingAt, SpokeAt, World, no_rank, no_spoke, put_at, rank_at, rank_stamp, spoke_at}
use Rattle.drive_words.specs.Steps.{answered, has_read, is_unfit, next_part, part_ended, phase_asked, read_on, reads_again, spoke_next, write_on}
use Rattle.drive_words.specs.Driving.{Cuts, actors_of, rounds, spent_in, step_of, steps_of_puts}
use Rattle.drive_words.proofs.Fronts.{IsFront, front, rank_most, some_ranks}
use Rattle.drive_words.proofs.RoundWork.{IsWorld, fold_stopped, rounds_world, step_stopped, step_world, whole_still}

-- how many steps a spoke has left at most: of the part that it reads, of those behind it, and of its
-- reply; at last it asks
abbrev pub this_left : ReadingAt → ℕ → ℕ
this_left r width = if r.begun then (width - r.words) + 1 else width + 2

abbrev pub reading_left : List RankWriter → ReadingAt → ℕ
reading_left ranks r = this_left r (rank_at ranks r.rank).width + sum_by rank_most (drop (r.rank + 1) ranks)

abbrev pub phase_left : ℕ → Phase → ℕ
phase_left reading Asks = 1
phase_left reading Reads = reading + 6
phase_left reading Opens = 6
phase_left reading (Writes n) = 5 - min n 3
phase_left reading Ended = 0

abbrev pub spoke_left : List RankWriter → SpokeAt → ℕ
spoke_left ranks spoke = phase_left (reading_left ranks spoke.reading) spoke.phase

pub none_left : (reading : ℕ) (phase : Phase) → phase_left reading phase ≡ 0 → phase ≡ Ended
none_left reading Asks e = absurd (omega (arith, e))
none_left reading Reads e = absurd (omega (arith, e))
none_left reading Opens e = absurd (omega (arith, e))
none_left reading (Writes n) e = absurd (omega (arith, e))
none_left reading Ended e = refl

-- the parts behind one that is there
module _ (ranks : List RankWriter) (n : ℕ) where
  parts_there : n < length ranks → sum_by rank_most (drop n ranks) ≡ rank_most (rank_at ranks n) + sum_by rank_most (drop (n + 1) ranks)
  parts_there l = sum_by-drop_more rank_most ranks n no_rank l

  parts_few : n < length ranks → rank_most (rank_at ranks n) + sum_by rank_most (drop (n + 1) ranks) ≤ sum_by rank_most ranks
  parts_few l = let a = parts_there l in let b = sum_by-take-drop rank_most ranks n in omega (arith, a, b)

  -- of a rank that isn't there nothing is read
  parts_past : 1 ≤ length ranks → length ranks ≤ n → rank_most (rank_at ranks n) + sum_by rank_most (drop (n + 1) ranks) ≤ sum_by rank_most ranks
  parts_past some past =
      let none : rank_most (rank_at ranks n) ≡ 2 = ap rank_most (get_or_past ranks n no_rank past) in
      let one : 2 ≤ rank_most (get_or ranks 0 no_rank) = omega arith in
      let first = get_or-le-sum_by rank_most ranks 0 no_rank (omega (arith, some)) in
      let rest : sum_by rank_most (drop (n + 1) ranks) ≡ 0 = ap (sum_by rank_most) (drop_of_length-le ranks (omega (arith, past))) in
      omega (arith, none, one, first, rest)

  parts_by : 1 ≤ length ranks → (t : Bool) → nat_lt n (length ranks) ≡ t → rank_most (rank_at ranks n) + sum_by rank_most (drop (n + 1) ranks) ≤ sum_by rank_most ranks
  parts_by some true e = parts_few (less_from_test n (length ranks) e)
  parts_by some false e = parts_past some (not_less_from_test n (length ranks) e)

  pub parts_most : 1 ≤ length ranks → rank_most (rank_at ranks n) + sum_by rank_most (drop (n + 1) ranks) ≤ sum_by rank_most ranks
  parts_most some = parts_by some (nat_lt n (length ranks)) refl

this_most : (r : ReadingAt) (width : ℕ) (t : Bool) → (if t then (width - r.words) + 1 else width + 2) ≤ width + 2
this_most r width true = omega arith
this_most r width false = omega arith

pub left_most : (ranks : List RankWriter) (spoke : SpokeAt) → 1 ≤ length ranks → spoke_left ranks spoke ≤ sum_by rank_most ranks + 6
left_most ranks spoke some =
    let parts = parts_most ranks spoke.reading.rank some in
    let this = this_most spoke.reading (rank_at ranks spoke.reading.rank).width spoke.reading.begun in
    phase_most (reading_left ranks spoke.reading) (sum_by rank_most ranks) (omega (arith, parts, this)) spoke.phase where
      phase_most : (reading most : ℕ) → reading ≤ most → (phase : Phase) → phase_left reading phase ≤ most + 6
      phase_most reading most l Asks = omega arith
      phase_most reading most l Reads = omega (arith, l)
      phase_most reading most l Opens = omega arith
      phase_most reading most l (Writes n) = omega arith
      phase_most reading most l Ended = omega arith

-- a step of a spoke that isn't ended takes one off
module _ (run : Run) (ranks : List RankWriter) (spoke : SpokeAt) where
  abbrev r : ReadingAt
  r = spoke.reading

  abbrev width : ℕ
  width = (rank_at ranks r.rank).width

  abbrev later : ℕ
  later = sum_by rank_most (drop (r.rank + 1) ranks)

  answered_left : (k : ℕ) (spent : Option ℕ) → spoke_left ranks (answered run (has_read spoke k) k spent) ≤ 6
  answered_left k None = omega arith
  answered_left k (Some s) = omega arith

  next_left : (spent : Option ℕ) (t : Bool) → nat_lt (r.rank + 1) (length ranks) ≡ t → spoke.phase ≡ Reads → spoke_left ranks (if t then next_part spoke else answered run (has_read spoke (r.first / 2)) (r.first / 2) spent) ≤ later + 6
  next_left spent true e is =
      let parts = parts_there ranks (r.rank + 1) (less_from_test (r.rank + 1) (length ranks) e) in
      let at : spoke_left ranks (next_part spoke) ≡ (rank_most (rank_at ranks (r.rank + 1)) + sum_by rank_most (drop (r.rank + 1 + 1) ranks)) + 6
      = ap (phase_left (rank_most (rank_at ranks (r.rank + 1)) + sum_by rank_most (drop (r.rank + 1 + 1) ranks))) is in
      omega (arith, parts, at)
  next_left spent false e is = let few = answered_left (r.first / 2) spent in omega (arith, few)

  ended_left : (spent : Option ℕ) (n : ℕ) (t : Bool) → spoke.phase ≡ Reads → spoke_left ranks (if t then (if nat_lt (r.rank + 1) (length ranks) then next_part spoke else answered run (has_read spoke (r.first / 2)) (r.first / 2) spent) else reads_again spoke) ≤ later + 6
  ended_left spent n true is = next_left spent (nat_lt (r.rank + 1) (length ranks)) refl is
  ended_left spent n false is = omega arith

  -- while its part is begun
  words_left : (spent : Option ℕ) (n : ℕ) (t : Bool) → nat_lt r.words width ≡ t → spoke.phase ≡ Reads → r.begun ≡ true → spoke_left ranks (if t then record spoke { reading = record r { words = r.words + 1 } } else part_ended run (length ranks) spoke spent n) ≤ ((width - r.words) + later) + 6
  words_left spent n true e is begun =
      let l = less_from_test r.words width e in
      let at : spoke_left ranks (record spoke { reading = record r { words = r.words + 1 } }) ≡ (((width - (r.words + 1)) + 1) + later) + 6
      = ap (λ (x : Phase × Bool). phase_left ((if x.1 then (width - (r.words + 1)) + 1 else width + 2) + later) x.0) (λ i. (is i, begun i)) in
      omega (arith, l, at)
  words_left spent n false e is begun = let few = ended_left spent n (nat_eq n r.first) is in omega (arith, few)

  begun_left : (n : ℕ) (t : Bool) → spoke.phase ≡ Reads → spoke_left ranks (if t then reads_again spoke else record spoke { reading = record r { begun = true; first = n; words = 0 } }) ≤ ((width + 1) + later) + 6
  begun_left n true is = omega arith
  begun_left n false is =
      let at : spoke_left ranks (record spoke { reading = record r { begun = true; first = n; words = 0 } }) ≡ (((width - 0) + 1) + later) + 6
      = ap (phase_left (((width - 0) + 1) + later)) is in
      omega (arith, at)

  read_left : (spent : Option ℕ) (n : ℕ) (t : Bool) → r.begun ≡ t → spoke.phase ≡ Reads → spoke_left ranks (if t then (if nat_lt r.words width then record spoke { reading = record r { words = r.words + 1 } } else part_ended run (length ranks) spoke spent n) else (if is_unfit r n then reads_again spoke else record spoke { reading = record r { begun = true; first = n; words = 0 } })) + 1 ≤ ((if t then (width - r.words) + 1 else width + 2) + later) + 6
  read_left spent n true begun is = let l = words_left spent n (nat_lt r.words width) refl is begun in omega (arith, l)
  read_left spent n false begun is = let l = begun_left n (is_unfit r n) is in omega (arith, l)

  -- a step of a reading
  reads_left : (spent : Option ℕ) (n : ℕ) → spoke.phase ≡ Reads → spoke_left ranks (read_on run (length ranks) spoke spent width n) + 1 ≤ spoke_left ranks spoke
  reads_left spent n is =
      let l = read_left spent n r.begun refl is in
      let at : spoke_left ranks spoke ≡ reading_left ranks r + 6 = ap (phase_left (reading_left ranks r)) is in
      omega (arith, l, at)

-- a step of spoke i in a world whose hub has stopped
module _ (run : Run) (w : World) (stopped : w.hub.stopped ≡ true) (spent : Option ℕ) (i : ℕ) (spoke : SpokeAt) where
  abbrev replied : SpokeAt
  replied = record spoke { phase = Asks; answers = spoke.answers ++ Reply spoke.reading.last (reply_of run i spoke.reading.last) ∷ [] }

  next_by : (phase : Phase) → spoke.phase ≡ phase → spoke_left w.ranks (spoke_next run w spent i spoke phase) ≤ spoke_left w.ranks spoke - 1
  next_by Asks is =
      let at : spoke_left w.ranks spoke ≡ 1 = ap (phase_left (reading_left w.ranks spoke.reading)) is in
      let new : spoke_left w.ranks (record spoke { phase = phase_asked w.hub.stopped }) ≡ 0 = ap (λ t. phase_left (reading_left w.ranks spoke.reading) (phase_asked t)) stopped in
      omega (arith, at, new)
  next_by Reads is = let l = reads_left run w.ranks spoke spent (rank_stamp (rank_at w.ranks spoke.reading.rank) (put_at w)) is in omega (arith, l)
  next_by Opens is = let at : spoke_left w.ranks spoke ≡ 6 = ap (phase_left (reading_left w.ranks spoke.reading)) is in omega (arith, at)
  next_by (Writes n) is =
      let at : spoke_left w.ranks spoke ≡ 5 - min n 3 = ap (phase_left (reading_left w.ranks spoke.reading)) is in
      let l = write_by (nat_lt n 3) refl in
      omega (arith, at, l) where
        write_by : (t : Bool) → nat_lt n 3 ≡ t → spoke_left w.ranks (write_on run i spoke n) + 1 ≤ 5 - min n 3
        write_by true e = let new : spoke_left w.ranks (write_on run i spoke n) ≡ 5 - min (n + 1) 3 = ap (λ t. spoke_left w.ranks (if t then record spoke { phase = Writes (n + 1) } else replied)) e in let l = less_from_test n 3 e in omega (arith, new, l)
        write_by false e = let new : spoke_left w.ranks (write_on run i spoke n) ≡ 1 = ap (λ t. spoke_left w.ranks (if t then record spoke { phase = Writes (n + 1) } else replied)) e in omega (arith, new)
  next_by Ended is = let at : spoke_left w.ranks spoke ≡ 0 = ap (phase_left (reading_left w.ranks spoke.reading)) is in omega (arith, at)

  pub next_less : spoke_left w.ranks (spoke_next run w spent i spoke spoke.phase) ≤ spoke_left w.ranks spoke - 1
  next_less = next_by spoke.phase refl

-- whether an actor is spoke i
abbrev pub is_spoke : ℕ → Actor → Bool
is_spoke i Hub = false
is_spoke i (Rank j) = false
is_spoke i (Spoke j) = nat_eq j i

test_same : (a b : ℕ) → nat_eq a b ≡ true → a ≡ b
test_same a b e = grind arith

module _ (run : Run) (first : ℤ) (cuts : Cuts) (i : ℕ) where
  abbrev after : World → Actor → World
  after w actor = step_of run first cuts w actor

  abbrev left_in : World → ℕ
  left_in w = spoke_left w.ranks (spoke_at w i)

  -- the step of spoke j where it is i, and where it isn't
  mine : (w : World) → w.hub.stopped ≡ true → (j : ℕ) → j ≡ i → i < length w.spokes → left_in (after w (Spoke j)) ≤ left_in w - 1
  mine w stopped j e l = subst (λ m. left_in (after w (Spoke m)) ≤ left_in w - 1) (sym e)
      (subst (λ (s : SpokeAt). spoke_left w.ranks s ≤ left_in w - 1) (sym (get_or-set_same w.spokes i _ no_spoke l))
      (next_less run w stopped (spent_in cuts w (Spoke i)) i (spoke_at w i)))

  others : (w : World) (j : ℕ) → j ≢ i → left_in (after w (Spoke j)) ≡ left_in w
  others w j off = ap (spoke_left w.ranks) (get_or-set_other w.spokes j i _ no_spoke (λ e. off (sym e)))

  module _ (w : World) (is : IsWorld run w) (stopped : w.hub.stopped ≡ true) (l : i < run.options.lagrangian) where
    there : i < length w.spokes
    there = let crew = is.crew in omega (arith, l, crew)

    spoke_least : (j : ℕ) → left_in (after w (Spoke j)) ≤ left_in w
    spoke_least j = dite (ℕ_discrete j i)
        (λ (e : j ≡ i). let m = mine w stopped j e there in omega (arith, m))
        (λ (e : j ≢ i). let m = others w j e in omega (arith, m))

    pub left_least : (actor : Actor) → left_in (after w actor) ≤ left_in w
    left_least Hub = let e = ap left_in (whole_still run first cuts w is stopped Hub tt) in omega (arith, e)
    left_least (Rank j) = let e = ap left_in (whole_still run first cuts w is stopped (Rank j) tt) in omega (arith, e)
    left_least (Spoke j) = spoke_least j

    pub left_less : (actor : Actor) → is_spoke i actor ≡ true → left_in (after w actor) ≤ left_in w - 1
    left_less Hub e = absurd cc
    left_less (Rank j) e = absurd cc
    left_less (Spoke j) e = mine w stopped j (test_same j i e) there

  module _ (l : i < run.options.lagrangian) where
    fold_least : (actors : List Actor) (w : World) → IsWorld run w → w.hub.stopped ≡ true → left_in (fold after w actors) ≤ left_in w
    fold_least [] w is stopped = omega arith
    fold_least (actor ∷ actors) w is stopped =
        let rest = fold_least actors (after w actor) (step_world run first cuts w is actor) (step_stopped run first cuts w is stopped actor) in
        let one = left_least w is stopped l actor in
        omega (arith, rest, one)

    less_by : (actor : Actor) (actors : List Actor) (w : World) → IsWorld run w → w.hub.stopped ≡ true → (t : Bool) → is_spoke i actor ≡ t → (t || list_any (is_spoke i) actors) ≡ true → ((w' : World) → IsWorld run w' → w'.hub.stopped ≡ true → list_any (is_spoke i) actors ≡ true → left_in (fold after w' actors) ≤ left_in w' - 1) → left_in (fold after (after w actor) actors) ≤ left_in w - 1
    less_by actor actors w is stopped true e on rest =
        let m = left_less w is stopped l actor e in
        let n = fold_least actors (after w actor) (step_world run first cuts w is actor) (step_stopped run first cuts w is stopped actor) in
        omega (arith, m, n)
    less_by actor actors w is stopped false e on rest =
        let m = left_least w is stopped l actor in
        let n = rest (after w actor) (step_world run first cuts w is actor) (step_stopped run first cuts w is stopped actor) on in
        omega (arith, m, n)

    fold_less : (actors : List Actor) (w : World) → IsWorld run w → w.hub.stopped ≡ true → list_any (is_spoke i) actors ≡ true → left_in (fold after w actors) ≤ left_in w - 1
    fold_less [] w is stopped on = absurd cc
    fold_less (actor ∷ actors) w is stopped on = less_by actor actors w is stopped (is_spoke i actor) refl on (λ w' is' s' on'. fold_less actors w' is' s' on')

    same_on : (n : ℕ) → nat_eq n n ≡ true
    same_on n = grind arith

    any_right : (a b : Bool) → b ≡ true → (a || b) ≡ true
    any_right true b e = refl
    any_right false b e = e

    is_asked : list_any (is_spoke i) (actors_of run) ≡ true
    is_asked =
        let spokes : List Actor = map Spoke (range_with_len 0 run.options.lagrangian) in
        let at : get_or spokes i Hub ≡ Spoke i = get_or-map-range_with_len Spoke 0 run.options.lagrangian i i Hub l (omega arith) in
        let n = length-map-range_with_len Spoke 0 run.options.lagrangian in
        let on = list_any_at (is_spoke i) spokes i Hub (omega (arith, n, l)) (ap (is_spoke i) at ∙ same_on i) in
        list_any-append (is_spoke i) (Hub ∷ map Rank (range_with_len 0 run.options.ranks)) spokes ∙ any_right _ (list_any (is_spoke i) spokes) on

    -- behind so many rounds
    rounds_left : (n : ℕ) (w : World) → IsWorld run w → w.hub.stopped ≡ true → (left_in (rounds run first cuts n w) ≤ left_in w - n) × ((rounds run first cuts n w).hub.stopped ≡ true)
    rounds_left zero w is stopped = (omega arith, stopped)
    rounds_left (suc n) w is stopped =
        let before = rounds_left n w is stopped in
        let front_is = rounds_world run first cuts n w is in
        let less = fold_less (actors_of run) (rounds run first cuts n w) front_is before.1 is_asked in
        let low = before.0 in
        (omega (arith, less, low), fold_stopped run first cuts (actors_of run) (rounds run first cuts n w) front_is before.1)

    pub ends : (n : ℕ) (w : World) → IsWorld run w → w.hub.stopped ≡ true → steps_of_puts run + 6 ≤ n → (spoke_at (rounds run first cuts n w) i).phase ≡ Ended
    ends n w is stopped many =
        let f : IsFront run (front w) = is.front_is in
        let some = some_ranks run in
        let count = f.many in
        let most = f.most in
        let few = left_most w.ranks (spoke_at w i) (omega (arith, some, count)) in
        let low = (rounds_left n w is stopped).0 in
        none_left (reading_left (rounds run first cuts n w).ranks (spoke_at (rounds run first cuts n w) i).reading) (spoke_at (rounds run first cuts n w) i).phase (omega (arith, few, low, most, many))
