-- The log that a schedule gives: of one list of steps, which the schedule's actors make in turn,
-- and then all actors in rounds.

use Rattle.std.specs.Prelude.{◌≡◌, ℕ, zero, suc, ◌+◌, ◌*◌, ◌/◌, min, nat_eq, nat_lt, List, [], ◌∷◌, ◌++◌, map, slice_index_or, ℤ, Option, Some, None, option_map, if◌then◌else◌}
use Rattle.std.specs.List.{filter_map, flat_map, fold, range_with_len, reduce, sum_by}
use Rattle.std.specs.Option.{unwrap_or}
use Rattle.std.specs.Ordering.{int_eq}
use Rattle.base_words.specs.FirstAnswers.{first_some}
use Rattle.bound_ledger.specs.declared.ledger.Pair.{Pair}
use Rattle.lagrangian_spoke.specs.Answering.{last_put}
use Rattle.log_words.specs.Replies.{reply_of}
use Rattle.log_words.specs.declared.log.Answer.{Answer}
use Rattle.log_words.specs.declared.log.Answer.TheVariants.{Reply, Skip}
use Rattle.log_words.specs.declared.log.SpokeKind.TheVariants.{Lagrangian}
use Rattle.log_words.specs.declared.log.SpokeLog.{SpokeLog}
use Rattle.put_words.specs.NextMultipliers.{no_multipliers}
use Rattle.run_log.specs.Events.{pair_in, present}
use Rattle.run_log.specs.Runs.{Claim, left_from, multipliers_of, own_claims, upper_at}
use Rattle.run_log.specs.declared.log.End.{End}
use Rattle.run_log.specs.declared.log.End.TheVariants.{Agreed, Gap, Iterations, Spent}
use Rattle.run_log.specs.declared.log.Event.{Event}
use Rattle.run_log.specs.declared.log.Log.{Log}
use Rattle.schedule_lines.specs.declared.schedule.Actor.{Actor}
use Rattle.schedule_lines.specs.declared.schedule.Actor.TheVariants.{Hub, Rank, Spoke}
use Rattle.schedule_lines.specs.declared.schedule.Turn.{Turn}
use Rattle.sp_model.specs.declared.plan.Multipliers.{Multipliers}
use Rattle.sp_model.specs.declared.run.Run.{Run}
use Rattle.drive_words.specs.Worlds.{World, first_world, part_width, put_at, spoke_at}
use Rattle.drive_words.specs.Steps.{step, taken}

-- the searches that are spent, each with its scenario: of spoke i's answer to put k, and of the put
-- behind put k
pub record Cuts : Type 0 where
  pub skips : ℕ → ℕ → Option ℕ
  pub next : ℕ → Option ℕ

-- the search that is spent in an actor's next step, should the step have one to do: the hub's, and a
-- rank's that closes, is for the put behind the present one; a spoke's is for the put that it reads
abbrev pub spent_in : Cuts → World → Actor → Option ℕ
spent_in cuts w Hub = cuts.next (put_at w)
spent_in cuts w (Rank i) = cuts.next (put_at w)
spent_in cuts w (Spoke i) = cuts.skips i ((spoke_at w i).reading.first / 2)

abbrev pub step_of : Run → ℤ → Cuts → World → Actor → World
step_of run first cuts w actor = step run first w (spent_in cuts w actor) actor

-- an actor is asked so many times
abbrev pub asked_times : Run → ℤ → Cuts → Actor → ℕ → World → World
asked_times run first cuts actor zero w = w
asked_times run first cuts actor (suc n) w =
    asked_times run first cuts actor n (step_of run first cuts w actor)

abbrev pub turned : Run → ℤ → Cuts → World → Turn → World
turned run first cuts w turn = asked_times run first cuts turn.actor turn.count w

-- a round asks the hub, the ranks in order and the spokes in order
abbrev pub actors_of : Run → List Actor
actors_of run = (Hub ∷ map Rank (range_with_len 0 run.options.ranks))
    ++ map Spoke (range_with_len 0 run.options.lagrangian)

abbrev pub round : Run → ℤ → Cuts → World → World
round run first cuts w = fold (step_of run first cuts) w (actors_of run)

abbrev pub rounds : Run → ℤ → Cuts → ℕ → World → World
rounds run first cuts zero w = w
rounds run first cuts (suc n) w = round run first cuts (rounds run first cuts n w)

-- the number of rounds: behind so many no actor has a step
abbrev pub steps_of_puts : Run → ℕ
steps_of_puts run = sum_by (λ i. part_width run i + 2) (range_with_len 0 run.options.ranks)

abbrev pub rounds_of : Run → ℕ
rounds_of run = (run.options.iterations + 2)
    * (steps_of_puts run + 5 * run.options.lagrangian + 6)

-- where all actors stand behind the schedule, and where they stand when no actor has a step
abbrev pub turned_world : Run → ℤ → List Turn → Cuts → World
turned_world run first turns cuts = fold (turned run first cuts) (first_world run) turns

abbrev pub last_world : Run → ℤ → List Turn → Cuts → World
last_world run first turns cuts =
    rounds run first cuts (rounds_of run) (turned_world run first turns cuts)

-- what spoke i answers to the last put p where it hasn't answered it through its window
abbrev pub last_answer : Run → ℕ → ℕ → Option ℕ → Answer
last_answer run i p None = Reply p (reply_of run i p)
last_answer run i p (Some s) = Skip p s run.options.budget

abbrev pub finished : Run → ℕ → ℕ → Option ℕ → List Answer → List Answer
finished run p i spent answers = if nat_lt (last_put answers) p
    then (answers ++ last_answer run i p spent ∷ []) else answers

abbrev pub log_in : Run → Cuts → World → ℕ → SpokeLog
log_in run cuts w i = record {
  kind = Lagrangian;
  answers = finished run (put_at w) i (cuts.skips i (put_at w)) (spoke_at w i).answers;
}

abbrev pub logs_in : Run → Cuts → World → List SpokeLog
logs_in run cuts w = map (log_in run cuts w) (range_with_len 0 run.options.lagrangian)

-- behind the last polling the hub takes the cost of its points, if they are a plan, and the replies
-- that are left, spoke by spoke and put by put
abbrev pub claimed : ℤ → List Event → Claim → List Event
claimed first events claim = taken first events claim.source claim.put claim.value

abbrev pub closed : Run → ℤ → ℕ → End → List Event → List SpokeLog → List Event
closed run first p why events logs =
    fold (claimed first) events (own_claims run p why ++ left_from events 0 logs)

-- the puts to which replies had this value, and the first of them
abbrev pub put_with : ℤ → Answer → Option ℕ
put_with value (Reply k None) = None
put_with value (Reply k (Some other)) = if int_eq other value then Some k else None
put_with value (Skip k s opened) = None

abbrev pub first_put : List SpokeLog → ℤ → ℕ
first_put logs value = unwrap_or (reduce min
    (flat_map (λ (log : SpokeLog). filter_map (put_with value) log.answers) logs)) 0

-- the multipliers of a lower bound: 0 for the first bound, else those of the first put to which a
-- spoke replied with it
abbrev pub backing_of : Run → ℤ → List SpokeLog → ℤ → Multipliers
backing_of run first logs lower = if int_eq lower first then no_multipliers run
    else multipliers_of run (first_put logs lower)

abbrev pub log_with : Run → ℤ → ℕ → List Event → End → List SpokeLog → Pair → Log
log_with run first p events why logs pair = record {
  first = first;
  events = events;
  end = why;
  spokes = logs;
  lower = pair.lower;
  multipliers = backing_of run first logs pair.lower;
  upper = option_map (upper_at run p) pair.upper;
}

abbrev pub log_from : Run → ℤ → ℕ → List Event → End → List SpokeLog → Log
log_from run first p events why logs =
    log_with run first p events why logs (pair_in first events)

-- the log of a world in which no actor has a step
abbrev pub log_closed : Run → ℤ → ℕ → End → List Event → List SpokeLog → Log
log_closed run first p why events logs =
    log_from run first p (closed run first p why events logs) why logs

abbrev pub log_of : Run → ℤ → Cuts → World → Log
log_of run first cuts w = log_closed run first (put_at w) (unwrap_or w.hub.why Iterations)
    w.hub.events (logs_in run cuts w)

-- the log of a schedule where these searches are spent
abbrev pub driven_from : Run → ℤ → List Turn → Cuts → Log
driven_from run first turns cuts = log_of run first cuts (last_world run first turns cuts)

-- the searches that are spent in a log
abbrev pub skip_in : ℕ → Answer → Option ℕ
skip_in k (Reply m value) = None
skip_in k (Skip m s opened) = if nat_eq m k then Some s else None

abbrev pub no_log : SpokeLog
no_log = record { kind = Lagrangian; answers = [] }

abbrev pub skip_of : List SpokeLog → ℕ → ℕ → Option ℕ
skip_of logs i k = first_some (skip_in k) (slice_index_or logs i no_log).answers

abbrev pub spent_end : End → Option ℕ
spent_end Agreed = None
spent_end Gap = None
spent_end Iterations = None
spent_end (Spent s) = Some s

abbrev pub next_of_end : ℕ → End → ℕ → Option ℕ
next_of_end p why k = if nat_eq k p then spent_end why else None

abbrev pub cuts_of : Log → Cuts
cuts_of log = record {
  skips = skip_of log.spokes;
  next = next_of_end (present log.events) log.end;
}

-- the log is the one that the schedule gives, where the searches are spent that it names
abbrev pub IsDriven : Run → List Turn → Log → Type 0
IsDriven run turns log = log ≡ driven_from run log.first turns (cuts_of log)
