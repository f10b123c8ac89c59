-- Steps whose searches were made, and what cuts say of these searches.

use Rattle.std.specs.Prelude.{◌≡◌, ℕ, zero, suc, ◌<◌, List, [], ◌∷◌, ◌++◌, length, map, slice_index_or, ℤ, Option, Some, None, replicate}
use Rattle.std.specs.List.{All, AllPairs, flat_map}
use Rattle.lagrangian_spoke.specs.Answering.{last_put, put_in}
use Rattle.lagrangian_spoke.specs.declared.spoke.Phase.{Phase}
use Rattle.lagrangian_spoke.specs.declared.spoke.Phase.TheVariants.{Asks, Reads, Opens, Writes, Ended}
use Rattle.log_words.specs.declared.log.Answer.{Answer}
use Rattle.log_words.specs.declared.log.Answer.TheVariants.{Reply, Skip}
use Rattle.log_words.specs.declared.log.SpokeLog.{SpokeLog}
use Rattle.run_log.specs.Runs.{claim_of, left_from, own_claims}
use Rattle.run_log.specs.declared.log.Event.{Event}
use Rattle.run_log.specs.declared.log.Log.{Log}
use Rattle.run_log.specs.declared.log.End.TheVariants.{Spent}
use Rattle.schedule_lines.specs.declared.schedule.Actor.{Actor}
use Rattle.schedule_lines.specs.declared.schedule.Turn.{Turn}
use Rattle.sp_model.specs.declared.run.Run.{Run}
use Rattle.drive_words.specs.Worlds.{SpokeAt, World, put_at, spoke_at}
use Rattle.drive_words.specs.Steps.{step}
use Rattle.drive_words.specs.Driving.{Cuts, actors_of, finished, no_log, rounds_of, skip_of}

-- actors make a step each, one after another; what came of a step's search is known when it is made
abbrev pub LeadTo : Run → ℤ → List Actor → World → World → Type 0
LeadTo run first [] w w' = w' ≡ w
LeadTo run first (actor ∷ actors) w w' =
    (spent : Option ℕ) × LeadTo run first actors (step run first w spent actor) w'

-- whom the turns of a schedule ask, and whom some rounds ask
abbrev pub turn_asks : Turn → List Actor
turn_asks turn = replicate turn.count turn.actor

abbrev pub turns_ask : List Turn → List Actor
turns_ask turns = flat_map turn_asks turns

abbrev pub rounds_ask : Run → ℕ → List Actor
rounds_ask run zero = []
rounds_ask run (suc n) = rounds_ask run n ++ actors_of run

-- cuts name the search of an answer exactly where it is a skip
abbrev pub SaysOf : (ℕ → Option ℕ) → Answer → Type 0
SaysOf skips (Reply k value) = skips k ≡ None
SaysOf skips (Skip k s opened) = skips k ≡ Some s

-- the search of a reply that is still to be written wasn't spent
abbrev pub SaysPending : (ℕ → Option ℕ) → ℕ → Phase → Type 0
SaysPending skips k Asks = Unit {0}
SaysPending skips k Reads = Unit {0}
SaysPending skips k Opens = skips k ≡ None
SaysPending skips k (Writes n) = skips k ≡ None
SaysPending skips k Ended = Unit {0}

-- cuts name exactly those searches that were spent on the way to a world
pub record SayOf (cuts : Cuts) (w : World) : Type 0 where
  pub answers : (i : ℕ) → All (SaysOf (cuts.skips i)) (spoke_at w i).answers
  pub pending : (i : ℕ) → SaysPending (cuts.skips i) (spoke_at w i).reading.last (spoke_at w i).phase
  pub puts : (k : ℕ) → k < put_at w → cuts.next k ≡ None
  pub ended : (s : ℕ) → w.hub.why ≡ Some (Spent s) → cuts.next (put_at w) ≡ Some s

-- the answers of a spoke are to puts that rise, and a reply that is to be written is to a later one
abbrev pub IsPendingNewer : ℕ → ℕ → Phase → Type 0
IsPendingNewer last k Asks = Unit {0}
IsPendingNewer last k Reads = Unit {0}
IsPendingNewer last k Opens = last < k
IsPendingNewer last k (Writes n) = last < k
IsPendingNewer last k Ended = Unit {0}

pub record IsRising (spoke : SpokeAt) : Type 0 where
  pub rising : AllPairs (λ a b. put_in a < put_in b) spoke.answers
  pub pending : IsPendingNewer (last_put spoke.answers) spoke.reading.last spoke.phase

abbrev pub AreRising : World → Type 0
AreRising w = (i : ℕ) → IsRising (spoke_at w i)

-- the asks of a schedule and of all rounds behind it
abbrev pub all_asks : Run → List Turn → List Actor
all_asks run turns = turns_ask turns ++ rounds_ask run (rounds_of run)

-- what spoke i has answered in a log: what it has answered in a world, and the last put
abbrev pub IsFinished : Run → ℕ → List SpokeLog → ℕ → List Answer → Type 0
IsFinished run p logs i answers = (slice_index_or logs i no_log).answers
    ≡ finished run p i (skip_of logs i p) answers

-- a log that is closed behind a world
pub record ClosesBehind (run : Run) (w : World) (log : Log) : Type 0 where
  pub why : w.hub.why ≡ Some log.end
  pub many : length log.spokes ≡ run.options.lagrangian
  pub finished_is : (i : ℕ) → i < run.options.lagrangian
      → IsFinished run (put_at w) log.spokes i (spoke_at w i).answers
  pub closing : List Event
  pub events : log.events ≡ w.hub.events ++ closing
  pub claims : map claim_of closing ≡ map Some (own_claims run (put_at w) log.end
      ++ left_from w.hub.events 0 log.spokes)
