-- What log a run may have, where its spokes are Lagrangian.

use Rattle.std.specs.Prelude.{◌≡◌, ◌≢◌, ℕ, ◌+◌, ◌<◌, ◌≤◌, List, [], ◌∷◌, ◌++◌, length, map, slice_get, ℤ, ◌-ℤ◌, ◌≤ℤ◌, Option, Some, None, option_map, IsSomeAnd, if◌then◌else◌}
use Rattle.std.specs.List.{All, Any, Contains, filter_map}
use Rattle.std.specs.Option.{option_map_or}
use Rattle.agreement.specs.Agreeing.{AreAgreed}
use Rattle.bound_ledger.specs.declared.ledger.Pair.{Pair}
use Rattle.branch_bound.specs.PlainSearch.{ref_count}
use Rattle.sp_model.specs.Plans.{cost_of}
use Rattle.sp_model.specs.Problems.{scenarios, wait_and_see_of}
use Rattle.sp_model.specs.declared.plan.Multipliers.{Multipliers}
use Rattle.sp_model.specs.declared.plan.Plan.{Plan}
use Rattle.sp_model.specs.declared.run.Run.{Run}
use Rattle.put_words.specs.Hedged.{hedged_in}
use Rattle.put_words.specs.NextMultipliers.{no_multipliers}
use Rattle.put_words.specs.Puts.{Made, put_of}
use Rattle.log_words.specs.Replies.{reply_of}
use Rattle.log_words.specs.declared.log.Answer.{Answer}
use Rattle.log_words.specs.declared.log.Answer.TheVariants.{Reply, Skip}
use Rattle.log_words.specs.declared.log.SpokeKind.TheVariants.{Lagrangian}
use Rattle.log_words.specs.declared.log.SpokeLog.{SpokeLog}
use Rattle.lagrangian_spoke.specs.Answering.{AreAnswers, last_put}
use Rattle.run_log.specs.Events.{EachBehind, HasPair, MayTake, is_taken, pair_in, present}
use Rattle.run_log.specs.declared.log.End.{End}
use Rattle.run_log.specs.declared.log.End.TheVariants.{Agreed, Gap, Iterations, Spent}
use Rattle.run_log.specs.declared.log.Event.{Event}
use Rattle.run_log.specs.declared.log.Event.TheVariants.{Put, Take}
use Rattle.run_log.specs.declared.log.Log.{Log}
use Rattle.run_log.specs.declared.log.Source.{Source}
use Rattle.run_log.specs.declared.log.Source.TheVariants.{Hub, Spoke}
use Rattle.run_log.specs.declared.log.Upper.{Upper}

-- what spoke i has answered when the run ends behind put p: right answers in rising order, of which
-- the last is to that put, by a reply or by a skip
pub record IsSpokeLog (run : Run) (p i : ℕ) (log : SpokeLog) : Type 0 where
  pub kind : log.kind ≡ Lagrangian
  pub answers : AreAnswers run i log.answers
  pub last : last_put log.answers ≡ p

-- the values, the points and the multipliers of put k
abbrev pub values_of : Run → ℕ → List ℤ
values_of run k = option_map_or (λ (made : Made). made.put.x) (put_of run k) []

abbrev pub plan_of : Run → ℕ → Plan
plan_of run k = option_map_or (λ (made : Made). made.plan) (put_of run k) (record { points = [] })

abbrev pub multipliers_of : Run → ℕ → Multipliers
multipliers_of run k =
    option_map_or (λ (made : Made). made.put.multipliers) (put_of run k) (no_multipliers run)

-- a pair whose bounds are as close as the run asks
abbrev pub IsClose : Run → Pair → Type 0
IsClose run pair = IsSomeAnd pair.upper (λ upper. (upper -ℤ pair.lower) ≤ℤ run.options.gap)

-- behind put k and at this pair no test ends the run
pub record GoesOn (run : Run) (k : ℕ) (pair : Pair) : Type 0 where
  pub apart : AreAgreed run (values_of run k) → ⊥
  pub wide : IsClose run pair → ⊥
  pub more : k ≤ run.options.iterations

-- the search of scenario s for the put behind put k opens more boxes than the budget
pub record IsSpentNext (run : Run) (k s : ℕ) : Type 0 where
  pub there : s < scenarios run
  pub more : (made : Made) → put_of run k ≡ Some made
      → run.options.budget < ref_count (hedged_in run made.put.multipliers made.put.x s)

-- why a run ends behind put k and at this pair: the first test that holds, or where none does a
-- search for the next put is spent
abbrev pub EndsBy : Run → ℕ → Pair → End → Type 0
EndsBy run k pair Agreed = AreAgreed run (values_of run k)
EndsBy run k pair Gap = (AreAgreed run (values_of run k) → ⊥) × IsClose run pair
EndsBy run k pair Iterations =
    (AreAgreed run (values_of run k) → ⊥) × (IsClose run pair → ⊥)
    × (k ≡ run.options.iterations + 1)
EndsBy run k pair (Spent s) = GoesOn run k pair × IsSpentNext run k s

-- put k may be the next event: it is the next by number, and behind the one before it no test ends
-- the run
pub record MayPut (run : Run) (first : ℤ) (before : List Event) (k : ℕ) : Type 0 where
  pub next : k ≡ present before + 1
  pub goes_on : 1 ≤ present before → GoesOn run (present before) (pair_in first before)

-- a take of a polling is a spoke's, whose reply it is
abbrev pub MayPoll : Run → List Event → Source → ℕ → Option ℤ → Type 0
MayPoll run before Hub k value = ⊥
MayPoll run before (Spoke i) k value =
    (i < run.options.lagrangian) × (value ≡ reply_of run i k) × MayTake before i k

-- an event that may follow those before it, up to the end of the last polling
abbrev pub MayFollow : Run → ℤ → List Event → Event → Type 0
MayFollow run first before (Put k) = MayPut run first before k
MayFollow run first before (Take source k value lower upper) = MayPoll run before source k value

-- the events of a run up to some place of a polling: each follows those before it, and each take
-- tells its pair
pub record AreEvents (run : Run) (first : ℤ) (events : List Event) : Type 0 where
  pub follow : EachBehind (MayFollow run first) events
  pub pairs : EachBehind (HasPair first) events

-- what is taken: whose reply, to which put, and its value
pub record Claim : Type 0 where
  pub source : Source
  pub put : ℕ
  pub value : Option ℤ

-- what a take takes; none of a put
abbrev pub claim_of : Event → Option Claim
claim_of (Put k) = None
claim_of (Take source k value lower upper) =
    Some record { source = source; put = k; value = value }

-- behind the last polling the hub takes the cost of its points, if they are a plan
abbrev pub own_claims : Run → ℕ → End → List Claim
own_claims run p Agreed =
    record { source = Hub; put = p; value = Some (cost_of run (plan_of run p)) } ∷ []
own_claims run p Gap = []
own_claims run p Iterations = []
own_claims run p (Spent s) = []

-- a reply of spoke i, if it wasn't taken among some events
abbrev pub left_in : List Event → ℕ → Answer → Option Claim
left_in events i (Reply k value) = if is_taken events i k then None
    else Some record { source = Spoke i; put = k; value = value }
left_in events i (Skip k s opened) = None

-- the replies that weren't taken, spoke by spoke and put by put; the spokes are counted from i
abbrev pub left_from : List Event → ℕ → List SpokeLog → List Claim
left_from events i [] = []
left_from events i (log ∷ logs) =
    filter_map (left_in events i) log.answers ++ left_from events (i + 1) logs

-- a reply stands among the answers of its spoke
abbrev pub IsAnsweredBy : List SpokeLog → Source → ℕ → Option ℤ → Type 0
IsAnsweredBy logs Hub k value = ⊥
IsAnsweredBy logs (Spoke i) k value = IsSomeAnd (slice_get logs i)
    (λ (log : SpokeLog). Contains log.answers (Reply k value))

-- each take is a reply among the answers of its spoke
abbrev pub IsAnswered : List SpokeLog → Event → Type 0
IsAnswered logs (Put k) = Unit {0}
IsAnswered logs (Take source k value lower upper) = IsAnsweredBy logs source k value

-- no reply of this value is to a put before put k
abbrev pub IsNoEarlier : ℕ → ℤ → Answer → Type 0
IsNoEarlier k value (Reply m other) = other ≡ Some value → k ≤ m
IsNoEarlier k value (Skip m s opened) = Unit {0}

-- put k is the first to which a spoke replied with this value
pub record IsFirstPut (logs : List SpokeLog) (value : ℤ) (k : ℕ) : Type 0 where
  pub there : Any (λ (log : SpokeLog). Contains log.answers (Reply k (Some value))) logs
  pub none_earlier : All (λ (log : SpokeLog). All (IsNoEarlier k value) log.answers) logs

-- the multipliers of a lower bound: 0 for the first bound, else those of the first put to which a
-- spoke replied with it
pub record BacksLower (run : Run) (logs : List SpokeLog) (first lower : ℤ)
    (multipliers : Multipliers) : Type 0 where
  pub at_first : lower ≡ first → multipliers ≡ no_multipliers run
  pub later : lower ≢ first → (k : ℕ) × IsFirstPut logs lower k
      × (multipliers ≡ multipliers_of run k)

-- an upper bound is the cost of the last put's points
abbrev pub upper_at : Run → ℕ → ℤ → Upper
upper_at run p value = record { value = value; plan = plan_of run p }

-- the log of a run, all of whose spokes are Lagrangian
pub record IsRun (run : Run) (log : Log) : Type 0 where
  -- the events up to the end of the last polling, and those behind it
  pub polled : List Event
  pub closing : List Event
  pub events : log.events ≡ polled ++ closing
  -- the wait-and-see bound comes first, then at least one put
  pub first : wait_and_see_of run ≡ Some log.first
  pub some : 1 ≤ present polled
  -- what each spoke answered
  pub alone : run.options.xhat ≡ 0
  pub many : length log.spokes ≡ run.options.lagrangian
  pub spokes : (i : ℕ) (spoke : SpokeLog) → slice_get log.spokes i ≡ Some spoke
      → IsSpokeLog run (present polled) i spoke
  -- puts and polls in their order, and the tests between them
  pub follow : EachBehind (MayFollow run log.first) polled
  pub answered : All (IsAnswered log.spokes) polled
  pub ends : EndsBy run (present polled) (pair_in log.first polled) log.end
  -- behind the last polling each reply that is left is taken once
  pub rest : map claim_of closing ≡ map Some (own_claims run (present polled) log.end
      ++ left_from polled 0 log.spokes)
  -- the pairs, and what backs the last one
  pub pairs : EachBehind (HasPair log.first) log.events
  pub lower : log.lower ≡ (pair_in log.first log.events).lower
  pub multipliers : BacksLower run log.spokes log.first log.lower log.multipliers
  pub upper : log.upper
      ≡ option_map (upper_at run (present polled)) (pair_in log.first log.events).upper
