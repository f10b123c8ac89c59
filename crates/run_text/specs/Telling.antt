-- What the text of a run tells of its log, where each number of the log is one of its type.
use Rattle.std.specs.Prelude.{◌≡◌, ℕ, ◌<◌, ◌≤◌, ◌^◌, ⊤, ℤ, unsigned_abs, List, [], ◌∷◌, ◌++◌, length, Option, Some, None}
use Rattle.std.specs.List.{AllByRecursion, filter_map}
use Rattle.bound_ledger.specs.declared.ledger.Pair.{Pair}
use Rattle.log_words.specs.declared.log.Answer.{Answer}
use Rattle.log_words.specs.declared.log.Answer.TheVariants.{Reply, Skip}
use Rattle.log_words.specs.declared.log.SpokeLog.{SpokeLog}
use Rattle.run_log.specs.declared.log.End.{End}
use Rattle.run_log.specs.declared.log.End.TheVariants.{Agreed, Gap, Iterations, Spent}
use Rattle.run_log.specs.declared.log.Event.{Event}
use Rattle.run_log.specs.declared.log.Event.TheVariants.{Put, Take}
use Rattle.run_log.specs.declared.log.Log.{Log}
use Rattle.run_log.specs.declared.log.Source.{Source}
use Rattle.run_log.specs.declared.log.Source.TheVariants.{Hub, Spoke}
use Rattle.run_text.specs.Bodies.{upper_value}

-- the pair behind a take; none behind a put
abbrev pub pair_behind : Event → Option Pair
pair_behind (Put k) = None
pair_behind (Take source k value lower upper) = Some record { lower = lower; upper = upper }

-- the pairs of bounds of a run: the first one, one behind each take, and the last
abbrev pub pairs_of : Log → List Pair
pairs_of log =
    record { lower = log.first; upper = None } ∷ filter_map pair_behind log.events
    ++ record { lower = log.lower; upper = upper_value log } ∷ []

-- a signed number of 128 bits
abbrev pub IsWide : ℤ → Type 0
IsWide z = unsigned_abs z ≤ 2 ^ 127

abbrev pub IsWideIfAny : Option ℤ → Type 0
IsWideIfAny None = ⊤
IsWideIfAny (Some z) = IsWide z

-- a number of 64 bits
abbrev pub IsLong : ℕ → Type 0
IsLong n = n < 2 ^ 64

abbrev pub IsSource : Source → Type 0
IsSource Hub = ⊤
IsSource (Spoke i) = IsLong i

-- the numbers of an event are of their types
abbrev pub IsEvent : Event → Type 0
IsEvent (Put k) = IsLong k
IsEvent (Take source k value lower upper) =
    IsSource source × IsLong k × IsWideIfAny value × IsWide lower × IsWideIfAny upper

abbrev pub IsEnd : End → Type 0
IsEnd Agreed = ⊤
IsEnd Gap = ⊤
IsEnd Iterations = ⊤
IsEnd (Spent s) = IsLong s

abbrev pub IsAnswer : Answer → Type 0
IsAnswer (Reply k value) = IsLong k × IsWideIfAny value
IsAnswer (Skip k s opened) = IsLong k × IsLong s

-- the numbers of a log are of their types
pub record IsOfTypes (log : Log) : Type 0 where
  pub first : IsWide log.first
  pub events : AllByRecursion IsEvent log.events
  pub why : IsEnd log.end
  pub spokes : AllByRecursion (λ (spoke : SpokeLog). AllByRecursion IsAnswer spoke.answers)
      log.spokes
  pub few : IsLong (length log.spokes)
  pub lower : IsWide log.lower
  pub upper : IsWideIfAny (upper_value log)

-- two logs have the same events, the same end, and the same pairs of bounds
pub record TellTheSame (log other : Log) : Type 0 where
  pub events : log.events ≡ other.events
  pub why : log.end ≡ other.end
  pub pairs : pairs_of log ≡ pairs_of other
