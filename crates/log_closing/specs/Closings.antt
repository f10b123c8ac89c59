-- How the log of a run is closed: the replies that are left, and the multipliers behind the lower
-- bound.

use Rattle.std.specs.Prelude.{◌≡◌, ◌≢◌, ℕ, ◌+◌, ◌≤◌, nat_lt, Bool, true, ◌&&◌, List, [], ◌∷◌, ◌++◌, length, map, slice_get, slice_index_or, ℤ, ◌≤ℤ◌, Option, Some, None, if◌then◌else◌}
use Rattle.std.specs.List.{All, filter_map, fold}
use Rattle.std.specs.Ordering.{int_eq}
use Rattle.put_words.specs.Puts.{Made, put_of}
use Rattle.sp_model.specs.declared.plan.Multipliers.{Multipliers}
use Rattle.sp_model.specs.declared.run.Run.{Run}
use Rattle.log_words.specs.declared.log.Answer.{Answer}
use Rattle.log_words.specs.declared.log.Answer.TheVariants.{Reply, Skip}
use Rattle.log_words.specs.declared.log.Backing.{Backing}
use Rattle.log_words.specs.declared.log.Backing.TheVariants.{Lower, Upper}
use Rattle.log_words.specs.declared.log.SpokeEnd.{SpokeEnd}
use Rattle.log_words.specs.declared.log.SpokeKind.TheVariants.{Lagrangian}
use Rattle.log_words.specs.declared.log.SpokeLog.{SpokeLog}
use Rattle.lagrangian_spoke.specs.Answering.{best_reply}
use Rattle.run_log.specs.Events.{EachBehind, HasPair, pair_in}
use Rattle.run_log.specs.Runs.{Claim, IsFirstPut, IsSpokeLog, claim_of}
use Rattle.run_log.specs.declared.log.Event.{Event}
use Rattle.run_log.specs.declared.log.Source.TheVariants.{Spoke}
use Rattle.log_closing.specs.Marks.{mark_of, spokes_of}
use Rattle.log_closing.specs.declared.closing.Closing.{Closing}
use Rattle.log_closing.specs.declared.gathering.Found.{Found}

-- what a spoke hands over beside its answers: the first greatest of its replies with the
-- multipliers of that put; nothing where no reply has a value
abbrev pub IsBacking : Run → List Answer → Option Backing → Type 0
IsBacking run answers None = best_reply answers ≡ None
IsBacking run answers (Some (Lower k value multipliers)) = (best_reply answers ≡ Some (k, value))
    × ((made : Made) → put_of run k ≡ Some made → multipliers ≡ made.put.multipliers)
IsBacking run answers (Some (Upper k value plan)) = ⊥

-- what spoke i hands over when the run ends behind put p
pub record IsSpokeEnd (run : Run) (p i : ℕ) (end : SpokeEnd) : Type 0 where
  pub log : IsSpokeLog run p i end.log
  pub backing : IsBacking run end.log.answers end.best

-- what the spokes of a run hand over, in the order of their numbers
pub record AreSpokeEnds (run : Run) (p : ℕ) (ends : List SpokeEnd) : Type 0 where
  pub many : length ends ≡ spokes_of run
  pub each : (i : ℕ) (end : SpokeEnd) → slice_get ends i ≡ Some end → IsSpokeEnd run p i end

abbrev pub logs_of : List SpokeEnd → List SpokeLog
logs_of ends = map (λ (end : SpokeEnd). end.log) ends

-- what stands past the end of what spokes hand over
abbrev pub no_end : SpokeEnd
no_end = record { log = record { kind = Lagrangian; answers = [] }; best = None }

-- the answers that spoke i hands over
abbrev pub answers_at : List SpokeEnd → ℕ → List Answer
answers_at ends i = (slice_index_or ends i no_end).log.answers

-- some claims are taken behind some events: each take tells its pair
pub record TakenBehind (first : ℤ) (old new : List Event) (claims : List Claim) : Type 0 where
  pub closing : List Event
  pub events : new ≡ old ++ closing
  pub taken : map claim_of closing ≡ map Some claims
  pub pairs : EachBehind (HasPair first) old → EachBehind (HasPair first) new

-- what a step of the closing does: it takes some claims
pub record Advances (first : ℤ) (c c' : Closing) (claims : List Claim) : Type 0 where
  pub pair : c.ledger.pair ≡ pair_in first c.events.items
      → c'.ledger.pair ≡ pair_in first c'.events.items
  pub taken : c.ledger.pair ≡ pair_in first c.events.items
      → TakenBehind first c.events.items c'.events.items claims
  pub spare : c'.events.spare + length claims ≡ c.events.spare

-- a reply of spoke i, if it isn't marked
abbrev pub left_by : ℕ → List Bool → ℕ → Answer → Option Claim
left_by most marks i (Reply k value) = if mark_of most marks i k then None
    else Some record { source = Spoke i; put = k; value = value }
left_by most marks i (Skip k s opened) = None

-- those of some spokes, counted from i
abbrev pub left_behind : ℕ → List Bool → ℕ → List SpokeLog → List Claim
left_behind most marks i [] = []
left_behind most marks i (log ∷ logs) =
    filter_map (left_by most marks i) log.answers ++ left_behind most marks (i + 1) logs

-- an answer has a mark's place
abbrev pub HasPlace : ℕ → Answer → Type 0
HasPlace most (Reply k value) = k ≤ most
HasPlace most (Skip k s opened) = Unit {0}

-- the answers of a log have places, and are no more than the puts
pub record HasPlaces (most : ℕ) (log : SpokeLog) : Type 0 where
  pub each : All (HasPlace most) log.answers
  pub few : length log.answers ≤ most

-- a reply isn't above a bound, or isn't it
abbrev pub IsAtMost : ℤ → Answer → Type 0
IsAtMost bound (Reply k None) = Unit {0}
IsAtMost bound (Reply k (Some value)) = value ≤ℤ bound
IsAtMost bound (Skip k s opened) = Unit {0}

abbrev pub IsOther : ℤ → Answer → Type 0
IsOther bound (Reply k value) = value ≢ Some bound
IsOther bound (Skip k s opened) = Unit {0}

-- the multipliers of the first put to which some spokes replied with a bound, if one did
abbrev pub IsFoundFirst : Run → List SpokeLog → ℤ → Option Found → Type 0
IsFoundFirst run logs bound None = All (λ (log : SpokeLog). All (IsOther bound) log.answers) logs
IsFoundFirst run logs bound (Some found) = IsFirstPut logs bound found.put
    × ((made : Made) → put_of run found.put ≡ Some made → found.multipliers ≡ made.put.multipliers)

-- whether a put comes before the one that was found, if one was
abbrev pub is_earlier : Option Found → ℕ → Bool
is_earlier None k = true
is_earlier (Some found) k = nat_lt k found.put

-- what a spoke hands over, where it has the bound and its put comes before the one that was found
abbrev pub nearer : ℤ → Option Found → Option Backing → Option Found
nearer bound found None = found
nearer bound found (Some (Lower k value multipliers)) = if int_eq value bound && is_earlier found k
    then Some record { put = k; multipliers = multipliers } else found
nearer bound found (Some (Upper k value plan)) = found

abbrev pub found_in : ℤ → List SpokeEnd → Option Found
found_in bound ends = fold (λ found (end : SpokeEnd). nearer bound found end.best) None ends

-- the multipliers of a lower bound: 0 for the first one, else those that were found
abbrev pub multipliers_behind : Multipliers → ℤ → ℤ → Option Found → Multipliers
multipliers_behind nothing first lower None = nothing
multipliers_behind nothing first lower (Some found) =
    if int_eq lower first then nothing else found.multipliers
