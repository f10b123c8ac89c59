-- Where the actors that the code drives stand, in the words of worlds; and what holds of them
-- between two steps.

use Rattle.std.specs.Prelude.{◌≡◌, ◌≢◌, ℕ, ◌+◌, ◌<◌, ◌≤◌, nat_eq, Bool, true, false, ◌&&◌, List, [], ◌∷◌, length, map, slice_get, slice_index_or, Option, Some, None}
use Rattle.std.specs.List.{All, Contains, range_with_len}
use Rattle.wide_num.specs.RoomContents.{with_room}
use Rattle.drive_words.specs.Leading.{LeadTo}
use Rattle.drive_words.specs.Shown.{polling_of, spoke_of}
use Rattle.drive_words.specs.Steps.{decided, polled_on, step}
use Rattle.drive_words.specs.Worlds.{HubAt, World, is_written, new_rank, put_at, rank_at, with_rank}
use Rattle.hub_cylinder.specs.Hubs.{IsHub}
use Rattle.lagrangian_spoke.specs.Spokes as spoke_words
use Rattle.lagrangian_spoke.specs.declared.spoke.LagrangianSpoke.{LagrangianSpoke}
use Rattle.log_words.specs.declared.log.Answer.TheVariants.{Reply}
use Rattle.put_codec.specs.Layouts.{layout_in}
use Rattle.put_read.specs.Reads.{fresh_in}
use Rattle.put_read.specs.SpokeReads.{ReadsSpoke}
use Rattle.put_read.specs.declared.spokes.SpokeReader.{SpokeReader}
use Rattle.rank_writer.specs.Writers.{written}
use Rattle.rank_writer.specs.Writers as rank_words
use Rattle.rank_writer.specs.declared.writer.RankWriter.{RankWriter}
use Rattle.rank_writer.specs.declared.writer.Writing.TheVariants.{Shut}
use Rattle.run_log.specs.Events.{last_taken, next_spoke, present}
use Rattle.run_log.specs.declared.log.Event.{Event}
use Rattle.run_log.specs.declared.log.Event.TheVariants.{Put, Take}
use Rattle.run_log.specs.declared.log.Source.TheVariants as source
use Rattle.schedule_lines.specs.declared.schedule.Actor.{Actor}
use Rattle.schedule_lines.specs.declared.schedule.Actor.TheVariants as actor
use Rattle.schedule_lines.specs.declared.schedule.Turn.{Turn}
use Rattle.sp_model.specs.declared.run.Run.{Run}
use Rattle.stamped_read.specs.Readers.{Reader, fresh_reader}
use Rattle.window_words.specs.declared.views.View.{View}
use Rattle.schedule_core.specs.Seats.{Boards, viewed}
use Rattle.schedule_core.specs.declared.driver.Driver.{Driver}

-- the reader of spoke i's window; what stands past the last one
abbrev pub no_poll : SpokeReader
no_poll = record { reader = fresh_reader 0 (with_room 3 ∷ []) }

abbrev pub poll_at : Driver → ℕ → Reader
poll_at d i = (slice_index_or d.polls.items i no_poll).reader

abbrev pub hub_of : Driver → HubAt
hub_of d = record {
  events = d.hub.events.items;
  why = d.hub.end;
  asks = d.asks;
  reading = polling_of (poll_at d d.asks);
  stopped = d.is_stopped;
}

abbrev pub world_of : Driver → World
world_of d = record {
  ranks = d.ranks.items;
  spokes = map spoke_of d.spokes.items;
  hub = hub_of d;
}

abbrev pub put_in : Driver → ℕ
put_in d = present d.hub.events.items

-- rank i stands at seat i + 1 while put k is the present one; its window is shut where it has closed
-- that put
pub record IsRankAt (run : Run) (b : Boards) (k i : ℕ) (rank : RankWriter)
    : Type 0 where
  pub rank_is : rank.rank ≡ i
  pub stands : rank_words.StandsFor (layout_in run) (viewed b (i + 1)) rank k
  pub within : rank.last ≤ k
  pub shut : rank.last ≡ k → rank.writing ≡ Shut

-- spoke i stands behind the ranks, and has read no put behind the present one
pub record IsSpokeAt (run : Run) (b : Boards) (k i : ℕ) (s : LagrangianSpoke)
    : Type 0 where
  pub number_is : s.number ≡ i
  pub stands : spoke_words.StandsFor run (viewed b (run.options.ranks + 1 + i)) s
  pub within : spoke_words.read_last s ≤ k

-- the reader of spoke i's window reads at the first rank's seat: the last reply that it read is the
-- last that was taken, and it is begun only where the hub polls that spoke
pub record IsPollAt (run : Run) (d : Driver) (i : ℕ) (r : SpokeReader) : Type 0 where
  pub window : r.reader.window ≡ run.options.ranks + i
  pub reads : ReadsSpoke run (viewed d.board 1) r
  pub last : r.reader.last ≡ last_taken i d.hub.events.items
  pub idle : r.reader.begun ≡ true → (d.asks ≡ i) × (d.hub.end ≡ None) × (d.hub.wrote ≡ true)

-- each spoke's take is a reply among what the spoke has answered
abbrev pub IsReplied : List LagrangianSpoke → Event → Type 0
IsReplied spokes (Put k) = Unit {0}
IsReplied spokes (Take source.Hub k value lower upper) = ⊥
IsReplied spokes (Take (source.Spoke i) k value lower upper) =
    (s : LagrangianSpoke) × (slice_get spokes i ≡ Some s) × Contains s.answers.items (Reply k value)

-- what holds between two calls on the windows. The takes behind the present put are of spokes before
-- spoke n.
pub record IsDriverTo (run : Run) (d : Driver) (n : ℕ) : Type 0 where
  pub of : d.of.run.value ≡ run
  pub board : d.board.0 ≡ d.of
  pub hub : IsHub run d.hub
  pub wrote : d.hub.wrote ≡ is_written d.ranks.items (put_in d)
  pub many_ranks : length d.ranks.items ≡ run.options.ranks
  pub ranks : (i : ℕ) (rank : RankWriter) → slice_get d.ranks.items i ≡ Some rank
      → IsRankAt run d.board (put_in d) i rank
  pub many_spokes : length d.spokes.items ≡ run.options.lagrangian
  pub spokes : (i : ℕ) (s : LagrangianSpoke) → slice_get d.spokes.items i ≡ Some s
      → IsSpokeAt run d.board (put_in d) i s
  pub many_polls : length d.polls.items ≡ run.options.lagrangian
  pub polls : (i : ℕ) (r : SpokeReader) → slice_get d.polls.items i ≡ Some r → IsPollAt run d i r
  pub order : d.hub.end ≡ None → next_spoke d.hub.events.items ≤ n
  pub taken : All (IsReplied d.spokes.items) d.hub.events.items
  pub hub_seat : (viewed d.board 0).hub ≡ true
  pub free : d.is_stopped ≡ false → (viewed d.board 0).stopped ≡ 0
  pub at_stop : d.is_stopped ≡ true → (viewed d.board 0).stopped ≡ put_in d
  pub going : d.hub.end ≡ None → d.is_stopped ≡ false
  pub ended : d.hub.end ≢ None → d.hub.wrote ≡ true

-- what holds between two steps
abbrev pub IsDriver : Run → Driver → Type 0
IsDriver run d = IsDriverTo run d d.asks

-- the same behind the polling of the spoke that was asked, before the next one is asked or the hub
-- decides
pub record IsPolled (run : Run) (d : Driver) : Type 0 where
  pub driver : IsDriverTo run d (d.asks + 1)
  pub idle : (poll_at d d.asks).begun ≡ false

-- one step of an actor was made; whether a search was spent is known behind it
abbrev pub Steps : Run → Driver → Actor → Driver → Type 0
Steps run d actor d' = (spent : Option ℕ)
    × (world_of d' ≡ step run d.hub.hedge.bound (world_of d) spent actor)

abbrev pub LeadsTo : Run → Driver → List Actor → Driver → Type 0
LeadsTo run d actors d' = LeadTo run d.hub.hedge.bound actors (world_of d) (world_of d')

-- rank i made a call of the present put
abbrev pub with_written : World → ℕ → World
with_written w i = with_rank w i (written (rank_at w.ranks i) (put_at w))

-- whether the present put stands in all windows, and there is no spoke to poll
abbrev pub is_alone : Driver → Bool
is_alone d = nat_eq (length d.spokes.items) 0 && d.hub.wrote

-- the hub decides, or goes on to the next spoke before it
abbrev pub with_hub_of : Driver → HubAt → World
with_hub_of d hub = record {
  ranks = d.ranks.items;
  spokes = map spoke_of d.spokes.items;
  hub = hub;
}

abbrev pub Decides : Run → Driver → Driver → Type 0
Decides run d d' = (spent : Option ℕ)
    × (world_of d' ≡ with_hub_of d (decided run d.hub.hedge.bound (hub_of d) spent))

abbrev pub PassesOn : Run → Driver → Driver → Type 0
PassesOn run d d' = (spent : Option ℕ)
    × (world_of d' ≡ with_hub_of d
    (polled_on run d.hub.hedge.bound (length d.spokes.items) (hub_of d) spent))

-- actors of a run
abbrev pub IsActor : Run → Actor → Type 0
IsActor run actor.Hub = Unit {0}
IsActor run (actor.Rank i) = i < run.options.ranks
IsActor run (actor.Spoke i) = i < run.options.lagrangian

abbrev pub AreActors : Run → List Turn → Type 0
AreActors run turns = All (λ (turn : Turn). IsActor run turn.actor) turns

-- actors that have done nothing
abbrev pub AreNewRanks : Run → List RankWriter → Type 0
AreNewRanks run ranks = ranks ≡ map (new_rank run) (range_with_len 0 run.options.ranks)

pub record AreNewSpokes (run : Run) (spokes : List LagrangianSpoke) : Type 0 where
  pub many : length spokes ≡ run.options.lagrangian
  pub fresh : (i : ℕ) (s : LagrangianSpoke) → slice_get spokes i ≡ Some s
      → spoke_words.IsFresh i s
  pub reader : (i : ℕ) (s : LagrangianSpoke) → slice_get spokes i ≡ Some s
      → s.reader.reader ≡ fresh_in (layout_in run)
  pub stands : (i : ℕ) (s : LagrangianSpoke) (v : View) → slice_get spokes i ≡ Some s
      → spoke_words.IsNewSeat run.options.ranks (run.options.ranks + i) v
      → spoke_words.StandsFor run v s

abbrev pub AreNewPolls : Run → List SpokeReader → Type 0
AreNewPolls run polls = (length polls ≡ run.options.lagrangian)
    × ((i : ℕ) (r : SpokeReader) → slice_get polls i ≡ Some r
    → r.reader ≡ fresh_reader (run.options.ranks + i) (with_room 3 ∷ []))
