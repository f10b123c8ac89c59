-- Where all actors of a run stand between two steps, and the stamps of their windows.

use Rattle.std.specs.Prelude.{ℕ, ◌-◌, ◌*◌, nat_le, Bool, List, [], ◌∷◌, map, slice_index_or, slice_set, Option, None, false}
use Rattle.std.specs.List.{list_all, range_with_len}
use Rattle.lagrangian_spoke.specs.Answering.{replied}
use Rattle.lagrangian_spoke.specs.declared.spoke.Phase.{Phase}
use Rattle.lagrangian_spoke.specs.declared.spoke.Phase.TheVariants.{Asks, Reads, Opens, Writes, Ended}
use Rattle.log_words.specs.declared.log.Answer.{Answer}
use Rattle.put_codec.specs.Layouts.{layout_in, width_of}
use Rattle.rank_writer.specs.declared.writer.RankWriter.{RankWriter}
use Rattle.rank_writer.specs.declared.writer.Writing.{Writing}
use Rattle.rank_writer.specs.declared.writer.Writing.TheVariants.{Open, Shut}
use Rattle.run_log.specs.Events.{present}
use Rattle.run_log.specs.declared.log.End.{End}
use Rattle.run_log.specs.declared.log.Event.{Event}
use Rattle.run_log.specs.declared.log.Event.TheVariants.{Put}
use Rattle.sp_model.specs.declared.run.Run.{Run}
use Rattle.window_words.specs.Views.{last_of}

-- a spoke's reading: the rank that is read, whether its part is begun, the stamp of the reading, how
-- many words of the part were read, and the last put that was read whole
pub record ReadingAt : Type 0 where
  pub rank : ℕ
  pub begun : Bool
  pub first : ℕ
  pub words : ℕ
  pub last : ℕ

-- a spoke: what its next step does, its reading, and what it has answered through its window
pub record SpokeAt : Type 0 where
  pub phase : Phase
  pub reading : ReadingAt
  pub answers : List Answer

-- a reading of a spoke's window: the stamp that it began at, and how many words were read
pub record Polling : Type 0 where
  pub first : ℕ
  pub words : ℕ

-- the hub: the events so far, why the run has ended, the spoke that it polls next, the reading of
-- that spoke's window, and whether it has stopped
pub record HubAt : Type 0 where
  pub events : List Event
  pub why : Option End
  pub asks : ℕ
  pub reading : Option Polling
  pub stopped : Bool

-- all actors. What words stand in the windows is left out: a whole reading of an entry has the
-- entry's words.
pub record World : Type 0 where
  pub ranks : List RankWriter
  pub spokes : List SpokeAt
  pub hub : HubAt

-- no rank, and no spoke
abbrev pub no_rank : RankWriter
no_rank = record { rank = 0; width = 0; last = 0; writing = Shut }

abbrev pub no_reading : ReadingAt
no_reading = record { rank = 0; begun = false; first = 0; words = 0; last = 0 }

abbrev pub no_spoke : SpokeAt
no_spoke = record { phase = Ended; reading = no_reading; answers = [] }

abbrev pub rank_at : List RankWriter → ℕ → RankWriter
rank_at ranks i = slice_index_or ranks i no_rank

abbrev pub spoke_at : World → ℕ → SpokeAt
spoke_at w i = slice_index_or w.spokes i no_spoke

abbrev pub with_hub : World → HubAt → World
with_hub w hub = record w { hub = hub }

abbrev pub with_rank : World → ℕ → RankWriter → World
with_rank w i rank = record w { ranks = slice_set w.ranks i rank }

abbrev pub with_spoke : World → ℕ → SpokeAt → World
with_spoke w i spoke = record w { spokes = slice_set w.spokes i spoke }

-- the number of the present put
abbrev pub put_at : World → ℕ
put_at w = present w.hub.events

-- the stamp of a rank's window while put k is the present one: odd while the put is written
abbrev pub stamp_in : ℕ → ℕ → Writing → ℕ
stamp_in last k Shut = 2 * last
stamp_in last k (Open n) = 2 * k - 1

abbrev pub rank_stamp : RankWriter → ℕ → ℕ
rank_stamp rank k = stamp_in rank.last k rank.writing

-- the stamp of a spoke's window: odd while it writes the reply to the put that it read last
abbrev pub reply_stamp : List Answer → ℕ → Phase → ℕ
reply_stamp answers k Asks = 2 * last_of (replied answers)
reply_stamp answers k Reads = 2 * last_of (replied answers)
reply_stamp answers k Opens = 2 * last_of (replied answers)
reply_stamp answers k (Writes n) = 2 * k - 1
reply_stamp answers k Ended = 2 * last_of (replied answers)

abbrev pub spoke_stamp : SpokeAt → ℕ
spoke_stamp spoke = reply_stamp spoke.answers spoke.reading.last spoke.phase

-- put k stands whole in the windows of all ranks
abbrev pub has_closed : ℕ → RankWriter → Bool
has_closed k rank = nat_le k rank.last

abbrev pub is_written : List RankWriter → ℕ → Bool
is_written ranks k = list_all (has_closed k) ranks

-- where all actors stand behind the making of put 1
abbrev pub part_width : Run → ℕ → ℕ
part_width run i = width_of (layout_in run) i

abbrev pub new_rank : Run → ℕ → RankWriter
new_rank run i = record { rank = i; width = part_width run i; last = 0; writing = Shut }

abbrev pub new_spoke : ℕ → SpokeAt
new_spoke i = record { phase = Asks; reading = no_reading; answers = [] }

abbrev pub new_hub : HubAt
new_hub = record {
  events = Put 1 ∷ [];
  why = None;
  asks = 0;
  reading = None;
  stopped = false;
}

abbrev pub first_world : Run → World
first_world run = record {
  ranks = map (new_rank run) (range_with_len 0 run.options.ranks);
  spokes = map new_spoke (range_with_len 0 run.options.lagrangian);
  hub = new_hub;
}
