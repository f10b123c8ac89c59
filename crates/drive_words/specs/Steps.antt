-- Where one step of an actor leads. A step is one call on the windows; work without words belongs to
-- the step before it.

use Rattle.std.specs.Prelude.{ℕ, ◌+◌, ◌/◌, ◌%◌, nat_eq, nat_le, nat_lt, Bool, true, false, ◌&&◌, List, [], ◌∷◌, ◌++◌, length, ℤ, ◌-ℤ◌, int_le, Option, Some, None, if◌then◌else◌}
use Rattle.std.specs.List.{list_all, range_with_len}
use Rattle.std.specs.Option.{option_map_or}
use Rattle.std.specs.Ordering.{int_eq}
use Rattle.bound_ledger.specs.Pairs.{pair_after}
use Rattle.bound_ledger.specs.declared.ledger.Pair.{Pair}
use Rattle.lagrangian_spoke.specs.declared.spoke.Phase.{Phase}
use Rattle.lagrangian_spoke.specs.declared.spoke.Phase.TheVariants.{Asks, Reads, Opens, Writes, Ended}
use Rattle.log_words.specs.Replies.{reply_of}
use Rattle.log_words.specs.declared.log.Answer.TheVariants.{Reply, Skip}
use Rattle.put_words.specs.NodeSums.{value_at}
use Rattle.rank_writer.specs.Writers.{written}
use Rattle.run_log.specs.Events.{bound_from, bounds_of, last_taken, pair_in, present}
use Rattle.run_log.specs.Runs.{values_of}
use Rattle.run_log.specs.declared.log.End.{End}
use Rattle.run_log.specs.declared.log.End.TheVariants.{Agreed, Gap, Iterations, Spent}
use Rattle.run_log.specs.declared.log.Event.{Event}
use Rattle.run_log.specs.declared.log.Event.TheVariants.{Put, Take}
use Rattle.run_log.specs.declared.log.Source.{Source}
use Rattle.run_log.specs.declared.log.Source.TheVariants as source
use Rattle.schedule_lines.specs.declared.schedule.Actor.{Actor}
use Rattle.schedule_lines.specs.declared.schedule.Actor.TheVariants.{Hub, Rank, Spoke}
use Rattle.sp_model.specs.Plans.{stage_of}
use Rattle.sp_model.specs.declared.run.Run.{Run}
use Rattle.tree_core.specs.Nodes.{first_of}
use Rattle.tree_core.specs.declared.tree.Node.{Node}
use Rattle.drive_words.specs.Worlds.{HubAt, Polling, ReadingAt, SpokeAt, World, is_written, put_at, rank_at, rank_stamp, spoke_at, spoke_stamp, with_hub, with_rank, with_spoke}

-- THE HUB

-- the scenarios of a node have one value in a nonleaf column, if the column is of the node's stage
abbrev pub is_one_in : Run → List ℤ → Node → ℕ → Bool
is_one_in run x node j = if nat_eq (stage_of run j) node.stage
    then list_all (λ s. int_eq (value_at run x s j) (value_at run x (first_of node) j))
    node.scenarios
    else true

-- the values agree on every node
abbrev pub is_agreed : Run → List ℤ → Bool
is_agreed run x = list_all
    (λ (node : Node). list_all (is_one_in run x node) (range_with_len 0 run.nonleaf))
    run.program.tree.nodes

-- the bounds are as close as the run asks
abbrev pub is_close : Run → Pair → Bool
is_close run pair =
    option_map_or (λ upper. int_le (upper -ℤ pair.lower) run.options.gap) pair.upper false

-- the events with one take more, which tells the pair that it reaches
abbrev pub take_with : Source → ℕ → Option ℤ → Pair → Event
take_with from k value pair = Take from k value pair.lower pair.upper

abbrev pub taken : ℤ → List Event → Source → ℕ → Option ℤ → List Event
taken first events from k value =
    events ++ take_with from k value
    (pair_after first (bounds_of events ++ bound_from from value ∷ [])) ∷ []

-- the first test that ends the run behind put k at a pair, if one does
abbrev pub test_by : Bool → Bool → Bool → Option End
test_by agreed close last = if agreed then Some Agreed
    else (if close then Some Gap else (if last then Some Iterations else None))

abbrev pub test_of : Run → ℕ → Pair → Option End
test_of run k pair = test_by (is_agreed run (values_of run k)) (is_close run pair)
    (nat_eq k (run.options.iterations + 1))

-- where no test ends the run: the next put is made, or the search of this scenario for it is spent
abbrev pub goes_on : ℕ → HubAt → Option ℕ → HubAt
goes_on k hub None =
    record hub { events = hub.events ++ Put (k + 1) ∷ []; asks = 0; reading = None }
goes_on k hub (Some s) = record hub { why = Some (Spent s); reading = None }

abbrev pub decided_by : ℕ → HubAt → Option ℕ → Option End → HubAt
decided_by k hub spent None = goes_on k hub spent
decided_by k hub spent (Some why) = record hub { why = Some why; reading = None }

-- all spokes were polled: the hub decides
abbrev pub decided : Run → ℤ → HubAt → Option ℕ → HubAt
decided run first hub spent = decided_by (present hub.events) hub spent
    (test_of run (present hub.events) (pair_in first hub.events))

-- the next spoke is polled, or all were
abbrev pub polled_on : Run → ℤ → ℕ → HubAt → Option ℕ → HubAt
polled_on run first spokes hub spent =
    if nat_lt (hub.asks + 1) spokes then record hub { asks = hub.asks + 1; reading = None }
    else decided run first hub spent

-- a stamp is odd, or its entry isn't newer than the last take
abbrev pub is_old : ℕ → ℕ → Bool
is_old n last = if nat_eq (n % 2) 1 then true else nat_le (n / 2) last

-- a reading of a spoke's window, whose stamp is n, begins, or the hub passes the spoke over
abbrev pub poll_begun : Run → ℤ → ℕ → HubAt → Option ℕ → ℕ → HubAt
poll_begun run first spokes hub spent n = if is_old n (last_taken hub.asks hub.events)
    then polled_on run first spokes hub spent
    else record hub { reading = Some record { first = n; words = 0 } }

-- a reading that ends at the stamp that it began at is a take
abbrev pub read_taken : Run → ℤ → HubAt → ℕ → ℕ → HubAt
read_taken run first hub began n = if nat_eq n began then record hub {
  events = taken first hub.events (source.Spoke hub.asks)
      (began / 2) (reply_of run hub.asks (began / 2));
} else hub

-- the next step of a polling, whose window has the stamp n: begin, three reads and the end
abbrev pub polled : Run → ℤ → ℕ → HubAt → Option ℕ → ℕ → Option Polling → HubAt
polled run first spokes hub spent n None = poll_begun run first spokes hub spent n
polled run first spokes hub spent n (Some reading) = if nat_lt reading.words 3
    then record hub { reading = Some record reading { words = reading.words + 1 } }
    else polled_on run first spokes (read_taken run first hub reading.first n) spent

-- the hub polls where the present put stands whole in all windows and a spoke isn't polled yet
abbrev pub may_poll : World → Bool
may_poll w = is_written w.ranks (put_at w) && nat_lt w.hub.asks (length w.spokes)

-- the hub's step: where the run has ended it stops, else it polls
abbrev pub hub_step_by : Run → ℤ → World → Option ℕ → Option End → World
hub_step_by run first w spent (Some why) = with_hub w (record w.hub { stopped = true })
hub_step_by run first w spent None = if may_poll w
    then with_hub w (polled run first (length w.spokes) w.hub spent
    (spoke_stamp (spoke_at w w.hub.asks)) w.hub.reading)
    else w

abbrev pub hub_step : Run → ℤ → World → Option ℕ → World
hub_step run first w spent = hub_step_by run first w spent w.hub.why

-- THE RANKS

-- where there is no spoke, the last rank that closes the present put decides
abbrev pub alone_decided : Run → ℤ → World → Option ℕ → World
alone_decided run first w spent = if nat_eq (length w.spokes) 0 && is_written w.ranks (put_at w)
    then with_hub w (decided run first w.hub spent) else w

-- whether rank i hasn't closed the present put
abbrev pub may_write : World → ℕ → Bool
may_write w i = nat_lt i (length w.ranks) && nat_lt (rank_at w.ranks i).last (put_at w)

-- a rank's step: it opens the present put, puts its next word, or closes it
abbrev pub rank_step : Run → ℤ → World → Option ℕ → ℕ → World
rank_step run first w spent i = if may_write w i
    then alone_decided run first (with_rank w i (written (rank_at w.ranks i) (put_at w))) spent
    else w

-- THE SPOKES

-- no reading of a part begins at this stamp: it is odd, or of the first rank not newer than the last
-- put, or of a later rank another than the first rank's
abbrev pub is_unfit : ReadingAt → ℕ → Bool
is_unfit r n = if nat_eq (n % 2) 1 then true
    else (if nat_eq r.rank 0 then nat_le (n / 2) r.last
    else (if nat_eq n r.first then false else true))

-- the next reading begins at the first rank
abbrev pub restarted : ReadingAt → ReadingAt
restarted r = record r { rank = 0; begun = false; words = 0 }

-- a reading that came to nothing: the spoke asks again
abbrev pub reads_again : SpokeAt → SpokeAt
reads_again spoke =
    record spoke { phase = Asks; reading = restarted spoke.reading }

abbrev pub part_begun : SpokeAt → ℕ → SpokeAt
part_begun spoke n = if is_unfit spoke.reading n then reads_again spoke
    else record spoke { reading = record spoke.reading { begun = true; first = n; words = 0 } }

-- a whole reading of put k: the reply is to be written, or the put is skipped, since the search of
-- this scenario is spent
abbrev pub answered : Run → SpokeAt → ℕ → Option ℕ → SpokeAt
answered run spoke k None = record spoke { phase = Opens }
answered run spoke k (Some s) = record spoke {
  phase = Asks;
  answers = spoke.answers ++ Skip k s run.options.budget ∷ [];
}

abbrev pub has_read : SpokeAt → ℕ → SpokeAt
has_read spoke k =
    record spoke { reading = record spoke.reading { rank = 0; begun = false; words = 0; last = k } }

abbrev pub next_part : SpokeAt → SpokeAt
next_part spoke = record spoke {
  reading = record spoke.reading { rank = spoke.reading.rank + 1; begun = false; words = 0 };
}

-- the part of a rank was read up to its end, where its stamp is n: the next rank's follows
abbrev pub part_ended : Run → ℕ → SpokeAt → Option ℕ → ℕ → SpokeAt
part_ended run ranks spoke spent n = if nat_eq n spoke.reading.first
    then (if nat_lt (spoke.reading.rank + 1) ranks
    then next_part spoke
    else answered run (has_read spoke (spoke.reading.first / 2)) (spoke.reading.first / 2) spent)
    else reads_again spoke

-- the next step of a reading, of a part of this width, whose stamp is n: begin, reads and the end
abbrev pub read_on : Run → ℕ → SpokeAt → Option ℕ → ℕ → ℕ → SpokeAt
read_on run ranks spoke spent width n = if spoke.reading.begun
    then (if nat_lt spoke.reading.words width
    then record spoke { reading = record spoke.reading { words = spoke.reading.words + 1 } }
    else part_ended run ranks spoke spent n)
    else part_begun spoke n

-- the next step of a reply: a word, or the close, behind which it is an answer
abbrev pub write_on : Run → ℕ → SpokeAt → ℕ → SpokeAt
write_on run i spoke n = if nat_lt n 3 then record spoke { phase = Writes (n + 1) }
    else record spoke {
      phase = Asks;
      answers = spoke.answers
          ++ Reply spoke.reading.last (reply_of run i spoke.reading.last) ∷ [];
    }

-- a spoke that asks reads as long as the hub hasn't stopped, and has ended else
abbrev pub phase_asked : Bool → Phase
phase_asked stopped = if stopped then Ended else Reads

-- the step of spoke i in its phase
abbrev pub spoke_next : Run → World → Option ℕ → ℕ → SpokeAt → Phase → SpokeAt
spoke_next run w spent i spoke Asks = record spoke { phase = phase_asked w.hub.stopped }
spoke_next run w spent i spoke Reads =
    read_on run (length w.ranks) spoke spent (rank_at w.ranks spoke.reading.rank).width
    (rank_stamp (rank_at w.ranks spoke.reading.rank) (put_at w))
spoke_next run w spent i spoke Opens = record spoke { phase = Writes 0 }
spoke_next run w spent i spoke (Writes n) = write_on run i spoke n
spoke_next run w spent i spoke Ended = spoke

abbrev pub spoke_step : Run → World → Option ℕ → ℕ → World
spoke_step run w spent i =
    with_spoke w i (spoke_next run w spent i (spoke_at w i) (spoke_at w i).phase)

-- one step of an actor, or none where it has none. Where the step has a search to do, this is the
-- scenario whose search is spent, if one is.
abbrev pub step : Run → ℤ → World → Option ℕ → Actor → World
step run first w spent Hub = hub_step run first w spent
step run first w spent (Rank i) = rank_step run first w spent i
step run first w spent (Spoke i) = spoke_step run w spent i
