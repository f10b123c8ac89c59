-- The hub of a run: what it keeps between its calls, and what each call changes.

use Rattle.std.specs.Prelude.{◌≡◌, ℕ, ◌+◌, ◌-◌, ◌*◌, ◌≤◌, false, List, [], ◌∷◌, ◌++◌, length, map, ℤ, Option, Some, None, replicate}
use Rattle.sp_model.specs.Problems.{wait_and_see_of}
use Rattle.sp_model.specs.declared.plan.Plan.{Plan}
use Rattle.sp_model.specs.declared.run.Run.{Run}
use Rattle.put_words.specs.NextMultipliers.{no_multipliers}
use Rattle.put_words.specs.Puts.{put_of}
use Rattle.bound_ledger.specs.declared.ledger.Pair.{Pair}
use Rattle.hedging.specs.Hedges.{made_of}
use Rattle.run_log.specs.Events.{next_spoke, pair_in, present}
use Rattle.log_words.specs.declared.log.SpokeEnd.{SpokeEnd}
use Rattle.run_log.specs.Runs.{AreEvents, EndsBy, GoesOn, claim_of, left_from, own_claims}
use Rattle.run_log.specs.declared.log.End.{End}
use Rattle.run_log.specs.declared.log.End.TheVariants.{Agreed, Gap, Iterations, Spent}
use Rattle.run_log.specs.declared.log.Event.{Event}
use Rattle.run_log.specs.declared.log.Event.TheVariants.{Put, Take}
use Rattle.run_log.specs.declared.log.Log.{Log}
use Rattle.run_log.specs.declared.log.Source.TheVariants.{Spoke}
use Rattle.run_log.specs.declared.log.Upper.{Upper}
use Rattle.log_closing.specs.Closings.{logs_of}
use Rattle.log_closing.specs.Marks.{AreMarked, puts_of, spokes_of}
use Rattle.hub_cylinder.specs.declared.deciding.Decision.{Decision}
use Rattle.hub_cylinder.specs.declared.deciding.Decision.TheVariants.{Go, Stop}
use Rattle.hub_cylinder.specs.declared.hub.Hub.{Hub}
use Rattle.hub_cylinder.specs.declared.starting.Rooms.{Rooms}

-- how many events a run has at most up to the end of its last polling
abbrev pub polled_most : Run → ℕ
polled_most run = puts_of run * (spokes_of run + 1)

-- how many takes come at most behind it: each reply, and the hub's own
abbrev pub closing_most : Run → ℕ
closing_most run = puts_of run * spokes_of run + 1

-- there is room for all events that may still come
pub record HaveRoom (run : Run) (events : List Event) (spare : ℕ) : Type 0 where
  pub asked : next_spoke events ≤ spokes_of run
  pub few : length events + (spokes_of run - next_spoke events)
      ≤ present events * (spokes_of run + 1)
  pub room : length events + spare ≡ polled_most run + closing_most run

-- what a hub keeps: its put is the present one of its events, which are those of a run up to some
-- place of a polling, or up to the end of the last; its pair is theirs
pub record IsHub (run : Run) (hub : Hub) : Type 0 where
  pub of : hub.run.value ≡ run
  pub alone : run.options.xhat ≡ 0
  pub most : hub.most ≡ puts_of run
  pub some : 1 ≤ present hub.events.items
  pub within : present hub.events.items ≤ puts_of run
  pub number : hub.hedge.put.number ≡ present hub.events.items
  pub put : put_of run (present hub.events.items) ≡ Some (made_of hub.hedge)
  pub bound : wait_and_see_of run ≡ Some hub.hedge.bound
  pub events : AreEvents run hub.hedge.bound hub.events.items
  pub pair : hub.ledger.pair ≡ pair_in hub.hedge.bound hub.events.items
  pub room : HaveRoom run hub.events.items hub.events.spare
  pub marks : AreMarked run hub.most hub.marks hub.events.items
  pub logs : hub.logs.items ≡ []
  pub logs_room : hub.logs.spare ≡ spokes_of run
  pub nothing : hub.nothing ≡ no_multipliers run
  pub ended : (end : End) → hub.end ≡ Some end
      → EndsBy run (present hub.events.items) (pair_in hub.hedge.bound hub.events.items) end

-- a hub that has made the first put alone
pub record IsFresh (hub : Hub) : Type 0 where
  pub events : hub.events.items ≡ Put 1 ∷ []
  pub wrote : hub.wrote ≡ false
  pub end : hub.end ≡ None

-- the room for the log of a run
pub record AreRooms (run : Run) (rooms : Rooms) : Type 0 where
  pub events : rooms.events.items ≡ []
  pub events_room : rooms.events.spare ≡ polled_most run + closing_most run
  pub marks : rooms.marks ≡ replicate (spokes_of run * (puts_of run + 1)) false
  pub logs : rooms.logs.items ≡ []
  pub logs_room : rooms.logs.spare ≡ spokes_of run
  pub nothing : rooms.nothing ≡ no_multipliers run

-- spoke i's reply to put k is taken, with the pair behind it; all else stays
pub record Takes (hub hub' : Hub) (i k : ℕ) (value : Option ℤ) : Type 0 where
  pub events : hub'.events.items
      ≡ hub.events.items
      ++ Take (Spoke i) k value hub'.ledger.pair.lower hub'.ledger.pair.upper ∷ []
  pub run : hub'.run ≡ hub.run
  pub hedge : hub'.hedge ≡ hub.hedge
  pub wrote : hub'.wrote ≡ hub.wrote
  pub end : hub'.end ≡ hub.end

-- a test ends the run
abbrev pub EndsByTest : Run → ℕ → Pair → End → Type 0
EndsByTest run k pair Agreed = EndsBy run k pair Agreed
EndsByTest run k pair Gap = EndsBy run k pair Gap
EndsByTest run k pair Iterations = EndsBy run k pair Iterations
EndsByTest run k pair (Spent s) = ⊥

-- the next put is made, since no test ends the run
pub record HasGone (run : Run) (hub hub' : Hub) : Type 0 where
  pub goes_on : GoesOn run (present hub.events.items) hub.ledger.pair
  pub events : hub'.events.items
      ≡ hub.events.items ++ Put (present hub.events.items + 1) ∷ []
  pub wrote : hub'.wrote ≡ false
  pub end : hub'.end ≡ None

-- the run has ended behind the present put
pub record HasStopped (run : Run) (hub hub' : Hub) : Type 0 where
  pub why : End
  pub end : hub'.end ≡ Some why
  pub ends : EndsBy run (present hub.events.items) hub.ledger.pair why
  pub same : hub' ≡ record hub { end = Some why }

abbrev pub Decides : Run → Hub → Hub → Decision → Type 0
Decides run hub hub' Go = HasGone run hub hub'
Decides run hub hub' Stop = HasStopped run hub hub'

-- an upper bound that is the cost of a plan
abbrev pub with_plan : Plan → ℤ → Upper
with_plan plan value = record { value = value; plan = plan }

-- a log is that of a hub and its spokes: it has the hub's events, and behind them the takes of the
-- hub's own claims and of each reply that is left
pub record Closes (run : Run) (hub : Hub) (ends : List SpokeEnd) (log : Log) : Type 0 where
  pub first : log.first ≡ hub.hedge.bound
  pub closing : List Event
  pub events : log.events ≡ hub.events.items ++ closing
  pub end : hub.end ≡ Some log.end
  pub spokes : log.spokes ≡ logs_of ends
  pub rest : map claim_of closing
      ≡ map Some (own_claims run (present hub.events.items) log.end
      ++ left_from hub.events.items 0 log.spokes)
