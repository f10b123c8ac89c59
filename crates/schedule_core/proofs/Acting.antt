-- The actors of a schedule that was read beside the run's ranks and spokes are the run's.
use Rattle.std.proofs.Common.{arith, ◌≤◌, ℕ, List}
use Rattle.std.proofs.lemmas.List.Elements.{All-weaker}
use Rattle.schedule_core.specs.Drivers.{AreActors, IsActor}
use Rattle.schedule_lines.specs.Schedules.{IsScheduleOf, IsThere, IsTurnOf, crew_of}
use Rattle.schedule_lines.specs.declared.schedule.Actor.{Actor}
use Rattle.schedule_lines.specs.declared.schedule.Actor.TheVariants.{Hub, Rank, Spoke}
use Rattle.schedule_lines.specs.declared.schedule.Turn.{Turn}
use Rattle.sp_model.specs.declared.run.Run.{Run}

there_acts : (run : Run) (spokes : ℕ) → spokes ≤ run.options.lagrangian → (actor : Actor) → IsThere (crew_of run.options.ranks spokes) actor → IsActor run actor
there_acts run spokes few Hub there = tt
there_acts run spokes few (Rank i) there = there
there_acts run spokes few (Spoke i) there = omega (arith, few, there)

pub crew_acts : (run : Run) (spokes : ℕ) (turns : List Turn) → spokes ≤ run.options.lagrangian → IsScheduleOf (crew_of run.options.ranks spokes) turns → AreActors run turns
crew_acts run spokes turns few of =
    All-weaker (IsTurnOf (crew_of run.options.ranks spokes)) (λ (turn : Turn). IsActor run turn.actor) (λ turn is. there_acts run spokes few turn.actor is.there) turns of.each
