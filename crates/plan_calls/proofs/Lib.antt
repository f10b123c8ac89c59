mod LookingUp
mod EntryMoves
mod ActivityBounds
mod PlanValues
mod PlanFailures
mod MultiplierDecisions
