pub mod Acting
mod BoundsFit
mod Calling
mod Closing
mod Crew
pub mod Decisions
pub mod Frames
mod FreshDriver
mod Halting
mod NewCrew
mod NewSeats
mod OneMeaning
mod PollLeads
mod Polling
mod RankAsks
mod RankWrites
mod Ranking
mod Resting
mod SeatCalls
mod SpokeAsks
mod SpokeMoves
pub mod Stamps
mod Steps
