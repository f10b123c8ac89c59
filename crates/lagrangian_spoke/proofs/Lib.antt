mod Closing
mod FinishingSpoke
pub mod FirstBest
mod Leading
mod Proceeding
mod ReadLeading
mod Replying
mod Standing
mod StartingSpoke
mod Valuing
