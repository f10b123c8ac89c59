pub mod Advancing
pub mod FoundPuts
mod Besting
pub mod Leaving
pub mod Lowest
pub mod Marking
mod Members
pub mod Pushing
mod TakingLeft
