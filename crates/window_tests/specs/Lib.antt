pub mod Phases
pub mod Ranks
pub mod Words
