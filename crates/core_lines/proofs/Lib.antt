pub mod AnyBelow
mod CellLaws
mod FlagLaws
pub mod LatestLaws
pub mod NextLaw
mod Readings
mod RoundedSizes
