mod Accepting
mod CellWords
pub mod Putting
mod SpokeReading
mod Taking
