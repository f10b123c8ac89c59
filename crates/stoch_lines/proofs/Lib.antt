pub mod Adding
pub mod Answering
mod Elements
pub mod Equal
mod Marking
pub mod Positions
