mod NameOrder
mod Stored
pub mod Writing
