mod Agreement
pub mod Apart
mod Staying
pub mod Digits
mod Keeping
mod Marks
pub mod Nesting
mod Order
mod OwnMarks
mod Rows
mod ScenarioValues
mod WeightSums
