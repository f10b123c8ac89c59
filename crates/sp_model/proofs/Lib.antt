pub mod Duality
pub mod SumSome
pub mod EntryOrder
pub mod Putting
mod MergeSteps
pub mod Cells
pub mod Sizes
pub mod ProgramReach
pub mod CostSpans
pub mod Bounds
pub mod DataFacts
pub mod Lengths
pub mod PlaceValues
pub mod ScenarioPoints
pub mod LeastValues
pub mod LeastSums
