pub mod Balance
mod Capped
pub mod Finding
mod ScenarioSums
pub mod Within
mod Costs
mod Data
