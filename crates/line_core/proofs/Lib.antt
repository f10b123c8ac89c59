mod Parts
mod Found
pub mod Numbered
mod Runs
mod Whole
mod Turns
