pub mod Agreed
pub mod LateStages
pub mod MadePoints
mod Tests
