pub mod ReadingSteps
pub mod Schedules
pub mod TurnWords
pub use Rattle.line_core.specs.Fields
pub use Rattle.line_core.specs.SplitLines
pub use Rattle.smps_words.specs.FirstPlaces
pub use Rattle.smps_words.specs.Memory
pub use Rattle.smps_words.specs.Outcomes
