pub mod Closings
pub mod Marks
pub use Rattle.lagrangian_spoke.specs.Answering
pub use Rattle.put_words.specs.NextMultipliers
pub use Rattle.put_words.specs.Puts
pub use Rattle.run_log.specs.Events
pub use Rattle.run_log.specs.Runs
