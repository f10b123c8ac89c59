pub mod Numerals
pub mod Settings
pub mod Words
pub use Rattle.base_words.specs.Tests
pub use Rattle.sp_model.specs.RunFacts
