pub mod DecimalValue
pub mod Scale
pub mod Spelling
pub mod SpellingOfParts
pub mod Stripped
pub use Rattle.base_words.specs.Signs
