pub mod FractionText
pub mod LowestTerms
pub mod Quotients
pub mod RoomContents
pub use Rattle.base_words.specs.Signs
