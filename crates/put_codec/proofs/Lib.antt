mod Existing
pub mod Fitting
pub mod Pieces
pub mod Places
mod PriceSizes
pub mod ReplyWords
pub mod Spellable
mod Words
