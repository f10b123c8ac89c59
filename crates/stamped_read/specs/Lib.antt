pub mod Readers
pub mod Promises
pub use Rattle.wide_num.specs.RoomContents
pub use Rattle.window_words.specs.Views
