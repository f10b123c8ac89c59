pub mod Writers
pub use Rattle.put_codec.specs.Entries
pub use Rattle.put_codec.specs.Layouts
pub use Rattle.put_words.specs.Puts
