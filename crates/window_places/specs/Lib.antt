pub mod Places
pub use Rattle.window_words.specs.Rule
