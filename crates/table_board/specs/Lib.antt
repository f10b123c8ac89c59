pub mod Seats
pub mod Tables
pub use Rattle.window_places.specs.Places
pub use Rattle.window_words.specs.Rule
pub use Rattle.window_words.specs.Seating
pub use Rattle.window_words.specs.Steps
pub use Rattle.window_words.specs.Views
