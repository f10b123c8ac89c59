pub mod Drivers
pub mod Seats
pub use Rattle.drive_words.specs.Leading
pub use Rattle.drive_words.specs.Driving
pub use Rattle.drive_words.specs.Resting
pub use Rattle.drive_words.specs.Worlds
pub mod Asking
pub mod Ends
