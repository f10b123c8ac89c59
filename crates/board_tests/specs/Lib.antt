pub mod Desks
pub mod Sitting
pub use Rattle.lagrangian_spoke.specs.Spokes
pub use Rattle.put_codec.specs.Layouts
pub use Rattle.put_read.specs.Reads
pub use Rattle.window_words.specs.Seating
