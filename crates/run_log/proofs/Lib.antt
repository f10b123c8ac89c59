pub mod Enclosing
pub mod SoundBounds
mod SpokeLogs
