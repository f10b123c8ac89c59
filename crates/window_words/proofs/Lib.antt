pub mod Keeping
pub mod Listed
pub mod Readers
pub mod Sharing
pub mod Stamps
pub mod Stopping
pub mod WindowPlaces
pub mod Writers
