pub mod Worlds
pub mod Steps
pub mod Driving
pub mod Resting
pub mod Leading
pub mod Shown
