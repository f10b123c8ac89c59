mod Ranges
pub mod Units
