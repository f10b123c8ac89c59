pub mod Conditions
pub mod Rule
pub mod Seating
pub mod Steps
pub mod Views
