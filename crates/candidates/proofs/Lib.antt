pub mod Costing
mod FilledIn
mod Fixed
mod Means
mod Sharing
