pub mod Magnitudes
pub mod Listing
mod Stepping
pub mod Least
pub mod RowTests
pub mod SameData
pub mod Members
mod Ordered
pub mod Optimal
mod PointCounts
pub mod FixingLaws
pub mod Narrower
pub mod Lying
