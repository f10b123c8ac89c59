pub mod Bounded
pub mod Bundles
mod Cells
mod Floors
pub mod Following
pub mod Inside
mod Moves
pub mod Points
pub mod Pulls
pub mod Rises
pub mod Spans
pub mod Unpriced
pub mod Weights
