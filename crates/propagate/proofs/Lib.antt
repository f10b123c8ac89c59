pub mod Backing
mod ClipLaws
mod Mixed
pub mod RangeLaws
mod RangingLaws
pub mod Setting
pub mod SpanLaws
pub mod TightLaws
pub mod Widening
