pub mod Vertex
pub mod LeastLaws
mod KeyedSums
pub mod PriceLaws
mod RunLaws
pub mod PriceSizes
mod ReducedLaws
mod UnderLaws
