pub mod Standing
mod Freshness
