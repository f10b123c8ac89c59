mod Benches
mod Following
mod Phasing
mod Ranking
