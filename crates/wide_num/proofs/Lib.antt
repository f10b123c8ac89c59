mod QuotientLemmas
pub mod LowestLemmas
mod UniqueLemmas
