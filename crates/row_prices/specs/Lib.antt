pub mod Ascending
pub use Rattle.base_words.specs.Sums
pub use Rattle.boxed_problem.specs.Data
pub use Rattle.boxed_problem.specs.BoxedFacts
pub use Rattle.boxed_problem.specs.PriceFit
pub use Rattle.boxed_problem.specs.Sides
pub use Rattle.safe_bound.specs.PriceBound
pub use Rattle.safe_bound.specs.PriceWeights
