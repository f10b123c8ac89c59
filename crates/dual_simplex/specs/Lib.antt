pub mod Capped
pub use Rattle.base_words.specs.Sums
pub use Rattle.boxed_problem.specs.Data
pub use Rattle.boxed_problem.specs.BoxedFacts
pub use Rattle.boxed_problem.specs.PriceFit
