pub use Rattle.boxed_problem.specs.Data
