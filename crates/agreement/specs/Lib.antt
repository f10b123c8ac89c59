pub mod Agreeing
pub use Rattle.put_words.specs.NodeSums
pub use Rattle.put_words.specs.Puts
pub use Rattle.sp_model.specs.Plans
pub use Rattle.tree_core.specs.Nodes
