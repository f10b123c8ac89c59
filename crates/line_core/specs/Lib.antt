pub mod Fields
pub mod SplitLines
pub mod Names
pub mod Runs
