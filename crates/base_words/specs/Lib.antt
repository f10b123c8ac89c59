pub mod FirstAnswers
pub mod Gathered
pub mod ListSums
pub mod Signs
pub mod Sums
pub mod Tests
