pub mod MemberSums
pub mod MostBounds
mod MultiplierFaults
pub mod NumberedAnswers
