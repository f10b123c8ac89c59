pub mod Asking
pub mod EntryOrder
mod Fields
pub mod FoldLaw
pub mod PeriodStages
pub mod PlaceLaw
mod StageLaws
pub mod ToldAt
pub mod ToldLaws
