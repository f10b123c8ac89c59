pub mod DigitLaws
pub mod LimitLaws
pub mod Powers
mod ReadLaws
mod StripLaws
mod ValueLaws
