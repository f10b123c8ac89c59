pub mod Listing
pub mod OncePlaces
mod FirstOnes
mod Stages
mod Alike
pub mod TreeLaws
pub mod Finding
