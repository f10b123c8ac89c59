mod PricedSums
mod Existing
