mod Fitting
mod Turns
