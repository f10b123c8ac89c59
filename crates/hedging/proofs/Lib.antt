mod Cells
mod Filling
mod Fitting
mod Makings
mod Places
mod Solvable
