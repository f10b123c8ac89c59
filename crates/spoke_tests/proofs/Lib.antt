mod Benching
mod Finishing
mod Parts
mod Seating
