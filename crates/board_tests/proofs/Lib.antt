mod Calling
mod Crossing
mod Desking
mod Meanings
mod Placing
mod Seating
mod Writing
