mod Sitting
mod Tabling
