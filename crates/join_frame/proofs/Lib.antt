mod Commons
mod Framed
