mod Adding
mod Answering
mod Facts
mod Rising
