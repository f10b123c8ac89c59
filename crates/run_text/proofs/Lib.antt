mod Putting
mod Numbering
mod Tokens
mod Reading
mod Answered
mod Same
