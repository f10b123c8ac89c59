mod Answering
mod Telling
mod Within
