mod Answering
mod Boards
mod Fewness
mod Opening
mod PlainCalls
mod PlainSteps
mod Roominess
mod Shown
