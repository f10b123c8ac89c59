mod Due
mod Standing
