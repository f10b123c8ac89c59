mod Digits
mod PairLaws
