mod Positions
mod ClippedDigits
mod EmptyPlaces
mod WholeAnswers
pub mod CallerLemmas
