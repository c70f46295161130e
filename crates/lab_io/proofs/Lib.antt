pub mod CallerLemmas
mod Feeds
mod Fronts
mod Givings
mod Stops
