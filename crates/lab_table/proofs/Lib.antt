pub mod CallerLemmas
mod QuotientLemmas
mod HandingLemmas
mod PlaceLemmas
mod EvenLemmas
mod SpliceLemmas
mod SumLemmas
