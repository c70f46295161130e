pub mod CallerLemmas
mod NumberLemmas
mod WeightLemmas
mod PathLemmas
mod KeptLemmas
mod SmallFormLemmas
mod FoundLemmas
mod BackedSizes
mod BestLemmas
mod ThroughLemmas
mod FormLemmas
mod SizeLemmas
mod GreatestLemmas
