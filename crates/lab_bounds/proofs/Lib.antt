mod WeightSizes
mod BackedSizes
mod SearchLemmas
mod SmallFormLemmas
