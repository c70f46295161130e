mod FirstPairs
mod FaultLemmas
mod NameLemmas
