pub mod CallerLemmas
mod PathLemmas
mod ModelLemmas
mod NumberLemmas
mod ChainLemmas
mod DecisionLemmas
mod SetLemmas
mod ColumnLemmas
mod KeptLemmas
