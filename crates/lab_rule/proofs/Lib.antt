pub mod CallerLemmas
mod AllowanceLemmas
mod ViewProps
mod ViewLemmas
mod StepLemmas
mod FactorLemmas
mod GadgetLemmas
mod GadgetRows
mod WritingLemmas
