pub mod CallerLemmas
mod Collecting
mod EndLemmas
mod FaultLemmas
mod LineCuts
mod LineLimits
mod PartLemmas
mod PieceLemmas
mod PlainLemmas
mod RefusalLemmas
