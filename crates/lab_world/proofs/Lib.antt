mod ActionNameLemmas
pub mod CallerLemmas
mod EachLemmas
mod FilledLemmas
mod MadeLemmas
mod OrderLemmas
mod PartLemmas
mod PlaceLemmas
mod RowLemmas
mod RunLemmas
mod SearchLemmas
mod SizeLemmas
