mod AddLemmas
pub mod CallerLemmas
mod PrefixLemmas
mod RefusalLemmas
mod ShownLemmas
