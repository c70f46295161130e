mod TableLemmas
mod WrongSums
mod Amounts
mod Replies
mod Guards
mod FaultPlaces
mod SolvedLemmas
