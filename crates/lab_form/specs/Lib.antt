pub mod Forms
pub mod Chains
pub mod Decisions
pub mod Columns
